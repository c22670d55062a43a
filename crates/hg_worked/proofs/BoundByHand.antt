-- The statement of the test of `slow_select` is bound, and groups nothing.
use Rattle.std.specs.Prelude.{◌≡◌, [], None, false, refl}
use Rattle.hg_model.specs.Binding.{select_refusal}
use Rattle.hg_model.specs.Refusal.{first_cause}
use Rattle.hg_model.specs.SelectMeaning.{too_many}
use Rattle.hg_model.specs.Types.{binary_digits, digits_within}
use Rattle.hg_worked.specs.Samples.{above_one, tables_20}

pub is_bound : select_refusal tables_20 above_one ≡ None
unfolding select_refusal first_cause binary_digits digits_within
is_bound = refl

pub groups_few : too_many above_one [] tables_20 ≡ false
unfolding too_many
groups_few = refl
