-- How long keys are.
use Rattle.std.proofs.Common.{◌≡◌, ℤ, suc, [], ◌∷◌, length, refl, ap, arith, length-append}
use Rattle.hg_model.specs.declared.values.Value.TheVariants.{Null, Int, Text}
use Rattle.hg_value.specs.Keys.{raised, narrow_raised, wide_raised}
use Rattle.hg_value.specs.Laws.{IndexKeysAreAsLong, WorkingKeysAreAsLong}
use Rattle.hg_value.proofs.Digits.{length-high_first}

length-narrow_raised : (x : ℤ) → length (narrow_raised x) ≡ 4
unfolding narrow_raised
length-narrow_raised x = length-high_first 4 (raised 31 x)

length-wide_raised : (x : ℤ) → length (wide_raised x) ≡ 16
unfolding wide_raised
length-wide_raised x = length-high_first 16 (raised 127 x)

pub length-index_key : IndexKeysAreAsLong
length-index_key Null = refl
length-index_key (Int x) = ap suc (length-narrow_raised x)
length-index_key (Text t) = omega (arith, length-append t (0 ∷ []))

pub length-working_key : WorkingKeysAreAsLong
length-working_key Null = refl
length-working_key (Int x) = ap suc (length-wide_raised x)
length-working_key (Text t) = omega (arith, length-append t (0 ∷ []))
