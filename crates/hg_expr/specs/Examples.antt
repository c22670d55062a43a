-- The row of the tests: 5, NULL, 'ab', 'abc', 2147483647, -2147483648 and the empty text.
use Rattle.std.specs.Prelude.{ℕ, pos, negsuc, List, [], ◌∷◌}
use Rattle.hg_model.specs.declared.values.Value.{Value}
use Rattle.hg_model.specs.declared.values.Value.TheVariants.{Null, Int, Text}

abbrev pub seven : List Value
seven =
    Int (pos 5) ∷ Null ∷ Text (97 ∷ 98 ∷ []) ∷ Text (97 ∷ 98 ∷ 99 ∷ []) ∷ Int (pos 2147483647) ∷ Int (negsuc 2147483647) ∷ Text [] ∷ []
