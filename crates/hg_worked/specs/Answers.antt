-- The rows of a SELECT: as the definition lists them, and in the order of its keys.
use Rattle.std.specs.Prelude.{ℕ, List, [], ◌∷◌, cond, map}
use Rattle.hg_model.specs.Order.{Pair, stands_before}
use Rattle.hg_model.specs.Query.{Query}
use Rattle.hg_model.specs.SelectMeaning.{meaning}
use Rattle.hg_model.specs.Tables.{Table}
use Rattle.hg_model.specs.declared.values.Value.{Value}

unfoldable pub answer : Query → List ℕ → List Table → List (List Value)
answer q texts tables = map (λ (p : Pair). p.row) (meaning q texts tables)

-- a pair among others that are in order
abbrev pub placed : Pair → List Pair → List Pair
placed p [] = p ∷ []
placed p (q ∷ qs) = cond (stands_before q p) (q ∷ placed p qs) (p ∷ q ∷ qs)

abbrev pub sorted : List Pair → List Pair
sorted [] = []
sorted (p ∷ ps) = placed p (sorted ps)

unfoldable pub ordered : Query → List ℕ → List Table → List (List Value)
ordered q texts tables = map (λ (p : Pair). p.row) (sorted (meaning q texts tables))
