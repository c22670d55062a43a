-- A bag is a list whose order does not count: two lists are one bag where one is the other in another
-- order, so that every test counts the same in both. Our own rule.
use Rattle.std.specs.Prelude.{List, ◌∷◌}
use Rattle.std.specs.List.Sorted.{IsPermutation}

abbrev pub SameBag : {X : Type 0} → List X → List X → Type 0
SameBag xs ys = IsPermutation xs ys

-- `left` is the bag with one x taken out
abbrev pub TakesOne : {X : Type 0} → List X → X → List X → Type 0
TakesOne bag x left = SameBag bag (x ∷ left)
