-- Laws of the definitions. Each stands on the contract of a small function of this crate.
use Rattle.std.specs.Prelude.{◌≡◌, ℕ, Bool, false, List, [], ◌∷◌, ◌++◌, ◌^◌, ◌≤◌, length, IsTrue, ⊤}
use Rattle.std.specs.List.{list_all, count_by, AllByRecursion}
use Rattle.hg_model.specs.Bag.{SameBag, TakesOne}
use Rattle.hg_model.specs.Evaluation.{value_of}
use Rattle.hg_model.specs.Order.{Pair, GivenInTurn, stands_before}
use Rattle.hg_model.specs.SelectMeaning.{Setting, row_values, group_values}
use Rattle.hg_model.specs.Types.{bound_at, bounds_of}
use Rattle.hg_model.specs.Width.{IsBelow, IsSound, is_small_row}
use Rattle.hg_model.specs.declared.values.Value.{Value}

-- over a row of 32-bit numbers the value of each node lies below 2^bound in magnitude
abbrev pub RowValuesLieBelow : Type 0
RowValuesLieBelow = (s : Setting) (row : List Value) → IsSound s.texts s.query.nodes → IsTrue (is_small_row row)
    → (k : ℕ) → IsBelow (bound_at (bounds_of s.query.nodes) k) (value_of (row_values s row) k)

-- and so does that of each node over a group of at most 2^30 such rows
abbrev pub GroupValuesLieBelow : Type 0
GroupValuesLieBelow = (s : Setting) (rows : List (List Value)) → IsSound s.texts s.query.nodes → IsTrue (list_all is_small_row rows) → length rows ≤ 2 ^ 30
    → (k : ℕ) → IsBelow (bound_at (bounds_of s.query.nodes) k) (value_of (group_values s rows) k)

-- no pair stands before an earlier one
abbrev pub InOrder : List Pair → Type 0
InOrder [] = ⊤
InOrder (p ∷ ps) = AllByRecursion (λ later. stands_before later p ≡ false) ps × InOrder ps

-- pairs given one by one until none is left are the pairs that were there, in the order of their keys
abbrev pub TurnsGiveAll : Type 0
TurnsGiveAll = (left pairs : List Pair) → GivenInTurn left pairs → SameBag left pairs × InOrder pairs

-- bags: equality is one, every test counts alike, they append, and one may be taken from anywhere
abbrev pub BagsAreEqual : Type 0 → Type 0
BagsAreEqual X = ((xs : List X) → SameBag xs xs) × ((xs ys : List X) → SameBag xs ys → SameBag ys xs) × ((xs ys zs : List X) → SameBag xs ys → SameBag ys zs → SameBag xs zs)

abbrev pub BagsCountAlike : Type 0 → Type 0
BagsCountAlike X = (test : X → Bool) (xs ys : List X) → SameBag xs ys → count_by test ys ≡ count_by test xs

abbrev pub BagsAppend : Type 0 → Type 0
BagsAppend X = (xs ys us vs : List X) → SameBag xs ys → SameBag us vs → SameBag (xs ++ us) (ys ++ vs)

abbrev pub BagsTakeOne : Type 0 → Type 0
BagsTakeOne X = (front back : List X) (x : X) → TakesOne (front ++ x ∷ back) x (front ++ back)
