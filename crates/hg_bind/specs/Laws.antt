-- Laws of bound statements: a place is the position in a row of the cross product, a key of ORDER BY orders by
-- what it did; what can be evaluated still can, and each column has its place. Our own rule.
use Rattle.std.specs.Prelude.{◌≡◌, ◌<◌, ◌≤◌, ℕ, List, [], ◌∷◌, ⊤, map, length, slice_get, slice_index}
use Rattle.hg_model.specs.Query.{Query}
use Rattle.hg_model.specs.Scope.{scope_of, positions_of}
use Rattle.hg_model.specs.SelectMeaning.{targets_of}
use Rattle.hg_model.specs.Tables.{Table}
use Rattle.hg_model.specs.Width.{IsSound}
use Rattle.hg_model.specs.declared.trees.Node.{Node}
use Rattle.hg_model.specs.declared.trees.Node.TheVariants as node
use Rattle.hg_model.specs.declared.trees.OrderKey.{OrderKey}
use Rattle.hg_bind.specs.BoundMeaning.{KeysStandApart}
use Rattle.hg_bind.specs.BoundSelect.{IsBoundSelect, bound_target, place_of_found, position_at, widths_of}

-- the place of a column of FROM is its position in a row of the cross product, and that of none the one behind
-- the last
abbrev pub PlacesArePositions : Type 0
PlacesArePositions = (tables : List Table) (q : Query) (position : ℕ) → length q.tables ≤ 4 → position ≤ length (scope_of tables q)
    → position_at (widths_of tables q.tables) (place_of_found (slice_get (scope_of tables q) position)) ≡ position

-- a key of a bound SELECT orders by what the name, or the position, of the statement stands for
abbrev pub KeysOrderAlike : Type 0
KeysOrderAlike = (tables : List Table) (q bound : Query) (numbers : List ℕ) (places : List (ℕ × ℕ)) → IsBoundSelect tables q bound numbers places
    → map (λ (k : OrderKey). (k.descending, bound_target k.by)) bound.order ≡ targets_of (scope_of tables q) (positions_of (scope_of tables q) q) q

-- what has to hold of the nodes of a statement, so that they can be evaluated in 128 bits, holds of its bound form
abbrev pub BoundIsSound : Type 0
BoundIsSound = (tables : List Table) (q bound : Query) (texts numbers : List ℕ) (places : List (ℕ × ℕ)) → IsBoundSelect tables q bound numbers places
    → IsSound texts q.nodes → IsSound texts bound.nodes

-- each column node has the place of a column: the number of a table of FROM, and that of a column that it has
abbrev pub HasColumn : List ℕ → Node → ℕ × ℕ → Type 0
HasColumn widths (node.Col c) place = (place.0 < length widths) × (place.1 < slice_index widths place.0)
HasColumn widths _ place = place ≡ (255, 255)

abbrev pub HaveColumns : List ℕ → List Node → List (ℕ × ℕ) → Type 0
HaveColumns widths [] [] = ⊤
HaveColumns widths [] (p ∷ ps) = ⊥
HaveColumns widths (n ∷ ns) [] = ⊥
HaveColumns widths (n ∷ ns) (p ∷ ps) = HasColumn widths n p × HaveColumns widths ns ps

abbrev pub ColumnsHavePlaces : Type 0
ColumnsHavePlaces = (tables : List Table) (q bound : Query) (numbers : List ℕ) (places : List (ℕ × ℕ)) → IsBoundSelect tables q bound numbers places
    → KeysStandApart q → HaveColumns (widths_of tables q.tables) bound.nodes places
