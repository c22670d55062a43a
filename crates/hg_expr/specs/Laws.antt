-- Laws of evaluation over rows of named columns. Each stands on the contract of a small function of this
-- crate.
use Rattle.std.specs.Prelude.{◌≡◌, ℕ, suc, false, List, [], ◌∷◌, ◌++◌, ◌<◌, ◌≤◌, ⊤, length, take, slice_index_or, IsTrue}
use Rattle.std.specs.List.{flat_map, list_all, list_any}
use Rattle.hg_model.specs.Binding.{free_from, columns_at}
use Rattle.hg_model.specs.Conditions.{are_there, table_at}
use Rattle.hg_model.specs.Evaluation.{value_at, value_of, truth_of}
use Rattle.hg_model.specs.SelectMeaning.{is_aggregate, node_values}
use Rattle.hg_model.specs.Width.{is_small_row}
use Rattle.hg_model.specs.declared.tables.FromColumn.{FromColumn}
use Rattle.hg_model.specs.declared.values.Value.{Value}
use Rattle.hg_model.specs.declared.trees.Node.{Node}
use Rattle.hg_model.specs.declared.trees.Node.TheVariants as node
use Rattle.hg_value.specs.Looks.{chosen}
use Rattle.hg_expr.specs.Over.{values_over, RowFits}
use Rattle.hg_expr.specs.Slots.{named_columns, slots_of, ArePlaced}

-- no aggregate has its value in a row of that width
abbrev pub IsBehind : ℕ → Node → ℕ → Type 0
IsBehind width (node.Aggregate f a) slot = width ≤ slot
IsBehind width _ slot = ⊤

abbrev pub AggregatesAreBehind : ℕ → List Node → List ℕ → Type 0
AggregatesAreBehind width [] slots = ⊤
AggregatesAreBehind width (n ∷ ns) [] = ⊤
AggregatesAreBehind width (n ∷ ns) (s ∷ ss) = IsBehind width n s × AggregatesAreBehind width ns ss

-- a row of 32-bit numbers, as tables hold them, fits, where it holds no aggregate
abbrev pub SmallRowsFit : Type 0
SmallRowsFit = (nodes : List Node) (slots : List ℕ) (row : List Value) → length slots ≡ length nodes → IsTrue (is_small_row row)
    → AggregatesAreBehind (length row) nodes slots → RowFits nodes slots row

-- the row that holds the named columns of these rows, the first of which is of the table at a position
abbrev pub held_from : List Node → List (ℕ × ℕ) → ℕ → List (List Value) → List Value
held_from nodes places table [] = []
held_from nodes places table (row ∷ rows) = chosen row (named_columns nodes places table) ++ held_from nodes places (suc table) rows

abbrev pub held : List Node → List (ℕ × ℕ) → List (List Value) → List Value
held nodes places rows = held_from nodes places 0 rows

-- no aggregate's place names one of the first 64 values of a row, which is all that a row has
abbrev pub NamesNone : Node → ℕ × ℕ → Type 0
NamesNone (node.Aggregate f a) place = place.0 ≡ 255 → 64 ≤ place.1
NamesNone _ place = ⊤

abbrev pub AggregatesNameNone : List Node → List (ℕ × ℕ) → Type 0
AggregatesNameNone [] places = ⊤
AggregatesNameNone (n ∷ ns) [] = ⊤
AggregatesNameNone (n ∷ ns) (p ∷ ps) = NamesNone n p × AggregatesNameNone ns ps

-- where there is no aggregate, both hold
abbrev pub NoAggregatesStand : Type 0
NoAggregatesStand = (nodes : List Node) → list_any is_aggregate nodes ≡ false
    → ((width : ℕ) (slots : List ℕ) → AggregatesAreBehind width nodes slots) × ((places : List (ℕ × ℕ)) → AggregatesNameNone nodes places)

-- a row of the named columns of tables' rows fits
abbrev pub TableRowsFit : Type 0
TableRowsFit = (nodes : List Node) (places : List (ℕ × ℕ)) (rows : List (List Value)) → length rows ≤ 4 → IsTrue (list_all is_small_row rows)
    → ArePlaced nodes places → AggregatesNameNone nodes places → RowFits nodes (slots_of nodes places) (held nodes places rows)

-- A place and a position are one column: that of the table at the place's first part, with the value that
-- the row of that table has at the second.
pub record IsOneColumn (scope : List FromColumn) (rows : List (List Value)) (position : ℕ) (place : ℕ × ℕ) : Type 0 where
  pub table : place.0 < 4
  pub column : place.1 < 16
  pub same_table : table_at scope position ≡ place.0
  pub same_value : value_at (flat_map (λ row. row) rows) position ≡ value_at (slice_index_or rows place.0 []) place.1

-- The place of an aggregate names no value of a row.
abbrev pub IsOnePlace : List FromColumn → List (List Value) → Node → ℕ → ℕ × ℕ → Type 0
IsOnePlace scope rows (node.Col c) position place = IsOneColumn scope rows position place
IsOnePlace scope rows n position place = NamesNone n place

abbrev pub AreOnePlaces : List FromColumn → List (List Value) → List Node → List ℕ → List (ℕ × ℕ) → Type 0
AreOnePlaces scope rows [] [] [] = ⊤
AreOnePlaces scope rows [] [] (place ∷ places) = ⊥
AreOnePlaces scope rows [] (p ∷ ps) places = ⊥
AreOnePlaces scope rows (n ∷ ns) [] places = ⊥
AreOnePlaces scope rows (n ∷ ns) (p ∷ ps) [] = ⊥
AreOnePlaces scope rows (n ∷ ns) (p ∷ ps) (place ∷ places) = IsOnePlace scope rows n p place × AreOnePlaces scope rows ns ps places

-- Over the row that holds the named columns of the tables up to the k-th, a node whose columns are all
-- there stands for what it stands for over the whole row of the cross product.
abbrev pub TablesSoFarTell : Type 0
TablesSoFarTell = (scope : List FromColumn) (texts : List ℕ) (nodes : List Node) (positions : List ℕ) (places : List (ℕ × ℕ)) (rows : List (List Value)) (k n : ℕ)
    → length rows ≤ 4 → AreOnePlaces scope rows nodes positions places → k < length rows
    → IsTrue (are_there scope (columns_at (free_from positions nodes []) n) k)
    → (value_of (values_over texts (slots_of nodes places) nodes (held nodes places (take (suc k) rows))) n ≡ value_of (node_values texts positions nodes (flat_map (λ row. row) rows)) n)
    × (truth_of (values_over texts (slots_of nodes places) nodes (held nodes places (take (suc k) rows))) n ≡ truth_of (node_values texts positions nodes (flat_map (λ row. row) rows)) n)
