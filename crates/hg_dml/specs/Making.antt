-- The row that SET makes of a row, column by column, and what stands against such rows so far. Our own rule.
use Rattle.std.specs.Prelude.{◌≡◌, ℕ, ◌≤◌, zero, suc, Bool, true, false, List, [], ◌∷◌, ◌&&◌, ◌||◌, not, nat_lt, length, Option, Some, None, is_some, slice_set, if◌then◌else◌}
use Rattle.std.specs.List.{list_any}
use Rattle.hg_model.specs.Changes.{row_length}
use Rattle.hg_model.specs.Evaluation.{value_at, value_of}
use Rattle.hg_model.specs.NullLogic.{is_null}
use Rattle.hg_model.specs.SelectMeaning.{node_values}
use Rattle.hg_model.specs.Tables.{fits_type}
use Rattle.hg_model.specs.declared.trees.Column.{Column}
use Rattle.hg_model.specs.declared.values.NodeValue.{NodeValue}
use Rattle.hg_model.specs.declared.values.Value.{Value}
use Rattle.hg_dml.specs.declared.making.Causes.{Causes}
use Rattle.hg_dml.specs.declared.making.Change.{Change}
use Rattle.hg_dml.specs.Filtering.{IsFilter, row_passes}

-- ---- the row

-- for each column the node whose value it gets; where it is set twice, that of the later item
abbrev pub set_nodes : List ℕ → List (List ℕ × ℕ) → List (Option ℕ) → List (Option ℕ)
set_nodes [] items nodes = nodes
set_nodes (t ∷ ts) [] nodes = nodes
set_nodes (t ∷ ts) (item ∷ items) nodes = set_nodes ts items (slice_set nodes t (Some item.1))

abbrev pub no_nodes : ℕ → List (Option ℕ)
no_nodes zero = []
no_nodes (suc n) = None ∷ no_nodes n

-- a value that is set, or the old one
abbrev pub picked : List NodeValue → Option ℕ → Value → Value
picked values None old = old
picked values (Some n) old = value_of values n

abbrev pub row_picked : List NodeValue → List (Option ℕ) → List Value → List Value
row_picked values [] row = row
row_picked values (n ∷ ns) [] = []
row_picked values (n ∷ ns) (v ∷ row) = picked values n v ∷ row_picked values ns row

-- what a change says of a row
abbrev pub goes_by : Change → List Value → Bool
goes_by change row = row_passes change.filter.texts.now change.filter.columns.now change.filter.nodes.now change.filter.condition row

abbrev pub made_by : Change → List Value → List Value
made_by change row = row_picked (node_values change.filter.texts.now change.filter.columns.now change.filter.nodes.now row) change.nodes.now row

-- what is asked of one
pub record IsChange (change : Change) : Type 0 where
  pub filter : IsFilter change.filter.texts.now change.filter.columns.now change.filter.nodes.now
  pub few : length change.columns.now ≤ 16
  pub as_long : length change.nodes.now ≡ length change.columns.now

-- ---- the causes

-- the first of the columns so far, with one more
abbrev pub earlier : Option ℕ → ℕ → Option ℕ
earlier None k = Some k
earlier (Some j) k = if nat_lt j k then Some j else Some k

abbrev pub noted : Option ℕ → ℕ → Bool → Option ℕ
noted first k false = first
noted first k true = earlier first k

abbrev pub breaks_null : Column → Value → Bool
breaks_null c v = c.not_null && is_null v

abbrev pub breaks_type : Column → Value → Bool
breaks_type c v = not (fits_type c.ty v)

-- the first of the columns so far, and those of a row of which a test holds
abbrev pub noted_row : (Column → Value → Bool) → Option ℕ → ℕ → List Column → List Value → Option ℕ
noted_row test first k [] row = first
noted_row test first k (c ∷ cs) [] = first
noted_row test first k (c ∷ cs) (v ∷ row) = noted_row test (noted first k (test c v)) (suc k) cs row

-- a row was looked at
pub record Notes (columns : List Column) (row : List Value) (old new : Causes) : Type 0 where
  pub null : new.null ≡ noted_row breaks_null old.null 0 columns row
  pub misfit : new.misfit ≡ noted_row breaks_type old.misfit 0 columns row
  pub long : new.long ≡ (old.long || nat_lt 1000 (row_length row))

-- the first column, by its number, of which a test holds
abbrev pub place_of : (ℕ → Column → Bool) → ℕ → List Column → Option ℕ
place_of test k [] = None
place_of test k (c ∷ cs) = if test k c then Some k else place_of test (suc k) cs

abbrev pub breaks_in : (Column → Value → Bool) → List (List Value) → ℕ → Column → Bool
breaks_in test rows k c = list_any (λ row. test c (value_at row k)) rows

-- What stands against rows.
pub record AreCauses (columns : List Column) (rows : List (List Value)) (causes : Causes) : Type 0 where
  pub null : causes.null ≡ place_of (breaks_in breaks_null rows) 0 columns
  pub misfit : causes.misfit ≡ place_of (breaks_in breaks_type rows) 0 columns
  pub long : causes.long ≡ list_any (λ row. nat_lt 1000 (row_length row)) rows

abbrev pub stand : Causes → Bool
stand causes = is_some causes.null || (is_some causes.misfit || causes.long)
