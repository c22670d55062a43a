-- How a line that was read is judged by what was kept of it.
use Rattle.std.specs.Prelude.{ℕ, Bool, false, not, ◌&&◌, ◌||◌, [], ◌∷◌, Option, nat_le, nat_lt}
use Rattle.hg_model.specs.Reading.{is_bad_count, first_count}
use Rattle.hg_model.specs.declared.trees.Count.{Count}
use Rattle.hg_model.specs.declared.trees.Count.TheVariants as count
use Rattle.hg_parse.specs.Keeping.{Kept}
use Rattle.hg_parse.specs.Rules.{Form, TableForm, IndexForm, InsertForm, UpdateForm, DeleteForm, VacuumForm, SelectForm, OpenForm, StartForm, WorkForm, FetchForm, CloseForm, PoolForm, MplForm, MemoryForm}

-- a number of the line is out of range
abbrev pub bad_kept : ℕ → Form → Kept → Bool
bad_kept max (TableForm t) k = k.bad_type
bad_kept max (IndexForm u i t) k = false
bad_kept max (InsertForm t) k = k.bad_value
bad_kept max (UpdateForm t f) k = k.bad_node
bad_kept max (DeleteForm t f) k = k.bad_node
bad_kept max (VacuumForm t) k = false
bad_kept max (SelectForm h) k = k.bad_node || k.bad_key
bad_kept max (OpenForm c h) k = k.bad_node || k.bad_key
bad_kept max (StartForm c n) k = is_bad_count n
bad_kept max (WorkForm n) k = is_bad_count n
bad_kept max (FetchForm c n) k = is_bad_count n
bad_kept max (CloseForm c) k = false
bad_kept max (PoolForm n) k = not (nat_le 16 n && nat_le n max)
bad_kept max (MplForm n) k = not (nat_le 1 n && nat_le n 16)
bad_kept max MemoryForm k = false

abbrev pub columns_kept : Form → Kept → ℕ
columns_kept (TableForm t) k = k.columns.count
columns_kept (IndexForm u i t) k = k.names.count
columns_kept (InsertForm t) k = k.names.count
columns_kept (UpdateForm t f) k = k.sets.count
columns_kept _ k = 0

abbrev pub in_insert : Form → ℕ → ℕ
in_insert (InsertForm t) n = n
in_insert _ n = 0

abbrev pub in_select : Form → ℕ → ℕ
in_select (SelectForm h) n = n
in_select (OpenForm c h) n = n
in_select _ n = 0

abbrev pub nodes_kept : Form → Kept → ℕ
nodes_kept (SelectForm h) k = k.nodes.count
nodes_kept (OpenForm c h) k = k.nodes.count
nodes_kept (UpdateForm t f) k = k.nodes.count
nodes_kept (DeleteForm t f) k = k.nodes.count
nodes_kept _ k = 0

-- the first kind of which there are too many
abbrev pub too_many_kept : Bool → Bool → Form → Kept → Option Count
too_many_kept long_name long_text f k = first_count
    ((long_name, count.NameLetters)
    ∷ (long_text, count.TextLetters)
    ∷ (nat_lt 16 (columns_kept f k), count.Columns)
    ∷ (nat_lt 64 (in_insert f k.ends.count), count.Rows)
    ∷ (nat_lt 1024 (in_insert f k.values.count), count.Values)
    ∷ (nat_lt 4 (in_select f k.tables.count), count.TablesInFrom)
    ∷ (nat_lt 16 (in_select f k.outputs.count), count.Outputs)
    ∷ (nat_lt 16 (in_select f k.group.count), count.GroupColumns)
    ∷ (nat_lt 8 (in_select f k.order.count), count.OrderKeys)
    ∷ (nat_lt 96 (nodes_kept f k), count.Nodes)
    ∷ [])
