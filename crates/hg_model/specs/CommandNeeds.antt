-- How many pages of the main and of the temporary file a command may need at most, besides those of open
-- cursors. Our own rule.
use Rattle.std.specs.Prelude.{ℕ, List}
use Rattle.std.specs.List.{count_by}
use Rattle.hg_model.specs.ChangeMeaning.{insert_count, update_count, delete_count}
use Rattle.hg_model.specs.Creation.{Index, is_key}
use Rattle.hg_model.specs.Intake.{select_need}
use Rattle.hg_model.specs.Needs.{change_need, main_need_of_change, main_need_of_index, main_need_of_table}
use Rattle.hg_model.specs.Statements.{CommandTree, CreateTable, CreateIndex, InsertRows, UpdateRows, DeleteRows, Vacuum, SelectRows, OpenCursor, Start, Work, Fetch, Close, Pool, Mpl, ShowMemory}
use Rattle.hg_model.specs.Tables.{Table, same_name}

pub record PageNeed : Type 0 where
  pub main : ℕ
  pub temp : ℕ

abbrev pub needs : ℕ → ℕ → PageNeed
needs main temp = record { main = main; temp = temp }

-- the indexes of a table
abbrev pub index_count : List Index → List ℕ → ℕ
index_count indexes table = count_by (λ (i : Index). same_name i.table table) indexes

-- of so many rows of a table with so many indexes
abbrev pub storing_need : ℕ → ℕ → PageNeed
storing_need rows indexes = needs (main_need_of_change rows indexes) (change_need rows indexes)

abbrev pub removing_need : ℕ → ℕ → PageNeed
removing_need rows indexes = needs 0 (change_need rows indexes)

abbrev pub indexing_need : ℕ → ℕ → PageNeed
indexing_need rows indexes = needs (main_need_of_index rows) (change_need rows indexes)

-- `versions` is, for the name of a table, how many versions of rows are kept for it. A SELECT has the
-- temporary need of its cursor, and so has a cursor that is opened, from then on.
unfoldable pub needs_of : (List ℕ → ℕ) → List Table → List Index → List ℕ → CommandTree → PageNeed
needs_of versions tables indexes texts (CreateTable t) = needs (main_need_of_table (count_by is_key t.columns)) 0
needs_of versions tables indexes texts (CreateIndex i) = indexing_need (versions i.table) (index_count indexes i.table)
needs_of versions tables indexes texts (InsertRows i) = storing_need (insert_count i) (index_count indexes i.table)
needs_of versions tables indexes texts (UpdateRows u) = storing_need (update_count tables texts u) (index_count indexes u.table)
needs_of versions tables indexes texts (DeleteRows d) = removing_need (delete_count tables texts d) (index_count indexes d.table)
needs_of versions tables indexes texts (Vacuum t) = removing_need (versions t) (index_count indexes t)
needs_of versions tables indexes texts (SelectRows q) = needs 0 (select_need q texts tables)
needs_of versions tables indexes texts (OpenCursor c q) = needs 0 (select_need q texts tables)
needs_of versions tables indexes texts (Start c n) = needs 0 0
needs_of versions tables indexes texts (Work n) = needs 0 0
needs_of versions tables indexes texts (Fetch c n) = needs 0 0
needs_of versions tables indexes texts (Close c) = needs 0 0
needs_of versions tables indexes texts (Pool n) = needs 0 0
needs_of versions tables indexes texts (Mpl n) = needs 0 0
needs_of versions tables indexes texts ShowMemory = needs 0 0
