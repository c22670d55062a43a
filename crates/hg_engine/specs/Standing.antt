-- Which state of the plain machine an engine stands for. Our own rule: its tables are those of the catalog,
-- with the rows that the last stamp sees; the pages in use are those that are taken, and the stamps given
-- are those that were drawn. Between two steps no pin is out and no page is lent. Where the space does not
-- tell its bytes nothing is said of rows and of versions.
use Rattle.std.specs.Prelude.{◌≡◌, ◌≢◌, ℕ, ◌<◌, ◌≤◌, ◌^◌, ⊤, Bool, true, false, List, [], ◌∷◌, length, map, Option, None, Some, slice_get}
use Rattle.std.specs.List.{AllByRecursion}
use Rattle.std.specs.List.Sorted.{IsPermutation}
use Rattle.hg_base.specs.Space.{Space, NoPins, taken_in}
use Rattle.hg_base.specs.Lines.{has_page}
use Rattle.hg_base.specs.declared.File.TheVariants.{Main, Temp}
use Rattle.hg_bind.specs.Bound.{table_of}
use Rattle.hg_catalog.specs.Contents.{Contents, CatalogTable}
use Rattle.hg_machine.specs.Plain.Replies.{CursorName}
use Rattle.hg_machine.specs.Plain.State.{State, TableState, CursorState, Task, Fetches}
use Rattle.hg_model.specs.Order.{Pair}
use Rattle.hg_model.specs.Tables.{Table}
use Rattle.hg_model.specs.declared.values.Value.{Value}
use Rattle.hg_table.specs.Marks.{last, committed}
use Rattle.hg_table.specs.Chains.{IsChain}
use Rattle.hg_table.specs.Agreement.{IsTableOver}
use Rattle.hg_table.specs.Versions.{Placed}
use Rattle.hg_dml.specs.Lent.{NoneLent}
use Rattle.hg_table.specs.Seen.{seen_rows, IsPast}
use Rattle.hg_exec.specs.Planned.{keyless}
use Rattle.hg_exec.specs.Standing.{IsAtWork, Owes}
use Rattle.hg_engine.specs.Work.{form_of_work}
use Rattle.hg_engine.specs.declared.open.OpenSelect.{OpenSelect}

-- ---- tables

-- the rows are those of the versions that the last stamp sees, in any order
pub record HasRows (s : Space) (marks : List Bool) (c : CatalogTable) (t : TableState) (pages : List ℕ) : Type 0 where
  pub versions : List Placed
  pub table : IsTableOver s c.pages c.columns pages versions
  pub past : AllByRecursion (IsPast (last marks)) versions
  pub seen : IsPermutation t.table.rows (seen_rows (committed marks) (last marks) versions)
  pub count : t.versions ≡ length versions

-- a table of the catalog with its rows and its versions
pub record TableStands (s : Space) (marks : List Bool) (c : CatalogTable) (t : TableState) (pages : List ℕ) : Type 0 where
  pub chain : IsChain s c.pages pages
  pub rows : s.told ≡ true → HasRows s marks c t pages

-- a table of the machine by its name and its columns
abbrev pub rowless : TableState → Table
rowless t = record { name = t.table.name; columns = t.table.columns; rows = [] }

-- all tables in order, by their numbers; no page is of two of them
pub record TablesStand (s : Space) (marks : List Bool) (catalog : List CatalogTable) (tables : List TableState) (pages : ℕ → List ℕ) : Type 0 where
  pub shape : map rowless tables ≡ map table_of catalog
  pub each : (k : ℕ) (c : CatalogTable) (t : TableState) → slice_get catalog k ≡ Some c → slice_get tables k ≡ Some t
      → TableStands s marks c t (pages k)
  pub apart : (j k x : ℕ) → j < length catalog → k < length catalog → j ≢ k → has_page (pages j) x ≡ true → has_page (pages k) x ≡ true → ⊥

-- ---- the SELECT at work

-- what is left to it, the pages without which it may end with the limit error, and those that it needs at most
pub record Left : Type 0 where
  pub pairs : List Pair
  pub floor : ℕ
  pub need : ℕ

abbrev pub nothing_left : Left
nothing_left = record { pairs = []; floor = 0; need = 0 }

-- what its loops owe is left, in any order
pub record OwesLeft (s : Space) (marks : List Bool) (catalog : List CatalogTable) (pages : ℕ → List ℕ) (w : OpenSelect) (left : List Pair) : Type 0 where
  pub owed : List (List Value)
  pub owes : Owes s marks catalog pages (form_of_work w) w.plan.loops.items w.loops owed
  pub in_any_order : IsPermutation left (map keyless owed)

-- its loops stand on the pages of its tables, over every space
pub record WorkStands (s : Space) (marks : List Bool) (catalog : List CatalogTable) (pages : ℕ → List ℕ) (w : OpenSelect) (left : List Pair) : Type 0 where
  pub at_work : IsAtWork s marks catalog pages (form_of_work w) w.plan.loops.items w.loops
  pub rows : s.told ≡ true → OwesLeft s marks catalog pages w left

-- what the SELECT at work has still to give, if one is at work
abbrev pub LeftStands : Space → List Bool → List CatalogTable → (ℕ → List ℕ) → Option OpenSelect → Left → Type 0
LeftStands s marks catalog pages None left = ⊤
LeftStands s marks catalog pages (Some w) left = WorkStands s marks catalog pages w left.pairs

-- its cursor, which has no name; it is in the round, and has the turn
abbrev pub cursor_with : Left → CursorState
cursor_with left = record {
  name = None;
  left = left.pairs;
  is_too_many = false;
  wanted = None;
  held = 0;
  floor = left.floor;
  need = left.need;
}

abbrev pub cursors_at : Option OpenSelect → Left → List CursorState
cursors_at None left = []
cursors_at (Some w) left = cursor_with left ∷ []

abbrev pub round_at : Option OpenSelect → List CursorName
round_at None = []
round_at (Some w) = None ∷ []

abbrev pub task_at : Option OpenSelect → Option Task
task_at None = None
task_at (Some w) = Some (Fetches None)

-- ---- the state

-- the state of these tables, with so much left to the SELECT at work
abbrev pub state_of : Space → (max mpl : ℕ) → List Bool → Option OpenSelect → List TableState → Left → State
state_of s max mpl marks work tables left = record {
  tables = tables;
  indexes = [];
  cursors = cursors_at work left;
  round = round_at work;
  waiting = [];
  task = task_at work;
  max = max;
  current = s.heaps.current;
  mpl = mpl;
  stamps = last marks;
  used = taken_in s Main;
  over = taken_in s Temp;
  main_limit = s.limit Main;
  temp_limit = s.limit Temp;
}

-- What an engine keeps of its tables, its stamps and the SELECT at work stands for this state. It has no
-- index; as many frames are reserved as the pool may have; and there are so few temporary pages that their numbers
-- fit four bytes.
pub record Stands (s : Space) (max mpl : ℕ) (catalog : Contents) (marks : List Bool) (work : Option OpenSelect) (state : State) : Type 0 where
  pub pins : NoPins s
  pub none_lent : NoneLent s
  pub most : s.heaps.most ≡ max
  pub some_may : 1 ≤ mpl
  pub few_temp : s.limit Temp ≤ 2 ^ 32
  pub no_indexes : catalog.indexes ≡ []
  pub tables : List TableState
  pub pages : ℕ → List ℕ
  pub stand : TablesStand s marks catalog.tables tables pages
  pub left : Left
  pub stands : LeftStands s marks catalog.tables pages work left
  pub is : state ≡ state_of s max mpl marks work tables left
