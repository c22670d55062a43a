-- The state of the plain machine: tables with their rows, indexes, cursors with what they have still to
-- give, the round and the waiting list, the command at work, and plain counts. No page, frame or slot
-- occurs in it. Our own rule.
use Rattle.std.specs.Prelude.{ℕ, Bool, true, false, List, [], ◌∷◌, ◌++◌, Option, None, Some, map, if◌then◌else◌}
use Rattle.std.specs.List.{find, filter, list_any, sum_by}
use Rattle.hg_machine.specs.Plain.Replies.{CursorName}
use Rattle.hg_model.specs.declared.values.Value.{Value}
use Rattle.hg_model.specs.Creation.{Index}
use Rattle.hg_model.specs.Order.{Pair}
use Rattle.hg_model.specs.Tables.{Table, same_name}

-- A table with its rows, and how many versions of rows it has, those that nobody sees any more among
-- them.
pub record TableState : Type 0 where
  pub table : Table
  pub versions : ℕ

pub record CursorState : Type 0 where
  pub name : CursorName
  -- the pairs of an output row and its keys that are left to give
  pub left : List Pair
  -- whether its statement groups more rows than may be grouped
  pub is_too_many : Bool
  -- how many rows are wanted before it rests; none: all of them
  pub wanted : Option ℕ
  -- the pages that it holds as its working memory
  pub held : ℕ
  -- the pages without which it may end with the limit error
  pub floor : ℕ
  -- the temporary pages that it needs at most
  pub need : ℕ

-- a command that has turns to give
pub data Task : Type 0 where
  -- WORK: so many turns, of which so many were given
  Works : (turns given : ℕ) → Task
  -- FETCH, and SELECT with the cursor that has no name: turns until that cursor rests or is closed
  Fetches : (cursor : CursorName) → Task

pub record State : Type 0 where
  -- in order of creation
  pub tables : List TableState
  pub indexes : List Index
  -- in order of opening
  pub cursors : List CursorState
  -- the active cursors, the one that has the next turn first; and those that wait to be active
  pub round : List CursorName
  pub waiting : List CursorName
  -- the command at work, if there is one
  pub task : Option Task
  -- the most frames that the pool may have, those in use, and how many cursors may be active
  pub max : ℕ
  pub current : ℕ
  pub mpl : ℕ
  -- how many stamps were given: each change that was not refused before its rows uses one
  pub stamps : ℕ
  -- the main pages taken, and the temporary pages that refused changes left behind
  pub used : ℕ
  pub over : ℕ
  -- how many pages each file may have
  pub main_limit : ℕ
  pub temp_limit : ℕ

-- the sizes with which a machine begins
pub record Sizes : Type 0 where
  pub max : ℕ
  pub pool : ℕ
  pub mpl : ℕ
  pub main_pages : ℕ
  pub temp_pages : ℕ

-- the state at the beginning: one main page is kept for what the tables are
abbrev pub first_state : Sizes → State
first_state sizes = record {
  tables = [];
  indexes = [];
  cursors = [];
  round = [];
  waiting = [];
  task = None;
  max = sizes.max;
  current = sizes.pool;
  mpl = sizes.mpl;
  stamps = 0;
  used = 1;
  over = 0;
  main_limit = sizes.main_pages;
  temp_limit = sizes.temp_pages;
}

-- ---- tables

-- the tables as statements see them
abbrev pub tables_of : State → List Table
tables_of state = map (λ (t : TableState). t.table) state.tables

abbrev pub is_table : List ℕ → TableState → Bool
is_table name t = same_name t.table.name name

abbrev pub versions_in : List TableState → List ℕ → ℕ
versions_in [] name = 0
versions_in (t ∷ ts) name = if is_table name t then t.versions else versions_in ts name

-- how many versions the table of a name has
abbrev pub versions_of : State → List ℕ → ℕ
versions_of state name = versions_in state.tables name

abbrev pub has_rows : List (List Value) → TableState → TableState
has_rows rows t = record { table = (record { name = t.table.name; columns = t.table.columns; rows = rows }); versions = t.versions }

-- the table of a name with these rows, or with so many versions
abbrev pub rows_set : List TableState → List ℕ → List (List Value) → List TableState
rows_set [] name rows = []
rows_set (t ∷ ts) name rows = if is_table name t then has_rows rows t ∷ ts else t ∷ rows_set ts name rows

abbrev pub versions_set : List TableState → List ℕ → ℕ → List TableState
versions_set [] name n = []
versions_set (t ∷ ts) name n = if is_table name t then (record { table = t.table; versions = n }) ∷ ts else t ∷ versions_set ts name n

abbrev pub with_rows : State → List ℕ → List (List Value) → State
with_rows state name rows = record state { tables = rows_set state.tables name rows }

-- ---- cursors

abbrev pub same_cursor : CursorName → CursorName → Bool
same_cursor None None = true
same_cursor None (Some b) = false
same_cursor (Some a) None = false
same_cursor (Some a) (Some b) = same_name a b

-- whether a name is among names
abbrev pub is_among : List CursorName → CursorName → Bool
is_among names name = list_any (same_cursor name) names

abbrev pub without_name : List CursorName → CursorName → List CursorName
without_name [] name = []
without_name (n ∷ ns) name = if same_cursor name n then without_name ns name else n ∷ without_name ns name

-- the cursor of a name, if it is open
abbrev pub cursor_named : List CursorState → CursorName → Option CursorState
cursor_named [] name = None
cursor_named (c ∷ cs) name = if same_cursor name c.name then Some c else cursor_named cs name

-- the cursors with another state of one of them, or without one
abbrev pub cursor_set : List CursorState → CursorName → CursorState → List CursorState
cursor_set [] name new = []
cursor_set (c ∷ cs) name new = if same_cursor name c.name then new ∷ cs else c ∷ cursor_set cs name new

abbrev pub without_cursor : List CursorState → CursorName → List CursorState
without_cursor [] name = []
without_cursor (c ∷ cs) name = if same_cursor name c.name then without_cursor cs name else c ∷ without_cursor cs name

abbrev pub is_open : State → CursorName → Bool
is_open state name = list_any (λ (c : CursorState). same_cursor name c.name) state.cursors

-- the temporary pages that all open cursors need at most
abbrev pub open_needs : State → ℕ
open_needs state = sum_by (λ (c : CursorState). c.need) state.cursors
