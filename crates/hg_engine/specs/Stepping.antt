-- What a step of an engine promises: it says lines, and is a step of the plain machine. Our own rule.
use Rattle.std.specs.Prelude.{◌≡◌, ℕ, ◌+◌, ◌⊎◌, Bool, true, false, List, Option, None, Some, slice_get, ⊤, map}
use Rattle.std.specs.List.{AllByRecursion}
use Rattle.hg_base.specs.Space.{Space, NoPins, key}
use Rattle.hg_base.specs.Lines.{has_page}
use Rattle.hg_base.specs.Causes.{Later, MainFailed, TempFailed}
use Rattle.hg_base.specs.declared.Check.{Check}
use Rattle.hg_base.specs.declared.File.TheVariants.{Main, Temp}
use Rattle.hg_base.specs.declared.PageId.{PageId}
use Rattle.hg_base.specs.declared.pages.PageFault.{PageFault}
use Rattle.hg_base.specs.declared.pages.PageFault.TheVariants as fault
use Rattle.hg_bind.specs.Bound.{tables_of}
use Rattle.hg_bind.specs.BoundSelect.{AreTables}
use Rattle.hg_catalog.specs.Contents.{CatalogTable}
use Rattle.hg_machine.specs.Plain.Refused.{damaged}
use Rattle.hg_machine.specs.Plain.Replies.{ReplyLine, device_fault, file_full}
use Rattle.hg_machine.specs.Plain.State.{State}
use Rattle.hg_model.specs.Statements.{CommandTree, CreateTable, CreateIndex, InsertRows, UpdateRows, DeleteRows, Vacuum, SelectRows, OpenCursor, Start, Work, Fetch, Close, Pool, Mpl, ShowMemory}
use Rattle.hg_model.specs.Tables.{same_name}
use Rattle.hg_reply.specs.Steps.{DeviceFacts, FullCounts, Counted, FullOnlyWhereFull, Findings}
use Rattle.hg_table.specs.Calls.{NamesGiven, NamesOneOf, IsPageCheck, IsVersionCheck}
use Rattle.hg_table.specs.Chains.{IsChain}
use Rattle.hg_plan.specs.declared.plan.TableLoop.{TableLoop}
use Rattle.hg_exec.specs.Standing.{entry}
use Rattle.hg_exec.specs.Turning.{IsLoopCheck, NamesRead, looks_left}
use Rattle.hg_engine.specs.Standing.{Stands}
use Rattle.hg_engine.specs.declared.open.OpenSelect.{OpenSelect}
use Rattle.hg_engine.specs.declared.tables.Tables.{Tables}

-- the SELECT at work, if one is
abbrev pub work_in : Bool → OpenSelect → Option OpenSelect
work_in true w = Some w
work_in false w = None

-- what an engine keeps of its tables stands for this state
abbrev pub TablesAre : Space → Tables → State → Type 0
TablesAre s x state = Stands s x.max x.mpl x.catalog x.stamps (work_in x.is_open x.open) state

-- what a space says of its devices, and of full files
abbrev pub faults_in : Space → DeviceFacts
faults_in s = record {
  main = s.counts.main_device;
  temp = s.counts.temp_device;
  main_pages = s.device_limit Main;
  temp_pages = s.device_limit Temp;
}

abbrev pub fulls_in : Space → FullCounts
fulls_in s = record { main = s.counts.main_full; temp = s.counts.temp_full }

-- no more lines say that a device failed or that a file is full than the counts of these rose
pub record CountedIn (a b : Space) (lines : List ReplyLine) : Type 0 where
  pub devices : Counted (faults_in a) (faults_in b) lines
  pub full : FullOnlyWhereFull (fulls_in a) (fulls_in b) lines

-- it is a step of the machine
pub record StepsTo (a b : Space) (old new : Tables) (Step : State → List ReplyLine → State → Type 0) (lines : List ReplyLine) : Type 0 where
  pub to : (before : State) → TablesAre a old before → (after : State) × TablesAre b new after × Step before lines after

-- the line of a fault
abbrev pub line_of : PageFault → ReplyLine
line_of fault.MainFault = device_fault Main
line_of fault.TempFault = device_fault Temp
line_of fault.MainFull = file_full Main
line_of fault.TempFull = file_full Temp
line_of (fault.Damaged page check) = damaged page check

-- why a turn fails: a device failed, or a page is damaged, where the space does not tell
abbrev pub TurnFault : Space → Space → PageFault → Type 0
TurnFault a b fault.MainFault = MainFailed a.counts b.counts
TurnFault a b fault.TempFault = TempFailed a.counts b.counts
TurnFault a b fault.MainFull = ⊥
TurnFault a b fault.TempFull = ⊥
TurnFault a b (fault.Damaged page check) = a.told ≡ false

-- these are the pages of a table that is read
abbrev pub HasChain : Space → List CatalogTable → (ℕ → List ℕ) → TableLoop → Type 0
HasChain s catalog pages l = IsChain s (entry catalog l.table).pages (pages l.table)

-- A turn finds damage only over a space that does not tell, in a page of a table that the SELECT at work reads: it
-- is no slotted page (Kind, Size), or a record on it is no version of a row of its table (RowBytes), or the budget
-- is used up (Order).
pub record TurnFinds (s : Space) (x : Tables) (page : PageId) (check : Check) : Type 0 where
  pub untold : s.told ≡ false
  pub at_work : x.is_open ≡ true
  pub pages : ℕ → List ℕ
  pub chains : AllByRecursion (HasChain s x.catalog.tables pages) x.open.plan.loops.items
  pub named : NamesRead pages x.open.plan.loops.items (fault.Damaged page check)
  pub failed : IsLoopCheck check

-- An INSERT finds damage only over a space that does not tell, and only that the last page of its table,
-- as the INSERT leaves it, is no slotted page (Kind, Size).
pub record InsertFinds (s : Space) (catalog : List CatalogTable) (name : List ℕ) (page : PageId) (check : Check) : Type 0 where
  pub untold : s.told ≡ false
  pub table : ℕ
  pub entry : CatalogTable
  pub at : slice_get catalog table ≡ Some entry
  pub named : same_name entry.name name ≡ true
  pub last : NamesGiven entry.pages.last (fault.Damaged page check)
  pub failed : IsPageCheck check

-- A DELETE finds damage only over a space that does not tell, in a page of its table: it is no slotted page (Kind,
-- Size), or a record on it is no version of a row of the table (RowBytes).
pub record DeleteFinds (s : Space) (catalog : List CatalogTable) (name : List ℕ) (page : PageId) (check : Check) : Type 0 where
  pub untold : s.told ≡ false
  pub table : ℕ
  pub entry : CatalogTable
  pub at : slice_get catalog table ≡ Some entry
  pub named : same_name entry.name name ≡ true
  pub pages : List ℕ
  pub chain : IsChain s entry.pages pages
  pub among : NamesOneOf pages (fault.Damaged page check)
  pub failed : IsVersionCheck check

-- An UPDATE finds damage only over a space that does not tell: in a page of its table, or in one that was not
-- taken before, a new page of the table or a temporary one. It is no slotted page and no page of a run (Kind, Size),
-- or a record on it is no version of a row of the table (RowBytes).
pub record UpdateFinds (s : Space) (catalog : List CatalogTable) (name : List ℕ) (page : PageId) (check : Check) : Type 0 where
  pub untold : s.told ≡ false
  pub table : ℕ
  pub entry : CatalogTable
  pub at : slice_get catalog table ≡ Some entry
  pub named : same_name entry.name name ≡ true
  pub pages : List ℕ
  pub chain : IsChain s entry.pages pages
  pub found : ((page.file ≡ Main) × (has_page pages page.no ≡ true)) ⊎ (s.taken (key page) ≡ false)
  pub failed : IsVersionCheck check

abbrev pub no_damage : Findings
no_damage page check = ⊥

-- Which damage a command finds up to its first turn: only a change looks at pages. The tables are those before
-- the command and after it.
abbrev pub CommandFinds : Space → (old new : Tables) → CommandTree → Findings
CommandFinds s old new (InsertRows i) = InsertFinds s new.catalog.tables i.table
CommandFinds s old new (CreateTable t) = no_damage
CommandFinds s old new (CreateIndex i) = no_damage
CommandFinds s old new (UpdateRows u) = UpdateFinds s old.catalog.tables u.table
CommandFinds s old new (DeleteRows d) = DeleteFinds s old.catalog.tables d.table
CommandFinds s old new (Vacuum t) = no_damage
CommandFinds s old new (SelectRows q) = no_damage
CommandFinds s old new (OpenCursor c q) = no_damage
CommandFinds s old new (Start c n) = no_damage
CommandFinds s old new (Work n) = no_damage
CommandFinds s old new (Fetch c n) = no_damage
CommandFinds s old new (Close c) = no_damage
CommandFinds s old new (Pool n) = no_damage
CommandFinds s old new (Mpl n) = no_damage
CommandFinds s old new ShowMemory = no_damage

-- CREATE TABLE and the beginning of a SELECT call no device.
abbrev pub StillWhere : CommandTree → Type 0 → Type 0
StillWhere (CreateTable t) still = still
StillWhere (SelectRows q) still = still
StillWhere _ still = ⊤

-- Only a SELECT has turns; the tables that it reads are those that FROM names, in their order.
abbrev pub PlanIsOf : Tables → CommandTree → Type 0
PlanIsOf x (SelectRows q) = AreTables (tables_of x.catalog) q.tables (map (λ (l : TableLoop). l.table) x.open.plan.loops.items)
PlanIsOf x _ = ⊥

-- what no step changes: whether the space tells, and how many pages it may have; and no count falls
pub record IsSameSpace (a b : Space) : Type 0 where
  pub told : b.told ≡ a.told
  pub limit : b.limit ≡ a.limit
  pub device_limit : b.device_limit ≡ a.device_limit
  pub pins : NoPins b
  pub later : Later a.counts b.counts

-- at most so many turns are left
abbrev pub turns_in : Bool → OpenSelect → ℕ
turns_in false w = 0
turns_in true w = looks_left w.plan.loops.items w.loops + 1
