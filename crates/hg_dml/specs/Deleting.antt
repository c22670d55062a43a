-- What it does to a table and its space that rows are deleted under one stamp. Our own rule.
use Rattle.std.specs.Prelude.{◌≡◌, ℕ, ◌≤◌, ◌&&◌, not, Bool, true, false, List, Some, map, length, if◌then◌else◌}
use Rattle.std.specs.List.{AllByRecursion, filter, count_by}
use Rattle.hg_base.specs.Space.{Space}
use Rattle.hg_base.specs.Causes.{MainFailed, TempFailed, counts_after}
use Rattle.hg_base.specs.Steadiness.{Mine, Steady, these_pages}
use Rattle.hg_base.specs.declared.Table.{Table}
use Rattle.hg_base.specs.declared.pages.PageFault.{PageFault}
use Rattle.hg_base.specs.declared.pages.PageFault.TheVariants as fault
use Rattle.hg_model.specs.Tables.{fits_columns}
use Rattle.hg_model.specs.declared.trees.Column.{Column}
use Rattle.hg_model.specs.declared.values.Value.{Value}
use Rattle.hg_table.specs.Agreement.{IsTableOver}
use Rattle.hg_table.specs.Calls.{LookFault, IsVersionCheck, NamesOneOf}
use Rattle.hg_table.specs.Chains.{IsChain}
use Rattle.hg_table.specs.Versions.{Placed}
use Rattle.hg_dml.specs.Putting.{IsOneOf}
use Rattle.hg_table.specs.Seen.{is_seen, row_of, seen_rows, IsPast, Misses}

-- ---- versions

-- a version that died under a stamp, also where it had died under another
abbrev pub dead : ℕ → Placed → Placed
dead stamp v = record v { version = record v.version { died = Some stamp } }

-- a version that the snapshot sees and whose row goes
abbrev pub is_going : (ℕ → Bool) → ℕ → (List Value → Bool) → Placed → Bool
is_going committed snapshot goes v = is_seen committed snapshot v && goes (row_of v)

abbrev pub deleted_at : (ℕ → Bool) → ℕ → ℕ → (List Value → Bool) → Placed → Placed
deleted_at committed snapshot stamp goes v = if is_going committed snapshot goes v then dead stamp v else v

-- the versions, where those that the snapshot sees and whose rows go died under a stamp
abbrev pub deleted : (ℕ → Bool) → ℕ → ℕ → (List Value → Bool) → List Placed → List Placed
deleted committed snapshot stamp goes versions = map (deleted_at committed snapshot stamp goes) versions

-- ---- what snapshots see

-- the marks are the same for every stamp up to this one
abbrev pub AgreeUpTo : ℕ → (ℕ → Bool) → (ℕ → Bool) → Type 0
AgreeUpTo last marks committed = (k : ℕ) → k ≤ last → marks k ≡ committed k

-- Versions were killed under a stamp by a change that looked at the table by a snapshot: who does not see
-- the stamp sees what it saw.
pub record IsHidden (committed : ℕ → Bool) (snapshot stamp : ℕ) (old new : List Placed) : Type 0 where
  pub unseen : (marks : ℕ → Bool) (other : ℕ) → AgreeUpTo snapshot marks committed → Misses marks other stamp
      → AllByRecursion (IsPast snapshot) old → seen_rows marks other new ≡ seen_rows marks other old
  pub past : (last : ℕ) → stamp ≤ last → AllByRecursion (IsPast last) old → AllByRecursion (IsPast last) new
  pub count : length new ≡ length old

-- All rows that go were deleted, n of them: who sees the stamp sees the others, in their order.
pub record IsDeleted (committed : ℕ → Bool) (snapshot stamp : ℕ) (goes : List Value → Bool) (old new : List Placed) (n : ℕ) : Type 0 where
  pub hidden : IsHidden committed snapshot stamp old new
  pub seen : (marks : ℕ → Bool) (later : ℕ) → AgreeUpTo snapshot marks committed → marks stamp ≡ true → stamp ≤ later
      → AllByRecursion (IsPast snapshot) old
      → seen_rows marks later new ≡ filter (λ row. not (goes row)) (seen_rows committed snapshot old)
  pub number : n ≡ count_by goes (seen_rows committed snapshot old)

-- ---- the rows that a change concerns

-- a row that a change concerns: it is one of a table with these columns, and it goes
pub record Concerns (columns : List Column) (goes : List Value → Bool) (row : List Value) : Type 0 where
  pub fits : fits_columns columns row ≡ true
  pub passes : goes row ≡ true

-- Rows that were read from a table and that a change concerns: where the space tells, all that a snapshot
-- sees, in their order.
pub record AreConcerned (a : Space) (t : Table) (pages : List ℕ) (columns : List Column) (committed : ℕ → Bool) (snapshot : ℕ) (goes : List Value → Bool) (gone : List (List Value)) : Type 0 where
  pub each : AllByRecursion (Concerns columns goes) gone
  pub all : (versions : List Placed) → IsTableOver a t columns pages versions → gone ≡ filter goes (seen_rows committed snapshot versions)

-- ---- the table and its space

abbrev pub pages_mine : List ℕ → Mine
pages_mine pages = these_pages (IsOneOf pages)

-- The pages of a table were written and nothing else: they are the same ones, and the same pages are taken
-- and lent.
pub record WritesWithin (a b : Space) (t : Table) (pages : List ℕ) : Type 0 where
  pub chain : IsChain b t pages
  pub steady : Steady (pages_mine pages) a b
  pub taken : b.taken ≡ a.taken
  pub of_heap : (q : ℕ) → b.of_heap q ≡ a.of_heap q

-- the rows that go were deleted from the table, n of them, and no fault was counted
pub record Deletes (a b : Space) (t : Table) (pages : List ℕ) (columns : List Column) (committed : ℕ → Bool) (snapshot stamp : ℕ) (goes : List Value → Bool) (n : ℕ) : Type 0 where
  pub gone : List (List Value)
  pub concerned : AreConcerned a t pages columns committed snapshot goes gone
  pub many : n ≡ length gone
  pub within : WritesWithin a b t pages
  pub counts : b.counts ≡ a.counts
  pub deleted : (versions : List Placed) → IsTableOver a t columns pages versions
      → (now : List Placed) × IsTableOver b t columns pages now × IsDeleted committed snapshot stamp goes versions now n

-- Why a walk along a table that takes no page ends: a device failed; or a page is damaged, where the space
-- does not tell.
abbrev pub WalkFault : Space → Space → PageFault → Type 0
WalkFault a b fault.MainFault = MainFailed a.counts b.counts
WalkFault a b fault.TempFault = TempFailed a.counts b.counts
WalkFault a b fault.MainFull = ⊥
WalkFault a b fault.TempFull = ⊥
WalkFault a b (fault.Damaged page check) = a.told ≡ false

-- some of the rows that go were deleted before it failed
pub record DeletesSome (a b : Space) (t : Table) (pages : List ℕ) (columns : List Column) (committed : ℕ → Bool) (snapshot stamp : ℕ) (f : PageFault) : Type 0 where
  pub within : WritesWithin a b t pages
  pub hidden : (versions : List Placed) → IsTableOver a t columns pages versions
      → (now : List Placed) × IsTableOver b t columns pages now × IsHidden committed snapshot stamp versions now
  pub cause : WalkFault a b f
  pub counts : b.counts ≡ counts_after a.counts (Some f)
  pub found : LookFault IsVersionCheck f
  pub page : NamesOneOf pages f
