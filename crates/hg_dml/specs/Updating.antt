-- What it does to a table and its space that rows are changed under one stamp. SQL-92, section 13.10: every
-- right side is computed from the old row. Our own rule: each row that goes dies under the stamp, and the row
-- that is made of it is born under it; the first cause against all rows that would be made comes before.
use Rattle.std.specs.Prelude.{◌≡◌, ℕ, ◌+◌, ◌-◌, ◌<◌, ◌≤◌, ◌⊎◌, Bool, true, false, List, map, length, Option, Some, None, if◌then◌else◌, ⊤}
use Rattle.std.specs.List.{AllByRecursion, count_by}
use Rattle.std.specs.List.Sorted.{IsPermutation}
use Rattle.hg_base.specs.Space.{Space, key, taken_in}
use Rattle.hg_base.specs.Count.{Rose}
use Rattle.hg_base.specs.Causes.{MainFailed, TempFailed, counts_after}
use Rattle.hg_base.specs.Lines.{has_page}
use Rattle.hg_base.specs.declared.Check.{Check}
use Rattle.hg_base.specs.declared.File.TheVariants.{Main, Temp}
use Rattle.hg_base.specs.declared.PageId.{PageId}
use Rattle.hg_base.specs.declared.Table.{Table}
use Rattle.hg_base.specs.declared.pages.PageFault.{PageFault}
use Rattle.hg_base.specs.declared.pages.PageFault.TheVariants as fault
use Rattle.hg_catalog.specs.Contents.{Contents, CatalogTable}
use Rattle.hg_model.specs.Changes.{with_sets}
use Rattle.hg_model.specs.Refusal.{Refusal}
use Rattle.hg_model.specs.SelectMeaning.{node_values}
use Rattle.hg_model.specs.declared.trees.Column.{Column}
use Rattle.hg_model.specs.declared.trees.Node.{Node}
use Rattle.hg_model.specs.declared.values.Value.{Value}
use Rattle.hg_table.specs.Agreement.{IsTableOver}
use Rattle.hg_table.specs.Calls.{IsVersionCheck}
use Rattle.hg_table.specs.Versions.{Placed}
use Rattle.hg_dml.specs.Deleting.{AgreeUpTo, Concerns, AreConcerned, IsHidden}
use Rattle.hg_dml.specs.Inserting.{MovesEnds}
use Rattle.hg_dml.specs.Putting.{Grows}
use Rattle.hg_dml.specs.Rows.{rows_cause, Tells}
use Rattle.hg_table.specs.Seen.{seen_rows, IsPast, Misses}

-- the row that SET makes of a row: what `changed_row` says of a statement with these nodes and items
abbrev pub row_set : List ℕ → List ℕ → List Node → List ℕ → List (List ℕ × ℕ) → List Value → List Value
row_set texts positions nodes targets items row = with_sets (node_values texts positions nodes row) targets items row

-- ---- what snapshots see

-- All rows that go were changed: who sees the stamp sees in their place the rows that were made of them.
pub record IsUpdated (committed : ℕ → Bool) (snapshot stamp : ℕ) (goes : List Value → Bool) (change : List Value → List Value) (old new : List Placed) : Type 0 where
  pub unseen : (marks : ℕ → Bool) (other : ℕ) → AgreeUpTo snapshot marks committed → Misses marks other stamp
      → AllByRecursion (IsPast snapshot) old → seen_rows marks other new ≡ seen_rows marks other old
  pub seen : (marks : ℕ → Bool) (later : ℕ) → AgreeUpTo snapshot marks committed → marks stamp ≡ true → stamp ≤ later
      → AllByRecursion (IsPast snapshot) old
      → IsPermutation (seen_rows marks later new) (map (λ row. if goes row then change row else row) (seen_rows committed snapshot old))
  pub past : (last : ℕ) → stamp ≤ last → AllByRecursion (IsPast last) old → AllByRecursion (IsPast last) new
  pub count : length new ≡ length old + count_by goes (seen_rows committed snapshot old)

-- Some of them were, at most so many: who misses the stamp sees what it saw.
pub record IsHiddenUpTo (committed : ℕ → Bool) (snapshot stamp most : ℕ) (old new : List Placed) : Type 0 where
  pub unseen : (marks : ℕ → Bool) (other : ℕ) → AgreeUpTo snapshot marks committed → Misses marks other stamp
      → AllByRecursion (IsPast snapshot) old → seen_rows marks other new ≡ seen_rows marks other old
  pub past : (last : ℕ) → stamp ≤ last → AllByRecursion (IsPast last) old → AllByRecursion (IsPast last) new
  pub not_fewer : length old ≤ length new
  pub few : length new ≤ length old + most

-- ---- the table and its space

-- the rows that go were changed, n of them; no fault was counted, and no temporary page is left
pub record Updates (a b : Space) (old new : Table) (pages : List ℕ) (columns : List Column) (committed : ℕ → Bool) (snapshot stamp : ℕ) (goes : List Value → Bool) (change : List Value → List Value) (n : ℕ) : Type 0 where
  pub gone : List (List Value)
  pub concerned : AreConcerned a old pages columns committed snapshot goes gone
  pub many : n ≡ length gone
  pub no_cause : rows_cause columns (map change gone) ≡ None
  pub now : List ℕ
  pub grows : Grows a b new pages now n
  pub counts : b.counts ≡ a.counts
  pub updated : (versions : List Placed) → IsTableOver a old columns pages versions
      → (more : List Placed) × IsTableOver b new columns now more × IsUpdated committed snapshot stamp goes change versions more

-- a cause stands against the rows that would be made: no row was put, and nobody sees a death
pub record UpdateIsRefused (a b : Space) (t : Table) (pages : List ℕ) (columns : List Column) (committed : ℕ → Bool) (snapshot stamp : ℕ) (goes : List Value → Bool) (change : List Value → List Value) (code : ℕ) (column : Option ℕ) : Type 0 where
  pub gone : List (List Value)
  pub concerned : AreConcerned a t pages columns committed snapshot goes gone
  pub refusal : Refusal
  pub first : rows_cause columns (map change gone) ≡ Some refusal
  pub told : Tells columns code column refusal
  pub grows : Grows a b t pages pages 0
  pub counts : b.counts ≡ a.counts
  pub hidden : (versions : List Placed) → IsTableOver a t columns pages versions
      → (now : List Placed) × IsTableOver b t columns pages now × IsHidden committed snapshot stamp versions now

-- Why n rows could not all be changed: a device failed; or all pages of a file are taken, and n more than were
-- taken before would be too many; or a page is damaged, where the space does not tell.
abbrev pub UpdateFault : Space → Space → ℕ → PageFault → Type 0
UpdateFault a b n fault.MainFault = MainFailed a.counts b.counts
UpdateFault a b n fault.TempFault = TempFailed a.counts b.counts
UpdateFault a b n fault.MainFull = (a.limit Main < taken_in a Main + n) × Rose a.counts.main_full b.counts.main_full
UpdateFault a b n fault.TempFull = (a.limit Temp < taken_in a Temp + n) × Rose a.counts.temp_full b.counts.temp_full
UpdateFault a b n (fault.Damaged page check) = a.told ≡ false

-- Which damage an UPDATE finds: of a page of its table, as it stands then, or of a temporary page that it took;
-- it is no slotted page or no page of a run (Kind, Size), or a record on it is no row of the table (RowBytes).
pub record IsUpdateDamage (a : Space) (now : List ℕ) (page : PageId) (check : Check) : Type 0 where
  pub at : ((page.file ≡ Main) × (has_page now page.no ≡ true)) ⊎ ((page.file ≡ Temp) × (a.taken (key page) ≡ false))
  pub failed : IsVersionCheck check

abbrev pub FindsUpdating : Space → List ℕ → PageFault → Type 0
FindsUpdating a now fault.MainFault = ⊤
FindsUpdating a now fault.TempFault = ⊤
FindsUpdating a now fault.MainFull = ⊤
FindsUpdating a now fault.TempFull = ⊤
FindsUpdating a now (fault.Damaged page check) = IsUpdateDamage a now page check

-- Some of the rows that go were changed before it failed, and no temporary page is left. `gone` are rows that
-- go, as many as were read at least.
pub record UpdatesSome (a b : Space) (old new : Table) (pages : List ℕ) (columns : List Column) (committed : ℕ → Bool) (snapshot stamp : ℕ) (goes : List Value → Bool) (f : PageFault) : Type 0 where
  pub gone : List (List Value)
  pub each : AllByRecursion (Concerns columns goes) gone
  pub few : (versions : List Placed) → IsTableOver a old columns pages versions → length gone ≤ count_by goes (seen_rows committed snapshot versions)
  pub now : List ℕ
  pub grows : Grows a b new pages now (length gone)
  pub hidden : (versions : List Placed) → IsTableOver a old columns pages versions
      → (more : List Placed) × IsTableOver b new columns now more × IsHiddenUpTo committed snapshot stamp (length gone) versions more
  pub cause : UpdateFault a b (length gone) f
  pub counts : b.counts ≡ counts_after a.counts (Some f)
  pub found : FindsUpdating a now f

-- ---- by the catalog

-- the answer Ok, a refusal and a fault, of a table of a catalog whose known pages move
pub record UpdatesTable (a b : Space) (old new : Contents) (table : ℕ) (pages : List ℕ) (committed : ℕ → Bool) (stamp : ℕ) (goes : List Value → Bool) (change : List Value → List Value) (n : ℕ) (t : CatalogTable) : Type 0 where
  pub after : Table
  pub moves : MovesEnds old new table after
  pub updates : Updates a b t.pages after pages t.columns committed (stamp - 1) stamp goes change n

pub record UpdatesTableSome (a b : Space) (old new : Contents) (table : ℕ) (pages : List ℕ) (committed : ℕ → Bool) (stamp : ℕ) (goes : List Value → Bool) (f : PageFault) (t : CatalogTable) : Type 0 where
  pub after : Table
  pub moves : MovesEnds old new table after
  pub updates : UpdatesSome a b t.pages after pages t.columns committed (stamp - 1) stamp goes f
