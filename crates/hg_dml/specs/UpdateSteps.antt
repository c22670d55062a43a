-- What the steps of an UPDATE ask and do. Our own rule.
use Rattle.std.specs.Prelude.{◌≡◌, ℕ, ◌+◌, ◌<◌, ◌≤◌, ◌⊎◌, Bool, true, false, List, [], map, length, Option, Some, None, ⊤}
use Rattle.std.specs.List.{AllByRecursion, filter, count_by}
use Rattle.hg_base.specs.Space.{Space, key_in, taken_in}
use Rattle.hg_base.specs.Causes.{HasCause}
use Rattle.hg_base.specs.Lines.{has_page}
use Rattle.hg_base.specs.Steadiness.{Steady}
use Rattle.hg_base.specs.declared.Check.TheVariants.{RowBytes}
use Rattle.hg_base.specs.declared.File.TheVariants.{Main, Temp}
use Rattle.hg_base.specs.declared.Place.{Place}
use Rattle.hg_base.specs.declared.Table.{Table}
use Rattle.hg_base.specs.declared.pages.PageFault.{PageFault}
use Rattle.hg_base.specs.declared.pages.PageFault.TheVariants as fault
use Rattle.hg_model.specs.Tables.{fits_columns}
use Rattle.hg_model.specs.declared.trees.Column.{Column}
use Rattle.hg_model.specs.declared.values.Value.{Value}
use Rattle.hg_run.specs.Calls.{append_mine, temp_page, Appends, Ends, ReadsOne, AppendFault, ReadFault, NamesGiven, NamesOneOf}
use Rattle.hg_run.specs.Runs.{IsChain as IsRunChain, IsRun, IsAt, StandsOn}
use Rattle.hg_run.specs.declared.Run.{Run}
use Rattle.hg_run.specs.declared.RunPos.{RunPos}
use Rattle.hg_table.specs.Agreement.{IsTableOver}
use Rattle.hg_table.specs.Calls.{none_mine, page_mine, main_page, TakesNone, LookFault, InsertFault, IsVersionCheck, NamesPage, NamesGiven as NamesLast}
use Rattle.hg_table.specs.Chains.{IsChain}
use Rattle.hg_table.specs.Places.{killed}
use Rattle.hg_table.specs.Versions.{Placed, IsTable}
use Rattle.hg_value.specs.Coding.{coded, IsRowOf, IsStorable}
use Rattle.hg_dml.specs.Deleting.{Concerns}
use Rattle.hg_dml.specs.Lent.{NoneLent}
use Rattle.hg_dml.specs.Making.{goes_by, made_by, Notes, AreCauses, stand}
use Rattle.hg_dml.specs.Putting.{Puts, table_mine}
use Rattle.hg_dml.specs.Rows.{rows_cause}
use Rattle.hg_table.specs.Seen.{seen_rows}
use Rattle.hg_dml.specs.Steps.{FitRows, IsShort, IsRefusal, OneMore}
use Rattle.hg_dml.specs.Updating.{FindsUpdating, IsUpdated, IsHiddenUpTo}
use Rattle.hg_dml.specs.Walks.{HasEnded, HasStopped}
use Rattle.hg_dml.specs.declared.insertion.ChangeError.TheVariants as change
use Rattle.hg_dml.specs.declared.making.Causes.{Causes}
use Rattle.hg_dml.specs.declared.making.Change.{Change}

-- ---- one row

-- a row was put into a run behind the others
pub record PutsAside (b d : Space) (old new : Run) (row : List Value) : Type 0 where
  pub storable : IsStorable row
  pub appends : (temp : List ℕ) → IsRunChain b old temp → Appends b d old new temp (coded row)
  pub steady : Steady (append_mine old new) b d
  pub cause : HasCause b d None

-- the version at a place was killed
pub record Kills (b d : Space) (t : Table) (place : Place) (stamp : ℕ) : Type 0 where
  pub kills : (k : ℕ) (pages : List ℕ) (versions : List Placed) → IsTable b t k pages versions → IsTable d t k pages (killed place stamp versions)
  pub chain : (pages : List ℕ) → IsChain b t pages → IsChain d t pages
  pub steady : Steady (page_mine place.page) b d
  pub taken : d.taken ≡ b.taken
  pub of_heap : (q : ℕ) → d.of_heap q ≡ b.of_heap q
  pub cause : HasCause b d None

-- a row was put aside, and then the version that it was made of was killed
pub record Moves (b d : Space) (t : Table) (place : Place) (stamp : ℕ) (old new : Run) (row : List Value) : Type 0 where
  pub mid : Space
  pub aside : PutsAside b mid old new row
  pub dies : Kills mid d t place stamp

-- it could not be put aside
pub record FailsAside (b d : Space) (old new : Run) (f : PageFault) : Type 0 where
  pub same : new ≡ old
  pub steady : Steady none_mine b d
  pub taken : d.taken ≡ b.taken
  pub cause : HasCause b d (Some f)
  pub fails : AppendFault b f
  pub named : NamesGiven old.last f

-- it was put aside, and the version could not be killed
pub record FailsKill (b d : Space) (place : Place) (old new : Run) (row : List Value) (f : PageFault) : Type 0 where
  pub mid : Space
  pub aside : PutsAside b mid old new row
  pub steady : Steady none_mine mid d
  pub taken : TakesNone mid d
  pub cause : HasCause mid d (Some f)
  pub fails : LookFault IsVersionCheck f
  pub named : NamesPage place.page f

abbrev pub FailsMove : Space → Space → Place → Run → Run → List Value → PageFault → Type 0
FailsMove b d place old new row f = FailsAside b d old new f ⊎ FailsKill b d place old new row f

-- nothing was done
pub record StaysSo (b d : Space) (old new : Run) : Type 0 where
  pub space : d ≡ b
  pub run : new ≡ old

-- the row that was read stays
pub record StepStays (b d : Space) (change : Change) (row : List Value) (old new : Run) (was now : Causes) : Type 0 where
  pub stays : goes_by change row ≡ false
  pub same : StaysSo b d old new
  pub causes : now ≡ was

-- It goes: where nothing is known to stand against the rows that are made, its new row was put aside, and the
-- version killed.
pub record StepGoes (b d : Space) (t : Table) (change : Change) (place : Place) (stamp : ℕ) (row : List Value) (old new : Run) (was now : Causes) : Type 0 where
  pub goes : goes_by change row ≡ true
  pub notes : Notes change.columns.now (made_by change row) was now
  pub done : ((stand now ≡ true) × StaysSo b d old new) ⊎ ((stand now ≡ false) × Moves b d t place stamp old new (made_by change row))

abbrev pub StepDone : Space → Space → Table → Change → Place → ℕ → List Value → Run → Run → Causes → Causes → Bool → Type 0
StepDone b d t change place stamp row old new was now false = StepStays b d change row old new was now
StepDone b d t change place stamp row old new was now true = StepGoes b d t change place stamp row old new was now

-- the row that was read is none of the table
pub record IsDamagedRow (b d : Space) (place : Place) (old new : Run) (f : PageFault) : Type 0 where
  pub same : StaysSo b d old new
  pub untold : b.told ≡ false
  pub is : f ≡ fault.Damaged (main_page place.page) RowBytes

-- it goes, and its new row could not be put aside, or the version not be killed
pub record FailsGoing (b d : Space) (change : Change) (place : Place) (row : List Value) (old new : Run) (f : PageFault) : Type 0 where
  pub concerned : Concerns change.columns.now (goes_by change) row
  pub fails : FailsMove b d place old new (made_by change row) f

abbrev pub StepFails : Space → Space → Change → Place → List Value → Run → Run → PageFault → Type 0
StepFails b d change place row old new f = IsDamagedRow b d place old new f ⊎ FailsGoing b d change place row old new f

-- ---- all rows

-- these rows were put aside, in a run on these pages
pub record HoldsAside (s : Space) (run : Run) (temp : List ℕ) (rows : List (List Value)) : Type 0 where
  pub chain : IsRunChain s run temp
  pub run_is : s.told ≡ true → IsRun s run (map coded rows) temp

-- A table with other pages, and beside it temporary pages, as `Grows` says it where there are none.
pub record GrowsBeside (a b : Space) (new : Table) (pages now : List ℕ) (n : ℕ) (temp : List ℕ) : Type 0 where
  pub chain : IsChain b new now
  pub from : (x : ℕ) → has_page now x ≡ true → (has_page pages x ≡ true) ⊎ (a.taken (key_in Main x) ≡ false)
  pub steady : Steady (table_mine a pages) a b
  pub stays : (q : ℕ) → a.taken q ≡ true → b.taken q ≡ true
  pub none_lent : NoneLent a → NoneLent b
  pub more : taken_in a Main ≤ taken_in b Main
  pub few : taken_in b Main ≤ taken_in a Main + n
  pub owned : (x : ℕ) → b.taken (key_in Main x) ≡ true → (a.taken (key_in Main x) ≡ true) ⊎ (has_page now x ≡ true)
  pub fresh : AllByRecursion (λ x. a.taken (key_in Temp x) ≡ false) temp
  pub others : (x : ℕ) → (has_page temp x ≡ false) → b.taken (key_in Temp x) ≡ a.taken (key_in Temp x)

-- a full file has no room for so many pages more
abbrev pub LacksRoom : Space → ℕ → PageFault → Type 0
LacksRoom a n fault.MainFault = ⊤
LacksRoom a n fault.TempFault = ⊤
LacksRoom a n fault.MainFull = a.limit Main < taken_in a Main + n
LacksRoom a n fault.TempFull = a.limit Temp < taken_in a Temp + n
LacksRoom a n (fault.Damaged page check) = ⊤

-- All rows that go were looked at. Where nothing stands against the rows that are made of them, these were put
-- aside, and the versions killed.
pub record ChangedAll (a b : Space) (t : Table) (columns : List Column) (c : ℕ → Bool) (s stamp : ℕ) (goes : List Value → Bool) (made : List Value → List Value) (run : Run) (causes : Causes) (n : ℕ) : Type 0 where
  pub gone : List (List Value)
  pub many : n ≡ length gone
  pub each : AllByRecursion (Concerns columns goes) gone
  pub are : AreCauses columns (map made gone) causes
  pub rows : List (List Value)
  pub all : stand causes ≡ false → rows ≡ map made gone
  pub storable : AllByRecursion IsStorable rows
  pub temp : List ℕ
  pub aside : HoldsAside b run temp rows
  pub beside : (pages : List ℕ) → IsChain a t pages → GrowsBeside a b t pages pages 0 temp
  pub cause : HasCause a b None
  pub ended : (pages : List ℕ) (versions : List Placed) → IsTableOver a t columns pages versions → HasEnded b t columns c s stamp goes (stand causes) pages versions gone

-- it failed on the way
pub record ChangedSome (a b : Space) (t : Table) (columns : List Column) (c : ℕ → Bool) (s stamp : ℕ) (goes : List Value → Bool) (run : Run) (f : PageFault) : Type 0 where
  pub gone : List (List Value)
  pub each : AllByRecursion (Concerns columns goes) gone
  pub temp : List ℕ
  pub chain : IsRunChain b run temp
  pub beside : (pages : List ℕ) → IsChain a t pages → GrowsBeside a b t pages pages 0 temp
  pub cause : HasCause a b (Some f)
  pub room : LacksRoom a (length gone) f
  pub found : (pages : List ℕ) → IsChain a t pages → FindsUpdating a pages f
  pub stopped : (pages : List ℕ) (versions : List Placed) → IsTableOver a t columns pages versions → HasStopped b t columns c s stamp goes pages versions gone

-- ---- the rows that were put aside

-- rows that may be put into a table
pub record AreStorable (columns : List Column) (rows : List (List Value)) : Type 0 where
  pub fit : FitRows columns rows
  pub short : AllByRecursion IsShort rows

-- a record was read from a run
pub record ReadsRecord (b d : Space) (run : Run) (from to : RunPos) (bytes : List ℕ) : Type 0 where
  pub steady : Steady none_mine b d
  pub taken : d.taken ≡ b.taken
  pub cause : HasCause b d None
  pub on : (temp : List ℕ) → IsRunChain b run temp → StandsOn temp to.page
  pub read : (rs : List (List ℕ)) (temp : List ℕ) (done rest : List (List ℕ)) → IsRun b run rs temp → IsAt temp rs from done rest → ReadsOne temp rs to done rest bytes

-- a row that may be put into a table of these columns
pub record IsStorableRow (columns : List Column) (row : List Value) : Type 0 where
  pub fits : fits_columns columns row ≡ true
  pub short : length (coded row) ≤ 1000

-- the row is the one that a record spells
abbrev pub IsSpelled : List Column → List ℕ → List Value → Type 0
IsSpelled columns bytes row = (vs : List Value) → IsRowOf vs (length columns) bytes → fits_columns columns vs ≡ true → length bytes ≤ 1000 → row ≡ vs

-- the next row of a run was put into the table
pub record StoresOne (b d : Space) (columns : List Column) (run : Run) (from to : RunPos) (old new : Table) (stamp : ℕ) : Type 0 where
  pub mid : Space
  pub bytes : List ℕ
  pub reads : ReadsRecord b mid run from to bytes
  pub row : List Value
  pub storable : IsStorableRow columns row
  pub spelled : IsSpelled columns bytes row
  pub place : Place
  pub n : ℕ
  pub puts : OneMore mid d old new place stamp n row
  pub cause : HasCause mid d None

-- there is no record more, or it spells no row of the table
abbrev pub IsNoRecord : Space → Run → RunPos → Type 0
IsNoRecord b run from = (rs : List (List ℕ)) (temp : List ℕ) (done rest : List (List ℕ)) → IsRun b run rs temp → IsAt temp rs from done rest → rest ≡ []

pub record IsWrongRecord (b d : Space) (columns : List Column) (run : Run) (from : RunPos) : Type 0 where
  pub to : RunPos
  pub bytes : List ℕ
  pub reads : ReadsRecord b d run from to bytes
  pub wrong : (vs : List Value) → IsRowOf vs (length columns) bytes → fits_columns columns vs ≡ true → length bytes ≤ 1000 → ⊥

-- the read failed
pub record FailsRead (b d : Space) (run : Run) (f : PageFault) : Type 0 where
  pub steady : Steady none_mine b d
  pub taken : d.taken ≡ b.taken
  pub cause : HasCause b d (Some f)
  pub fails : ReadFault f
  pub named : (temp : List ℕ) → IsRunChain b run temp → NamesOneOf temp f

-- the record is damaged
pub record FailsRecord (b d : Space) (columns : List Column) (run : Run) (from : RunPos) (first : ℕ) (f : PageFault) : Type 0 where
  pub steady : Steady none_mine b d
  pub taken : d.taken ≡ b.taken
  pub cause : HasCause b d None
  pub is : f ≡ fault.Damaged (temp_page first) RowBytes
  pub wrong : IsNoRecord b run from ⊎ IsWrongRecord b d columns run from

-- the row could not be put into the table
pub record FailsPut (b d : Space) (run : Run) (from to : RunPos) (old : Table) (f : PageFault) : Type 0 where
  pub mid : Space
  pub bytes : List ℕ
  pub reads : ReadsRecord b mid run from to bytes
  pub steady : Steady none_mine mid d
  pub taken : d.taken ≡ mid.taken
  pub cause : HasCause mid d (Some f)
  pub fails : InsertFault mid f
  pub named : NamesLast old.last f

abbrev pub StoreFails : Space → Space → List Column → Run → RunPos → RunPos → ℕ → Table → PageFault → Type 0
StoreFails b d columns run from to first old f = FailsRead b d run f ⊎ (FailsRecord b d columns run from first f ⊎ FailsPut b d run from to old f)

-- the run's pages are as they were
pub record KeepsRun (b d : Space) (run : Run) (temp : List ℕ) : Type 0 where
  pub chain : IsRunChain d run temp
  pub taken : (x : ℕ) → d.taken (key_in Temp x) ≡ b.taken (key_in Temp x)

-- the rows that were put aside were put into the table
pub record StoresAll (b d : Space) (columns : List Column) (old new : Table) (stamp : ℕ) (run : Run) (temp : List ℕ) (rows : List (List Value)) : Type 0 where
  pub keeps : KeepsRun b d run temp
  pub cause : HasCause b d None
  pub puts : (pages : List ℕ) → IsChain b old pages → Puts b d old new pages stamp columns rows

-- Which damage is found by it: of the last page of the table, or of a page of the run.
abbrev pub FindsStoring : Option ℕ → List ℕ → PageFault → Type 0
FindsStoring last temp fault.MainFault = ⊤
FindsStoring last temp fault.TempFault = ⊤
FindsStoring last temp fault.MainFull = ⊤
FindsStoring last temp fault.TempFull = ⊤
FindsStoring last temp (fault.Damaged page check) =
    (((page ≡ main_page page.no) × (last ≡ Some page.no)) ⊎ ((page ≡ temp_page page.no) × (has_page temp page.no ≡ true))) × IsVersionCheck check

-- the main file has no room for so many pages more; no temporary page is taken
abbrev pub LacksMain : Space → ℕ → PageFault → Type 0
LacksMain a n fault.MainFault = ⊤
LacksMain a n fault.TempFault = ⊤
LacksMain a n fault.MainFull = a.limit Main < taken_in a Main + n
LacksMain a n fault.TempFull = ⊥
LacksMain a n (fault.Damaged page check) = ⊤

-- some of them were
pub record StoresSome (b d : Space) (columns : List Column) (old new : Table) (stamp : ℕ) (run : Run) (temp : List ℕ) (rows : List (List Value)) (f : PageFault) : Type 0 where
  pub keeps : KeepsRun b d run temp
  pub cause : HasCause b d (Some f)
  pub done : List (List Value)
  pub few : length done ≤ length rows
  pub puts : (pages : List ℕ) → IsChain b old pages → Puts b d old new pages stamp columns done
  pub room : LacksMain b (length rows) f
  pub found : FindsStoring new.last temp f

-- ---- the whole change, while its run is there

-- the rows that go were changed
pub record UpdatedBeside (a b : Space) (old new : Table) (columns : List Column) (c : ℕ → Bool) (s stamp : ℕ) (goes : List Value → Bool) (made : List Value → List Value) (run : Run) (n : ℕ) : Type 0 where
  pub gone : List (List Value)
  pub many : n ≡ length gone
  pub each : AllByRecursion (Concerns columns goes) gone
  pub no_cause : rows_cause columns (map made gone) ≡ None
  pub temp : List ℕ
  pub chain : IsRunChain b run temp
  pub cause : HasCause a b None
  pub concerned : (pages : List ℕ) (versions : List Placed) → IsTableOver a old columns pages versions → gone ≡ filter goes (seen_rows c s versions)
  pub done : (pages : List ℕ) → IsChain a old pages → (now : List ℕ) × GrowsBeside a b new pages now n temp
      × ((versions : List Placed) → IsTableOver a old columns pages versions → (more : List Placed) × IsTableOver b new columns now more × IsUpdated c s stamp goes made versions more)

-- a cause stands against the rows that would be made
pub record RefusedBeside (a b : Space) (t : Table) (columns : List Column) (c : ℕ → Bool) (s stamp : ℕ) (goes : List Value → Bool) (made : List Value → List Value) (run : Run) (code : ℕ) (column : Option ℕ) : Type 0 where
  pub n : ℕ
  pub causes : Causes
  pub all : ChangedAll a b t columns c s stamp goes made run causes n
  pub refusal : IsRefusal columns (map made all.gone) (change.Refused code column)

-- it failed
pub record SomeBeside (a b : Space) (old new : Table) (columns : List Column) (c : ℕ → Bool) (s stamp : ℕ) (goes : List Value → Bool) (run : Run) (f : PageFault) : Type 0 where
  pub gone : List (List Value)
  pub each : AllByRecursion (Concerns columns goes) gone
  pub temp : List ℕ
  pub chain : IsRunChain b run temp
  pub cause : HasCause a b (Some f)
  pub room : LacksRoom a (length gone) f
  pub few : (pages : List ℕ) (versions : List Placed) → IsTableOver a old columns pages versions → length gone ≤ count_by goes (seen_rows c s versions)
  pub done : (pages : List ℕ) → IsChain a old pages → (now : List ℕ) × GrowsBeside a b new pages now (length gone) temp × FindsUpdating a now f
      × ((versions : List Placed) → IsTableOver a old columns pages versions → (more : List Placed) × IsTableOver b new columns now more × IsHiddenUpTo c s stamp (length gone) versions more)

-- the run was given back
pub record EndsRun (a b : Space) (temp : List ℕ) : Type 0 where
  pub ends : Ends a b temp
  pub no_heap : AllByRecursion (λ x. b.of_heap (key_in Temp x) ≡ false) temp
