-- What the small calls do that the calls on a table are made of. Our own rule.
use Rattle.std.specs.Prelude.{◌≡◌, ◌≢◌, ℕ, ◌^◌, ◌<◌, ◌≤◌, Bool, true, false, List, Option, Some, None, length, slice_index, is_some, ⊤, if◌then◌else◌}
use Rattle.hg_base.specs.Space.{Space, key_in, at, IsFree}
use Rattle.hg_base.specs.Lines.{IsLine}
use Rattle.hg_base.specs.Steadiness.{Steady}
use Rattle.hg_base.specs.declared.File.TheVariants.{Main}
use Rattle.hg_base.specs.declared.Place.{Place}
use Rattle.hg_base.specs.declared.Table.{Table}
use Rattle.hg_base.specs.declared.Check.{Check}
use Rattle.hg_base.specs.declared.Check.TheVariants as check
use Rattle.hg_base.specs.declared.pages.PageFault.{PageFault}
use Rattle.hg_base.specs.declared.pages.PageFault.TheVariants as fault
use Rattle.hg_slot.specs.Slotted.{record_at, IsSlotted, IsClean, Fits}
use Rattle.hg_slot.specs.Changing.{IsInserted, Overwrites, fault_at}
use Rattle.std.specs.Int.{w32, to_le_bytes}
use Rattle.std.specs.List.{AllByRecursion}
use Rattle.hg_table.specs.Versions.{RowVersion, HoldsVersions, Shows}
use Rattle.hg_model.specs.Visible.{is_visible}
use Rattle.hg_model.specs.declared.values.Value.{Value}
use Rattle.hg_table.specs.Places.{sees}
use Rattle.hg_table.specs.Calls.{main_page, none_mine, page_mine, insert_mine, TakesNone, HasNoRoom}

-- the check is this one
abbrev pub IsThis : Check → Check → Type 0
IsThis c d = d ≡ c

-- the page that is named where one is damaged cannot be pinned
abbrev pub IsNotFree : Space → PageFault → Type 0
IsNotFree s fault.MainFault = ⊤
IsNotFree s fault.TempFault = ⊤
IsNotFree s fault.MainFull = ⊤
IsNotFree s fault.TempFull = ⊤
IsNotFree s (fault.Damaged page check) = IsFree s page → ⊥

-- any check but that of the length of a walk
abbrev pub IsStepCheck : Check → Type 0
IsStepCheck check.Kind = ⊤
IsStepCheck check.Size = ⊤
IsStepCheck check.Frame = ⊤
IsStepCheck check.Link = ⊤
IsStepCheck check.Level = ⊤
IsStepCheck check.Order = ⊥
IsStepCheck check.RowBytes = ⊤

abbrev pub IsNotTooLong : PageFault → Type 0
IsNotTooLong fault.MainFault = ⊤
IsNotTooLong fault.TempFault = ⊤
IsNotTooLong fault.MainFull = ⊤
IsNotTooLong fault.TempFull = ⊤
IsNotTooLong (fault.Damaged page c) = IsStepCheck c

-- any fault but damage
abbrev pub IsNoDamage : PageFault → Type 0
IsNoDamage fault.MainFault = ⊤
IsNoDamage fault.TempFault = ⊤
IsNoDamage fault.MainFull = ⊤
IsNoDamage fault.TempFull = ⊤
IsNoDamage (fault.Damaged page check) = ⊥

-- pages were looked at: nothing changed but counts
pub record Looks (a b : Space) : Type 0 where
  pub steady : Steady none_mine a b
  pub takes_none : TakesNone a b

-- A call was refused: nothing changed but counts, which may tell that a file was full.
pub record Refused (a b : Space) : Type 0 where
  pub steady : Steady none_mine a b
  pub taken : b.taken ≡ a.taken

-- A page that may be looked at: it can be pinned, and is a slotted page.
pub record IsSound (s : Space) (x : ℕ) : Type 0 where
  pub free : IsFree s (main_page x)
  pub page : List ℕ
  pub told : s.bytes (key_in Main x) ≡ Some page
  pub slotted : IsSlotted page

-- The same, and its record shows this at the slot.
pub record IsSoundAt (s : Space) (columns x slot : ℕ) (v : Option RowVersion) : Type 0 where
  pub free : IsFree s (main_page x)
  pub page : List ℕ
  pub told : s.bytes (key_in Main x) ≡ Some page
  pub slotted : IsSlotted page
  pub shows : Shows columns (record_at page slot) v

-- the slot j is the first from this one on that is not empty
pub record IsFirstFull (page : List ℕ) (from j : ℕ) : Type 0 where
  pub behind : from ≤ j
  pub shown : List ℕ
  pub full : record_at page j ≡ Some shown
  pub none : (k : ℕ) → from ≤ k → k < j → record_at page k ≡ None

-- the first slot from this one on that is not empty
abbrev pub IsNextSlot : List ℕ → ℕ → Option ℕ → Type 0
IsNextSlot page from None = (k : ℕ) → from ≤ k → record_at page k ≡ None
IsNextSlot page from (Some j) = IsFirstFull page from j

-- Where the space tells, a line of pages and the versions that they hold.
pub record HoldsLine (s : Space) (start : Option ℕ) : Type 0 where
  pub columns : ℕ
  pub pages : List ℕ
  pub held : ℕ → ℕ → Option RowVersion
  pub told : s.told ≡ true
  pub line : IsLine Main s start pages
  pub holds : AllByRecursion (λ x. HoldsVersions s columns x (held x)) pages

-- A line of pages and the rows of so many values that they hold.
pub record HoldsRowsOf (s : Space) (start : Option ℕ) (columns : ℕ) : Type 0 where
  pub pages : List ℕ
  pub held : ℕ → ℕ → Option RowVersion
  pub line : IsLine Main s start pages
  pub holds : AllByRecursion (λ x. HoldsVersions s columns x (held x)) pages

-- What is wrong with a slot that is read: its page's kind, its own entry or the number of slots, or its
-- record is no version. Kind comes only where byte 0 is another one, Size only where a look at the slot
-- tells it.
abbrev pub IsWrongAt : List ℕ → ℕ → ℕ → Check → Type 0
IsWrongAt page columns slot check.Kind = slice_index page 0 ≢ 83
IsWrongAt page columns slot check.Size = (fault_at page slot ≡ Some check.Size) × (IsSlotted page → ⊥)
IsWrongAt page columns slot check.Frame = ⊥
IsWrongAt page columns slot check.Link = ⊥
IsWrongAt page columns slot check.Level = ⊥
IsWrongAt page columns slot check.Order = ⊥
IsWrongAt page columns slot check.RowBytes = (v : Option RowVersion) → Shows columns (record_at page slot) v → ⊥

-- The same where a version is wanted: there may be none.
abbrev pub IsWrongVersion : List ℕ → ℕ → ℕ → Check → Type 0
IsWrongVersion page columns slot check.Kind = slice_index page 0 ≢ 83
IsWrongVersion page columns slot check.Size = (fault_at page slot ≡ Some check.Size) × (IsSlotted page → ⊥)
IsWrongVersion page columns slot check.Frame = ⊥
IsWrongVersion page columns slot check.Link = ⊥
IsWrongVersion page columns slot check.Level = ⊥
IsWrongVersion page columns slot check.Order = ⊥
IsWrongVersion page columns slot check.RowBytes = (v : RowVersion) → Shows columns (record_at page slot) (Some v) → ⊥

-- What is wrong with a page whose versions are looked through.
abbrev pub IsWrongPage : List ℕ → ℕ → Check → Type 0
IsWrongPage page columns check.Kind = slice_index page 0 ≢ 83
IsWrongPage page columns check.Size = (slice_index page 0 ≡ 83) × (IsSlotted page → ⊥)
IsWrongPage page columns check.Frame = ⊥
IsWrongPage page columns check.Link = ⊥
IsWrongPage page columns check.Level = ⊥
IsWrongPage page columns check.Order = ⊥
IsWrongPage page columns check.RowBytes = (held : ℕ → Option RowVersion) → ((k : ℕ) → Shows columns (record_at page k) (held k)) → ⊥

-- the version of the slot j is the first from a slot on that a snapshot sees, and its row was read
pub record IsFirstSeen (committed : ℕ → Bool) (snapshot : ℕ) (held : ℕ → Option RowVersion) (from j : ℕ) (row : List Value) : Type 0 where
  pub behind : from ≤ j
  pub version : RowVersion
  pub stands : held j ≡ Some version
  pub seen : is_visible committed snapshot version ≡ true
  pub row_is : row ≡ version.row
  pub none : (k : ℕ) → from ≤ k → k < j → sees committed snapshot (held k) ≡ false

-- the first version of a page from a slot on that a snapshot sees, and what was read of it
abbrev pub IsNextSeen : (ℕ → Bool) → ℕ → (ℕ → Option RowVersion) → ℕ → Option ℕ → List Value → List Value → Type 0
IsNextSeen committed snapshot held from None old new = ((k : ℕ) → from ≤ k → sees committed snapshot (held k) ≡ false) × (new ≡ old)
IsNextSeen committed snapshot held from (Some j) old new = IsFirstSeen committed snapshot held from j new

-- A record was put into a slot of a slotted page that was empty.
pub record Puts (old new r : List ℕ) (slot : ℕ) : Type 0 where
  pub inserted : IsSlotted old → IsInserted old new slot r

-- No record of its length fits the page.
pub record HasNone (old new r : List ℕ) : Type 0 where
  pub same : new ≡ old
  pub full : Fits old (length r) → ⊥

abbrev pub Tries : List ℕ → List ℕ → List ℕ → Option ℕ → Type 0
Tries old new r None = HasNone old new r
Tries old new r (Some slot) = Puts old new r slot

-- The page is a slotted page with one record; all of its bytes that have no meaning are zero.
pub record HoldsRecord (page : List ℕ) (slot : ℕ) (r : List ℕ) : Type 0 where
  pub slotted : IsSlotted page
  pub clean : IsClean page
  pub here : record_at page slot ≡ Some r
  pub others : (k : ℕ) → k ≢ slot → record_at page k ≡ None

-- where the page held these bytes, it holds some that were changed like this
pub record Changes (b : Space) (x : ℕ) (P : List ℕ → Type 0) : Type 0 where
  pub page : List ℕ
  pub told : b.bytes (key_in Main x) ≡ Some page
  pub holds : P page

-- A page was changed, and all else is as it was.
pub record ChangesPage (a b : Space) (x : ℕ) (P : List ℕ → List ℕ → Type 0) : Type 0 where
  pub steady : Steady (page_mine x) a b
  pub takes_none : TakesNone a b
  pub of_heap : b.of_heap (key_in Main x) ≡ a.of_heap (key_in Main x)
  pub next : b.next (key_in Main x) ≡ a.next (key_in Main x)
  pub bytes : (page : List ℕ) → a.bytes (key_in Main x) ≡ Some page → Changes b x (P page)

-- The page was looked at, and no record of so many bytes fits it.
pub record HasNoPlace (a b : Space) (x n : ℕ) : Type 0 where
  pub looks : Looks a b
  pub full : HasNoRoom a (Some x) n

abbrev pub PutsRecord : Space → Space → ℕ → List ℕ → Option ℕ → Type 0
PutsRecord a b x r None = HasNoPlace a b x (length r)
PutsRecord a b x r (Some slot) = ChangesPage a b x (λ old new. Puts old new r slot)

-- A page was taken that holds one record.
pub record MakesPage (a b : Space) (r : List ℕ) (place : Place) : Type 0 where
  pub steady : Steady (page_mine place.page) a b
  pub not_taken : a.taken (key_in Main place.page) ≡ false
  pub taken : b.taken ≡ at a.taken (key_in Main place.page) true
  pub below_limit : place.page < a.limit Main
  pub no_heap : b.of_heap (key_in Main place.page) ≡ false
  pub no_next : b.next (key_in Main place.page) ≡ None
  pub bytes : a.told ≡ true → Changes b place.page (λ page. HoldsRecord page place.slot r)

-- the first page of a table behind whose last page one was put
abbrev pub first_with : Table → ℕ → Option ℕ
first_with t x = if is_some t.last then t.first else Some x

pub record IsLinked (a b : Space) (last x : ℕ) : Type 0 where
  pub of_heap : b.of_heap (key_in Main last) ≡ a.of_heap (key_in Main last)
  pub bytes : b.bytes (key_in Main last) ≡ a.bytes (key_in Main last)
  pub next : b.next (key_in Main last) ≡ Some x

-- where a table has a last page, that page leads to this one, and is else as it was
abbrev pub LeadsTo : Space → Space → Option ℕ → ℕ → Type 0
LeadsTo a b None x = ⊤
LeadsTo a b (Some last) x = IsLinked a b last x

-- A page was taken that holds one record, and put behind the last page of a table.
pub record AddsRecord (a b : Space) (old new : Table) (r : List ℕ) (place : Place) : Type 0 where
  pub steady : Steady (insert_mine old place) a b
  pub not_taken : a.taken (key_in Main place.page) ≡ false
  pub taken : b.taken ≡ at a.taken (key_in Main place.page) true
  pub below_limit : place.page < a.limit Main
  pub no_heap : b.of_heap (key_in Main place.page) ≡ false
  pub no_next : b.next (key_in Main place.page) ≡ None
  pub bytes : a.told ≡ true → Changes b place.page (λ page. HoldsRecord page place.slot r)
  pub first : new.first ≡ first_with old place.page
  pub last : new.last ≡ Some place.page
  pub linked : LeadsTo a b old.last place.page

-- a slot holds the stamps of a version, or no version
abbrev pub HoldsStamps : List ℕ → ℕ → Bool → Type 0
HoldsStamps page slot true = (r : List ℕ) × (record_at page slot ≡ Some r) × (8 ≤ length r)
HoldsStamps page slot false = (columns : ℕ) (v : RowVersion) → Shows columns (record_at page slot) (Some v) → ⊥

-- The stamp of its death was set in the record of a slot.
pub record Kills (old new : List ℕ) (slot died : ℕ) : Type 0 where
  pub small : died < 2 ^ 32
  pub record_bytes : List ℕ
  pub was : record_at old slot ≡ Some record_bytes
  pub long : 8 ≤ length record_bytes
  pub written : IsSlotted old → Overwrites old new slot 4 (to_le_bytes w32 died)

-- The same whatever the number of values.
abbrev pub IsWrongRecord : List ℕ → ℕ → Check → Type 0
IsWrongRecord page slot check.Kind = slice_index page 0 ≢ 83
IsWrongRecord page slot check.Size = (fault_at page slot ≡ Some check.Size) × (IsSlotted page → ⊥)
IsWrongRecord page slot check.Frame = ⊥
IsWrongRecord page slot check.Link = ⊥
IsWrongRecord page slot check.Level = ⊥
IsWrongRecord page slot check.Order = ⊥
IsWrongRecord page slot check.RowBytes = (columns : ℕ) (v : RowVersion) → Shows columns (record_at page slot) (Some v) → ⊥
