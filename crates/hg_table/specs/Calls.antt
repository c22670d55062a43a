-- What the calls on a table ask, what they do, and why they fail. Our own rule.
use Rattle.std.specs.Prelude.{◌≡◌, ℕ, zero, suc, true, false, List, [], ◌∷◌, ◌++◌, length, Option, Some, None, IsSome, IsTrue, MatchOption, option_and_then, ⊤, ◌⊎◌}
use Rattle.hg_base.specs.Space.{Space, key_in, at, taken_in, IsFull, IsFree}
use Rattle.hg_base.specs.Lines.{has_page}
use Rattle.hg_base.specs.Steadiness.{Mine, these_pages}
use Rattle.hg_base.specs.declared.File.TheVariants as file
use Rattle.hg_base.specs.declared.PageId.{PageId}
use Rattle.hg_base.specs.declared.Place.{Place}
use Rattle.hg_base.specs.declared.Table.{Table}
use Rattle.hg_base.specs.declared.Check.{Check}
use Rattle.hg_base.specs.declared.Check.TheVariants.{Kind, Size, Frame, Link, Level, Order, RowBytes}
use Rattle.hg_base.specs.declared.pages.PageFault.{PageFault}
use Rattle.hg_base.specs.declared.pages.PageFault.TheVariants as fault
use Rattle.hg_model.specs.declared.values.Value.{Value}
use Rattle.hg_slot.specs.Slotted.{Fits}
use Rattle.hg_table.specs.Chains.{IsChain}
use Rattle.hg_table.specs.Versions.{Placed, IsTable}
use Rattle.hg_table.specs.Places.{version_at}

-- the page of the main file with this number
abbrev pub main_page : ℕ → PageId
main_page x = record { file = file.Main; no = x }

-- a call that owns no page
abbrev pub none_mine : Mine
none_mine = these_pages (λ _. ⊥)

-- a call that owns this page of the main file
abbrev pub page_mine : ℕ → Mine
page_mine x = these_pages (λ q. q ≡ key_in file.Main x)

-- the page q is the one named here
abbrev pub IsNamed : Option ℕ → ℕ → Type 0
IsNamed None q = ⊥
IsNamed (Some x) q = q ≡ key_in file.Main x

-- an insertion owns the last page of its table, and the page of the new version
abbrev pub insert_mine : Table → Place → Mine
insert_mine t place = these_pages (λ q. IsNamed t.last q ⊎ (q ≡ key_in file.Main place.page))

-- What a call asks where the space tells: this is a table.
pub record HasTable (s : Space) (t : Table) : Type 0 where
  pub columns : ℕ
  pub pages : List ℕ
  pub versions : List Placed
  pub table : IsTable s t columns pages versions

-- The same, its rows have so many values, and the place is on one of its pages.
pub record HasPage (s : Space) (t : Table) (columns : ℕ) (place : Place) : Type 0 where
  pub pages : List ℕ
  pub versions : List Placed
  pub table : IsTable s t columns pages versions
  pub page : IsTrue (has_page pages place.page)

-- the same, and a version stands at the place
pub record HasVersion (s : Space) (t : Table) (columns : ℕ) (place : Place) : Type 0 where
  pub pages : List ℕ
  pub versions : List Placed
  pub table : IsTable s t columns pages versions
  pub there : IsSome (version_at versions place)

-- the same, and the place, if one is named, is on one of its pages
pub record HasStart (s : Space) (t : Table) (start : Option Place) : Type 0 where
  pub columns : ℕ
  pub pages : List ℕ
  pub versions : List Placed
  pub table : IsTable s t columns pages versions
  pub page : MatchOption start ⊤ (λ place. IsTrue (has_page pages place.page))

-- the place, if there is one, is on one of these pages
abbrev pub StandsOn : List ℕ → Option Place → Type 0
StandsOn pages None = ⊤
StandsOn pages (Some place) = IsTrue (has_page pages place.page)

-- Where a search begins: these are the pages of the table, which is known over every space, the place is
-- on one of them, and where the space tells, they hold rows of so many values.
pub record HasWay (s : Space) (t : Table) (columns : ℕ) (start : Option Place) : Type 0 where
  pub pages : List ℕ
  pub chain : IsChain s t pages
  pub on : StandsOn pages start
  pub rows : s.told ≡ true → (versions : List Placed) × IsTable s t columns pages versions

-- One version more was put among the others.
pub record PutsIn (old new : List Placed) (v : Placed) : Type 0 where
  pub before : List Placed
  pub after : List Placed
  pub was : old ≡ before ++ after
  pub now : new ≡ before ++ v ∷ after

-- a row that was born under this stamp and did not die, at a place
abbrev pub newborn : List Value → ℕ → Place → Placed
newborn row born place = record { place = place; version = record { born = born; died = None; row = row } }

-- It is a table with one version more.
pub record IsTableWith (s : Space) (t : Table) (columns : ℕ) (pages : List ℕ) (old : List Placed) (v : Placed) : Type 0 where
  pub versions : List Placed
  pub puts : PutsIn old versions v
  pub table : IsTable s t columns pages versions

-- A version was put into a table of these pages: they are the same, or one page more at the end.
pub record Inserts (a b : Space) (old new : Table) (pages : List ℕ) (v : Placed) : Type 0 where
  pub now : List ℕ
  pub chain : IsChain b new now
  pub grown : (now ≡ pages) ⊎ (now ≡ pages ++ v.place.page ∷ [])
  pub table : (columns : ℕ) (versions : List Placed) → length v.version.row ≡ columns → IsTable a old columns pages versions
      → IsTableWith b new columns now versions v

-- no record of n bytes fits the page named; where none is named, there is no page
abbrev pub HasNoRoom : Space → Option ℕ → ℕ → Type 0
HasNoRoom s None n = ⊤
HasNoRoom s (Some x) n = (page : List ℕ) → s.bytes (key_in file.Main x) ≡ Some page → Fits page n → ⊥

-- It went to the last page of the table, and no page was taken.
pub record KeepsPages (a b : Space) (old new : Table) (x : ℕ) : Type 0 where
  pub last : old.last ≡ Some x
  pub same : new ≡ old
  pub taken : b.taken ≡ a.taken

-- It went to a new page, since n bytes do not fit the last page of the table, or it had none.
pub record AddsPage (a b : Space) (old new : Table) (x n : ℕ) : Type 0 where
  pub last : new.last ≡ Some x
  pub not_taken : a.taken (key_in file.Main x) ≡ false
  pub taken : b.taken ≡ at a.taken (key_in file.Main x) true
  pub full : HasNoRoom a old.last n

-- Why an insertion fails: a device failed, or all pages of the main file are taken, or, where the
-- space does not tell, the last page is damaged.
abbrev pub IsPageCheck : Check → Type 0
IsPageCheck Kind = ⊤
IsPageCheck Size = ⊤
IsPageCheck Frame = ⊥
IsPageCheck Link = ⊥
IsPageCheck Level = ⊥
IsPageCheck Order = ⊥
IsPageCheck RowBytes = ⊥

abbrev pub InsertFault : Space → PageFault → Type 0
InsertFault a fault.MainFault = ⊤
InsertFault a fault.TempFault = ⊤
InsertFault a fault.MainFull = IsFull a file.Main
InsertFault a fault.TempFull = ⊥
InsertFault a (fault.Damaged page check) = IsPageCheck check

-- What may be wrong with a version that is read or killed, and with a table that is walked. A place
-- whose page cannot be pinned is wrong by RowBytes, a page of a chain that cannot be by Level.
abbrev pub IsVersionCheck : Check → Type 0
IsVersionCheck Kind = ⊤
IsVersionCheck Size = ⊤
IsVersionCheck Frame = ⊥
IsVersionCheck Link = ⊥
IsVersionCheck Level = ⊥
IsVersionCheck Order = ⊥
IsVersionCheck RowBytes = ⊤

abbrev pub IsWalkCheck : Check → Type 0
IsWalkCheck Kind = ⊤
IsWalkCheck Size = ⊤
IsWalkCheck Frame = ⊥
IsWalkCheck Link = ⊥
IsWalkCheck Level = ⊤
IsWalkCheck Order = ⊤
IsWalkCheck RowBytes = ⊤

-- Why a call fails that takes no page: a device failed, or, where the space does not tell, one of
-- these checks did.
abbrev pub LookFault : (Check → Type 0) → PageFault → Type 0
LookFault checks fault.MainFault = ⊤
LookFault checks fault.TempFault = ⊤
LookFault checks fault.MainFull = ⊥
LookFault checks fault.TempFull = ⊥
LookFault checks (fault.Damaged page check) = checks check

-- which page is named where one is damaged: the one with this number
abbrev pub NamesPage : ℕ → PageFault → Type 0
NamesPage x fault.MainFault = ⊤
NamesPage x fault.TempFault = ⊤
NamesPage x fault.MainFull = ⊤
NamesPage x fault.TempFull = ⊤
NamesPage x (fault.Damaged page check) = page ≡ main_page x

-- the one with the number that is given; where none is given, no page is damaged
abbrev pub NamesGiven : Option ℕ → PageFault → Type 0
NamesGiven x fault.MainFault = ⊤
NamesGiven x fault.TempFault = ⊤
NamesGiven x fault.MainFull = ⊤
NamesGiven x fault.TempFull = ⊤
NamesGiven x (fault.Damaged page check) = MatchOption x ⊥ (λ no. page ≡ main_page no)

-- one of these
abbrev pub NamesOneOf : List ℕ → PageFault → Type 0
NamesOneOf pages fault.MainFault = ⊤
NamesOneOf pages fault.TempFault = ⊤
NamesOneOf pages fault.MainFull = ⊤
NamesOneOf pages fault.TempFull = ⊤
NamesOneOf pages (fault.Damaged page check) = (page ≡ main_page page.no) × IsTrue (has_page pages page.no)

-- a page of the main file
abbrev pub NamesMain : PageFault → Type 0
NamesMain fault.MainFault = ⊤
NamesMain fault.TempFault = ⊤
NamesMain fault.MainFull = ⊤
NamesMain fault.TempFull = ⊤
NamesMain (fault.Damaged page check) = page.file ≡ file.Main

-- this page of the main file cannot be pinned
abbrev pub CannotBePinned : Space → ℕ → Type 0
CannotBePinned s x = IsFree s (main_page x) → ⊥

-- what is answered of a place whose page cannot be pinned
abbrev pub wrong_place : ℕ → PageFault
wrong_place x = fault.Damaged (main_page x) RowBytes

-- a row that a refused call was to fill: as it was, or without values
abbrev pub LeavesRow : List Value → List Value → Type 0
LeavesRow old new = (new ≡ old) ⊎ (new ≡ [])

-- Which page of a walk cannot be pinned: by RowBytes that of the place where it starts, and by Level
-- one of the chain, where that of the place can be. A page whose own bytes are wrong can be.
abbrev pub WalkBars : Space → Option Place → PageId → Check → Type 0
WalkBars s start page Kind = IsFree s page
WalkBars s start page Size = IsFree s page
WalkBars s start page Frame = ⊤
WalkBars s start page Link = ⊤
WalkBars s start page Level = (IsFree s page → ⊥) × MatchOption start ⊤ (λ place. IsFree s (main_page place.page))
WalkBars s start page Order = ⊤
WalkBars s start page RowBytes = (IsFree s page → ⊥) × MatchOption start ⊥ (λ place. page ≡ main_page place.page)

abbrev pub IsBarred : Space → Option Place → PageFault → Type 0
IsBarred s start fault.MainFault = ⊤
IsBarred s start fault.TempFault = ⊤
IsBarred s start fault.MainFull = ⊤
IsBarred s start fault.TempFull = ⊤
IsBarred s start (fault.Damaged page check) = WalkBars s start page check

-- the page that a walk is at after so many steps
abbrev pub reached : (ℕ → Option ℕ) → Option ℕ → ℕ → Option ℕ
reached next from zero = from
reached next from (suc n) = option_and_then (λ x. next (key_in file.Main x)) (reached next from n)

-- where a walk enters the chain: at its first page, or behind the page of the place where it starts
abbrev pub walk_start : Space → Table → Option Place → Option ℕ
walk_start s t None = t.first
walk_start s t (Some place) = s.next (key_in file.Main place.page)

-- A walk is too long by Order: as many steps as there are pages taken lead to the page that is named.
abbrev pub IsTooLong : Space → Option ℕ → PageId → Check → Type 0
IsTooLong s from page Kind = ⊤
IsTooLong s from page Size = ⊤
IsTooLong s from page Frame = ⊤
IsTooLong s from page Link = ⊤
IsTooLong s from page Level = ⊤
IsTooLong s from page Order = reached s.next from (taken_in s file.Main) ≡ Some page.no
IsTooLong s from page RowBytes = ⊤

abbrev pub WalksOn : Space → Option ℕ → PageFault → Type 0
WalksOn s from fault.MainFault = ⊤
WalksOn s from fault.TempFault = ⊤
WalksOn s from fault.MainFull = ⊤
WalksOn s from fault.TempFull = ⊤
WalksOn s from (fault.Damaged page check) = IsTooLong s from page check

-- A call that takes no page.
pub record TakesNone (a b : Space) : Type 0 where
  pub taken : b.taken ≡ a.taken
