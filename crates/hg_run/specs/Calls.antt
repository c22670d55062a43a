-- What the calls on a run ask, what they do, and why they fail. Our own rule.
use Rattle.std.specs.Prelude.{◌≡◌, ℕ, ◌+◌, Bool, true, false, List, [], ◌∷◌, ◌++◌, length, map, Option, Some, None, IsTrue, ⊤, ◌⊎◌}
use Rattle.std.specs.List.{AllByRecursion}
use Rattle.hg_base.specs.Space.{Space, key_in, at, IsFull}
use Rattle.hg_base.specs.Lines.{has_page}
use Rattle.hg_base.specs.Steadiness.{Mine, Steady, these_pages}
use Rattle.hg_base.specs.declared.File.TheVariants as file
use Rattle.hg_base.specs.declared.PageId.{PageId}
use Rattle.hg_base.specs.declared.Check.{Check}
use Rattle.hg_base.specs.declared.Check.TheVariants as check
use Rattle.hg_base.specs.declared.pages.PageFault.{PageFault}
use Rattle.hg_base.specs.declared.pages.PageFault.TheVariants as fault
use Rattle.hg_run.specs.declared.Run.{Run}
use Rattle.hg_run.specs.declared.RunPos.{RunPos}
use Rattle.hg_run.specs.Layout.{pages_for}
use Rattle.hg_run.specs.Runs.{IsChain, IsRun, IsAt, StandsAtNext, StandsOn}

-- the temporary page with this number
abbrev pub temp_page : ℕ → PageId
temp_page x = record { file = file.Temp; no = x }

-- a call that owns no page
abbrev pub none_mine : Mine
none_mine = these_pages (λ _. ⊥)

-- a call that owns these temporary pages
abbrev pub pages_mine : List ℕ → Mine
pages_mine pages = these_pages (λ q. (n : ℕ) × (q ≡ key_in file.Temp n) × (has_page pages n ≡ true))

-- the page q is the one named here
abbrev pub IsNamed : Option ℕ → ℕ → Type 0
IsNamed None q = ⊥
IsNamed (Some x) q = q ≡ key_in file.Temp x

-- an append owns the last page of its run, before it and after it
abbrev pub append_mine : Run → Run → Mine
append_mine old new = these_pages (λ q. IsNamed old.last q ⊎ IsNamed new.last q)

-- What a call asks where the space tells: this is a run.
pub record HasRun (s : Space) (run : Run) : Type 0 where
  pub rs : List (List ℕ)
  pub pages : List ℕ
  pub run_is : IsRun s run rs pages

-- where the space tells, this is a run on these pages, and the position is one of it
pub record HasPosition (s : Space) (run : Run) (pages : List ℕ) (at : RunPos) : Type 0 where
  pub rs : List (List ℕ)
  pub done : List (List ℕ)
  pub rest : List (List ℕ)
  pub run_is : IsRun s run rs pages
  pub place : IsAt pages rs at done rest

-- What a read asks: the page of the position is one of the run's, over every space; and where the space
-- tells, it is a position of the run.
pub record HasWay (s : Space) (run : Run) (at : RunPos) : Type 0 where
  pub pages : List ℕ
  pub chain : IsChain s run pages
  pub on : StandsOn pages at.page
  pub position : s.told ≡ true → HasPosition s run pages at

-- The pages of the run are the same, and no page was taken; or a page was taken and put behind them.
pub record KeepsPages (a b : Space) (pages now : List ℕ) : Type 0 where
  pub same : now ≡ pages
  pub taken : b.taken ≡ a.taken

pub record AddsPage (a b : Space) (pages now : List ℕ) : Type 0 where
  pub x : ℕ
  pub more : now ≡ pages ++ x ∷ []
  pub not_taken : a.taken (key_in file.Temp x) ≡ false
  pub taken : b.taken ≡ at a.taken (key_in file.Temp x) true

-- A record was put behind the others of a run on these pages.
pub record Appends (a b : Space) (old new : Run) (pages : List ℕ) (r : List ℕ) : Type 0 where
  pub now : List ℕ
  pub chain : IsChain b new now
  pub grown : KeepsPages a b pages now ⊎ AddsPage a b pages now
  pub run_is : (rs : List (List ℕ)) → IsRun a old rs pages → IsRun b new (rs ++ r ∷ []) now

-- a record more takes a page more
pub record NeedsPage (rs : List (List ℕ)) (r : List ℕ) (pages : List ℕ) : Type 0 where
  pub more : pages_for (map length (rs ++ r ∷ [])) ≡ length pages + 1

-- the first record behind the position was read, and the position is behind it now, at the one that
-- follows it
pub record ReadsOne (pages : List ℕ) (rs : List (List ℕ)) (new : RunPos) (done rest : List (List ℕ)) (out : List ℕ) : Type 0 where
  pub behind : List (List ℕ)
  pub next : rest ≡ out ∷ behind
  pub place : IsAt pages rs new (done ++ out ∷ []) behind
  pub at_next : StandsAtNext pages rs new.page new.offset (done ++ out ∷ []) behind

-- Whether a record was read; none exactly where no record is behind the position.
abbrev pub Reads : Bool → List ℕ → List (List ℕ) → RunPos → List (List ℕ) → List (List ℕ) → List ℕ → Type 0
Reads true pages rs new done rest out = ReadsOne pages rs new done rest out
Reads false pages rs new done rest out = rest ≡ []

-- The pages are not taken any more, and all else is as it was, counts too: no device was called, and no page
-- became one of a heap.
pub record Ends (a b : Space) (pages : List ℕ) : Type 0 where
  pub gone : AllByRecursion (λ x. b.taken (key_in file.Temp x) ≡ false) pages
  pub steady : Steady (pages_mine pages) a b
  pub counts : b.counts ≡ a.counts
  pub of_heap : b.of_heap ≡ a.of_heap

-- What may be wrong with a page of a run.
abbrev pub IsPageCheck : Check → Type 0
IsPageCheck check.Kind = ⊤
IsPageCheck check.Size = ⊤
IsPageCheck check.Frame = ⊥
IsPageCheck check.Link = ⊥
IsPageCheck check.Level = ⊥
IsPageCheck check.Order = ⊥
IsPageCheck check.RowBytes = ⊥

-- Why an append fails: a device failed, or all temporary pages are taken, or, where the space does not
-- tell, the last page is damaged.
abbrev pub AppendFault : Space → PageFault → Type 0
AppendFault a fault.MainFault = ⊤
AppendFault a fault.TempFault = ⊤
AppendFault a fault.MainFull = ⊥
AppendFault a fault.TempFull = IsFull a file.Temp
AppendFault a (fault.Damaged page check) = IsPageCheck check

-- Why a read fails: a device failed, or, where the space does not tell, a page is damaged.
abbrev pub ReadFault : PageFault → Type 0
ReadFault fault.MainFault = ⊤
ReadFault fault.TempFault = ⊤
ReadFault fault.MainFull = ⊥
ReadFault fault.TempFull = ⊥
ReadFault (fault.Damaged page check) = IsPageCheck check

-- which page is named where one is damaged: the one with this number; where none is given, no page is
-- damaged
abbrev pub NamesGiven : Option ℕ → PageFault → Type 0
NamesGiven x fault.MainFault = ⊤
NamesGiven x fault.TempFault = ⊤
NamesGiven x fault.MainFull = ⊤
NamesGiven x fault.TempFull = ⊤
NamesGiven None (fault.Damaged page check) = ⊥
NamesGiven (Some x) (fault.Damaged page check) = page ≡ temp_page x

-- one of these
abbrev pub NamesOneOf : List ℕ → PageFault → Type 0
NamesOneOf pages fault.MainFault = ⊤
NamesOneOf pages fault.TempFault = ⊤
NamesOneOf pages fault.MainFull = ⊤
NamesOneOf pages fault.TempFull = ⊤
NamesOneOf pages (fault.Damaged page check) = (page ≡ temp_page page.no) × IsTrue (has_page pages page.no)
