-- What the small calls do that the calls on a run are made of. Our own rule.
use Rattle.std.specs.Prelude.{◌≡◌, ℕ, ◌+◌, ◌≤◌, Bool, true, false, List, [], ◌∷◌, ◌++◌, length, Option, Some, None, is_some, ⊤, ◌⊎◌, if◌then◌else◌}
use Rattle.std.specs.List.{AllByRecursion}
use Rattle.hg_base.specs.Space.{Space, key_in, at}
use Rattle.hg_base.specs.Lines.{IsLine}
use Rattle.hg_base.specs.Steadiness.{Mine, Steady, these_pages}
use Rattle.hg_base.specs.declared.File.TheVariants as file
use Rattle.hg_run.specs.declared.Run.{Run}
use Rattle.hg_run.specs.declared.RunPos.{RunPos}
use Rattle.hg_run.specs.declared.page.Found.{Found}
use Rattle.hg_run.specs.Format.{spelling, IsClean, IsRunPage}
use Rattle.hg_run.specs.Layout.{fits}
use Rattle.hg_run.specs.Calls.{none_mine, append_mine, pages_mine}

abbrev pub page_mine : ℕ → Mine
page_mine x = these_pages (λ q. q ≡ key_in file.Temp x)

-- pages were looked at: nothing changed but counts
pub record Looks (a b : Space) : Type 0 where
  pub steady : Steady none_mine a b
  pub taken : b.taken ≡ a.taken

-- the page holds bytes that are so
pub record IsHeld (b : Space) (x : ℕ) (P : List ℕ → Type 0) : Type 0 where
  pub bytes : List ℕ
  pub told : b.bytes (key_in file.Temp x) ≡ Some bytes
  pub are : P bytes

-- A page was changed so, and all else is as it was.
pub record ChangesPage (a b : Space) (x : ℕ) (P : List ℕ → List ℕ → Type 0) : Type 0 where
  pub steady : Steady (page_mine x) a b
  pub taken : b.taken ≡ a.taken
  pub of_heap : b.of_heap ≡ a.of_heap
  pub links : b.next ≡ a.next
  pub bytes : (old : List ℕ) → a.bytes (key_in file.Temp x) ≡ Some old → IsHeld b x (P old)

-- The page was looked at, and is so.
pub record LooksAt (a b : Space) (x : ℕ) (P : List ℕ → Type 0) : Type 0 where
  pub looks : Looks a b
  pub is : (bytes : List ℕ) → a.bytes (key_in file.Temp x) ≡ Some bytes → P bytes

-- a record was put behind those of a page
pub record PutsBehind (old new : List ℕ) (r : List ℕ) : Type 0 where
  pub room : (rs : List (List ℕ)) → IsRunPage old rs → fits rs r ≡ true
  pub page : (rs : List (List ℕ)) → IsRunPage old rs → IsRunPage new (rs ++ r ∷ [])
  pub clean : (rs : List (List ℕ)) → IsRunPage old rs → IsClean old → IsClean new

-- it does not fit there
pub record HasNoRoom (page : List ℕ) (r : List ℕ) : Type 0 where
  pub full : (rs : List (List ℕ)) → IsRunPage page rs → fits rs r ≡ false

abbrev pub PutsIn : List ℕ → List ℕ → List ℕ → Bool → Type 0
PutsIn old new r true = PutsBehind old new r
PutsIn old new r false = HasNoRoom old r × (new ≡ old)

abbrev pub PutsOn : Space → Space → ℕ → List ℕ → Bool → Type 0
PutsOn a b x r true = ChangesPage a b x (λ old new. PutsBehind old new r)
PutsOn a b x r false = LooksAt a b x (λ page. HasNoRoom page r)

-- A page was taken that holds one record.
pub record MakesPage (a b : Space) (r : List ℕ) (x : ℕ) : Type 0 where
  pub steady : Steady (page_mine x) a b
  pub not_taken : a.taken (key_in file.Temp x) ≡ false
  pub taken : b.taken ≡ at a.taken (key_in file.Temp x) true
  pub below_limit : x + 1 ≤ a.limit file.Temp
  pub no_heap : b.of_heap (key_in file.Temp x) ≡ false
  pub no_next : b.next (key_in file.Temp x) ≡ None
  pub bytes : a.told ≡ true → IsHeld b x (λ page. IsRunPage page (r ∷ []) × IsClean page)

-- the first page of a run behind whose last page one was put
abbrev pub first_with : Run → ℕ → Option ℕ
first_with run x = if is_some run.last then run.first else Some x

pub record IsLinked (a b : Space) (last x : ℕ) : Type 0 where
  pub of_heap : b.of_heap (key_in file.Temp last) ≡ a.of_heap (key_in file.Temp last)
  pub bytes : b.bytes (key_in file.Temp last) ≡ a.bytes (key_in file.Temp last)
  pub next : b.next (key_in file.Temp last) ≡ Some x

-- where a run has a last page, that page leads to this one, and is else as it was
abbrev pub LeadsTo : Space → Space → Option ℕ → ℕ → Type 0
LeadsTo a b None x = ⊤
LeadsTo a b (Some last) x = IsLinked a b last x

-- A page was taken that holds one record, and put behind the last page of a run.
pub record AddsRecord (a b : Space) (old new : Run) (r : List ℕ) (x : ℕ) : Type 0 where
  pub steady : Steady (append_mine old new) a b
  pub not_taken : a.taken (key_in file.Temp x) ≡ false
  pub taken : b.taken ≡ at a.taken (key_in file.Temp x) true
  pub below_limit : x + 1 ≤ a.limit file.Temp
  pub no_heap : b.of_heap (key_in file.Temp x) ≡ false
  pub no_next : b.next (key_in file.Temp x) ≡ None
  pub bytes : a.told ≡ true → IsHeld b x (λ page. IsRunPage page (r ∷ []) × IsClean page)
  pub first : new.first ≡ first_with old x
  pub last : new.last ≡ Some x
  pub linked : LeadsTo a b old.last x

-- the next record of a page was found: it ends before the offset `after`, and is the last one there or not
pub record IsNext (done todo : List (List ℕ)) (after : ℕ) (is_last : Bool) (out : List ℕ) : Type 0 where
  pub rest : List (List ℕ)
  pub next : todo ≡ out ∷ rest
  pub after_is : after ≡ 16 + length (spelling (done ++ out ∷ []))
  pub none_left : is_last ≡ true → rest ≡ []
  pub last_is : rest ≡ [] → is_last ≡ true

abbrev pub TakesNext : List (List ℕ) → List (List ℕ) → Option Found → List ℕ → Type 0
TakesNext done todo None out = todo ≡ []
TakesNext done todo (Some found) out = IsNext done todo found.after found.is_last out

-- Some of the pages were given back already.
pub record Releases (a b : Space) (pages : List ℕ) (next : Option ℕ) (turns : ℕ) : Type 0 where
  pub done : List ℕ
  pub rest : List ℕ
  pub all : pages ≡ done ++ rest
  pub line : IsLine file.Temp b next rest
  pub gone : AllByRecursion (λ x. b.taken (key_in file.Temp x) ≡ false) done
  pub steady : Steady (pages_mine pages) a b
  pub counts : b.counts ≡ a.counts
  pub of_heap : b.of_heap ≡ a.of_heap
  pub few : turns + length rest ≡ length pages

-- What came of putting a record on the last page of a run, if there is one.
abbrev pub PutsLast : Space → Space → Option ℕ → List ℕ → Bool → Type 0
PutsLast a b (Some x) r done = PutsOn a b x r done
PutsLast a b None r true = ⊥
PutsLast a b None r false = Looks a b

-- Where a position goes behind a record: behind it on its page, or, where it is the last one there, to
-- the page that follows, if one does.
pub record IsBehindOn (b : Space) (x : ℕ) (found : Found) (at : RunPos) : Type 0 where
  pub page : at.page ≡ Some x
  pub offset : at.offset ≡ found.after
  pub ends : found.is_last ≡ true → b.next (key_in file.Temp x) ≡ None

pub record IsBefore (b : Space) (x : ℕ) (found : Found) (at : RunPos) : Type 0 where
  pub is_last : found.is_last ≡ true
  pub next : ℕ
  pub follows : b.next (key_in file.Temp x) ≡ Some next
  pub page : at.page ≡ Some next
  pub offset : at.offset ≡ 16

abbrev pub IsBehind : Space → ℕ → Found → RunPos → Type 0
IsBehind b x found at = IsBehindOn b x found at ⊎ IsBefore b x found at

-- the position, or the first one of the page that is named first
abbrev pub position_from : RunPos → Option ℕ → RunPos
position_from at first = if is_some at.page then at else record { page = first; offset = 16 }
