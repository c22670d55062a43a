-- A run on the pages of a space: its list of records. Our own rule.
use Rattle.std.specs.Prelude.{◌≡◌, ℕ, ◌+◌, true, List, [], ◌∷◌, ◌++◌, length, map, Option, Some, None, IsTrue, ⊤}
use Rattle.hg_base.specs.Space.{Space, key_in}
use Rattle.hg_base.specs.Lines.{IsLine, has_page, last_of}
use Rattle.hg_base.specs.declared.File.TheVariants.{Temp}
use Rattle.hg_run.specs.declared.Run.{Run}
use Rattle.hg_run.specs.declared.RunPos.{RunPos}
use Rattle.hg_run.specs.Format.{IsClean, IsRunPage, spelling}
use Rattle.hg_run.specs.Layout.{layout, pages_for}

-- The pages of a run, in order. They are known over every space, also one that does not tell its bytes.
pub record IsChain (s : Space) (run : Run) (pages : List ℕ) : Type 0 where
  pub line : IsLine Temp s run.first pages
  pub last : run.last ≡ last_of pages

-- the page with this number holds these records
pub record Holds (b : ℕ → Option (List ℕ)) (x : ℕ) (rs : List (List ℕ)) : Type 0 where
  pub page : List ℕ
  pub told : b (key_in Temp x) ≡ Some page
  pub records : IsRunPage page rs
  pub clean : IsClean page

-- each page holds its records
abbrev pub AllHold : (ℕ → Option (List ℕ)) → List ℕ → List (List (List ℕ)) → Type 0
AllHold b [] [] = ⊤
AllHold b [] (rs ∷ held) = ⊥
AllHold b (x ∷ pages) [] = ⊥
AllHold b (x ∷ pages) (rs ∷ held) = Holds b x rs × AllHold b pages held

-- A run of these records on these pages.
pub record IsRun (s : Space) (run : Run) (rs : List (List ℕ)) (pages : List ℕ) : Type 0 where
  pub told : s.told ≡ true
  pub chain : IsChain s run pages
  pub count : run.records ≡ length rs
  pub page_count : length pages ≡ pages_for (map length rs)
  pub held : AllHold s.bytes pages (layout rs)

-- all records of some pages
abbrev pub records_of : List (List (List ℕ)) → List (List ℕ)
records_of [] = []
records_of (rs ∷ held) = rs ++ records_of held

-- A place on a page of a run whose pages hold these records: `done` are the records before it, and
-- `rest` those behind it.
pub record IsPlace (pages : List ℕ) (held : List (List (List ℕ))) (x offset : ℕ) (done rest : List (List ℕ)) : Type 0 where
  pub pages_before : List ℕ
  pub pages_after : List ℕ
  pub held_before : List (List (List ℕ))
  pub here : List (List ℕ)
  pub todo : List (List ℕ)
  pub held_after : List (List (List ℕ))
  pub pages_are : pages ≡ pages_before ++ x ∷ pages_after
  pub held_is : held ≡ held_before ++ (here ++ todo) ∷ held_after
  pub as_many : length pages_before ≡ length held_before
  pub offset_is : offset ≡ 16 + length (spelling here)
  pub done_is : done ≡ records_of held_before ++ here
  pub rest_is : rest ≡ todo ++ records_of held_after

-- A position of a run of these records: `done` are those before it, and `rest` those behind it.
abbrev pub IsAtPage : List ℕ → List (List ℕ) → Option ℕ → ℕ → List (List ℕ) → List (List ℕ) → Type 0
IsAtPage pages rs None offset done rest = (offset ≡ 0) × (done ≡ []) × (rest ≡ rs)
IsAtPage pages rs (Some x) offset done rest = IsPlace pages (layout rs) x offset done rest

abbrev pub IsAt : List ℕ → List (List ℕ) → RunPos → List (List ℕ) → List (List ℕ) → Type 0
IsAt pages rs at done rest = IsAtPage pages rs at.page at.offset done rest

-- Such a place is at the next record: where its page has none behind it, no page has one.
pub record IsAtNext (pages : List ℕ) (held : List (List (List ℕ))) (x offset : ℕ) (done rest : List (List ℕ)) : Type 0 where
  pub place : IsPlace pages held x offset done rest
  pub here : place.todo ≡ [] → rest ≡ []

-- a position that names its page, and is at the next record
abbrev pub StandsAtNext : List ℕ → List (List ℕ) → Option ℕ → ℕ → List (List ℕ) → List (List ℕ) → Type 0
StandsAtNext pages rs None offset done rest = ⊥
StandsAtNext pages rs (Some x) offset done rest = IsAtNext pages (layout rs) x offset done rest

-- the page that is named, if one is, is one of these
abbrev pub StandsOn : List ℕ → Option ℕ → Type 0
StandsOn pages None = ⊤
StandsOn pages (Some x) = IsTrue (has_page pages x)

-- a run with no record
abbrev pub no_run : Run
no_run = record { first = None; last = None; records = 0 }

-- before the first record
abbrev pub first_position : RunPos
first_position = record { page = None; offset = 0 }
