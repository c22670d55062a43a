-- How pages that belong together are linked: each is the successor of the one before. Tables, runs,
-- trees and heaps are such lines of pages. Our own rule.
--
--   from -> 7 -> 3 -> 12        the line of the pages 7, 3, 12
--
-- Successors are known over every space, also over one that does not tell its bytes.
use Rattle.std.specs.Prelude.{◌≡◌, ◌≢◌, ℕ, ◌==◌, List, [], ◌∷◌, Bool, false, Option, Some, None, ⊤, if◌then◌else◌}
use Rattle.std.specs.List.{AllByRecursion, list_any}
use Rattle.hg_base.specs.Space.{Space, key_in}
use Rattle.hg_base.specs.Steadiness.{Mine}
use Rattle.hg_base.specs.TakenLaws.{AreDistinctPages}
use Rattle.hg_base.specs.declared.File.{File}

-- the last number of a list
abbrev pub last_of : List ℕ → Option ℕ
last_of [] = None
last_of (x ∷ []) = Some x
last_of (x ∷ y ∷ xs) = last_of (y ∷ xs)

-- a page is among these
abbrev pub has_page : List ℕ → ℕ → Bool
has_page pages x = list_any (λ y. y == x) pages

-- the pages behind one of them, none where it is not among them
abbrev pub pages_behind : List ℕ → ℕ → List ℕ
pages_behind [] x = []
pages_behind (y ∷ pages) x = if y == x then pages else pages_behind pages x

-- pages no two of which are one
abbrev pub AreApart : List ℕ → Type 0
AreApart [] = ⊤
AreApart (x ∷ xs) = AllByRecursion (λ y. y ≢ x) xs × AreApart xs

-- the page named is the first one, each one's successor is the next, and the last one has none
abbrev pub IsPath : File → (ℕ → Option ℕ) → Option ℕ → List ℕ → Type 0
IsPath file next from [] = from ≡ None
IsPath file next from (x ∷ xs) = (from ≡ Some x) × IsPath file next (next (key_in file x)) xs

-- A line of a file's pages from the one named on: taken pages of no heap, none of them twice.
pub record IsLine (file : File) (s : Space) (from : Option ℕ) (pages : List ℕ) : Type 0 where
  pub taken : AreDistinctPages s.taken file (s.limit file) pages
  pub no_heap : AllByRecursion (λ x. s.of_heap (key_in file x) ≡ false) pages
  pub path : IsPath file s.next from pages

-- none of these pages is mine
abbrev pub NoneMine : File → Mine → List ℕ → Type 0
NoneMine file mine pages = AllByRecursion (λ x. mine.pages (key_in file x) → ⊥) pages
