-- A heap that is unlocked: its pages, and the objects that stand in them. Our own rule.
--
--   first -> 7 -> 3 -> 12        a heap of the temporary pages 7, 3 and 12: each is the successor of the
--                                one before
use Rattle.std.specs.Prelude.{◌≡◌, ℕ, ◌<◌, zero, suc, true, false, List, [], ◌∷◌, Option, Some, ⊤}
use Rattle.std.specs.List.{AllByRecursion}
use Rattle.hg_base.specs.Content.{Objects}
use Rattle.hg_base.specs.HeapFacts.{AreWellPlaced}
use Rattle.hg_base.specs.HeapPage.{Stands}
use Rattle.hg_base.specs.Lines.{AreApart}
use Rattle.hg_base.specs.Space.{Space, key_in}
use Rattle.hg_base.specs.declared.File.TheVariants.{Temp}
use Rattle.hg_base.specs.declared.PageId.{PageId}
use Rattle.hg_reloc.specs.Moves.{or_itself}
use Rattle.hg_heap.specs.declared.heap.Heap.{Heap}

-- a page of the temporary file, and its key
abbrev pub temp_page : ℕ → PageId
temp_page n = record { file = Temp; no = n }

abbrev pub temp_key : ℕ → ℕ
temp_key n = key_in Temp n

-- the page behind one, and the page itself where it has no successor
abbrev pub page_behind : (ℕ → Option ℕ) → ℕ → ℕ
page_behind next n = or_itself n (next (temp_key n))

-- so many pages from one on
abbrev pub pages_from : (ℕ → Option ℕ) → ℕ → ℕ → List ℕ
pages_from next n zero = []
pages_from next n (suc count) = n ∷ pages_from next (page_behind next n) count

-- the page that so many steps lead to
abbrev pub walk : (ℕ → Option ℕ) → ℕ → ℕ → ℕ
walk next n zero = n
walk next n (suc count) = walk next (page_behind next n) count

-- the pages of a heap
abbrev pub pages_of : (ℕ → Option ℕ) → Heap → List ℕ
pages_of next h = pages_from next h.first h.count

-- a page of the temporary file that is taken, that no pin holds and that was not handed out
pub record IsAtRest (s : Space) (n : ℕ) : Type 0 where
  pub taken : s.taken (temp_key n) ≡ true
  pub free : s.pinned (temp_key n) ≡ false
  pub home : s.of_heap (temp_key n) ≡ false

-- The pages of a heap that is unlocked: there are some, none of them twice.
pub record Rests (s : Space) (pages : List ℕ) : Type 0 where
  pub apart : AreApart pages
  pub each : AllByRecursion (IsAtRest s) pages

-- what these pages hold, where the space tells it
abbrev pub AreTold : Space → List ℕ → List (List ℕ) → Type 0
AreTold s [] [] = ⊤
AreTold s (n ∷ ns) (b ∷ bs) = (s.bytes (temp_key n) ≡ Some b) × AreTold s ns bs
AreTold s ns bs = ⊥

-- The objects of a heap that is unlocked: they stand in its pages, under the frames that are written in
-- these, which are below max.
pub record Keeps (s : Space) (max : ℕ) (pages : List ℕ) (o : Objects) : Type 0 where
  pub frames : List ℕ
  pub bytes : List (List ℕ)
  pub told : AreTold s pages bytes
  pub stands : Stands o frames bytes
  pub below : AllByRecursion (λ f. f < max) frames
  pub well : AreWellPlaced o
