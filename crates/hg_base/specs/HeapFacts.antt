-- What holds of the heaps of every space that has them. Our own rule.
use Rattle.std.specs.Prelude.{◌≡◌, ℕ, ◌+◌, ◌<◌, ◌≤◌, true, List, [], ◌∷◌, length, Option, None, Some, ⊤}
use Rattle.std.specs.List.{AllByRecursion}
use Rattle.hg_base.specs.Content.{Object, row_object, directory, Objects, placed, page_end, Standing, locked, unlocked, draining, Heap}
use Rattle.hg_base.specs.Lines.{AreApart, has_page}
use Rattle.hg_base.specs.Space.{Space, key_in}
use Rattle.hg_base.specs.declared.File.TheVariants.{Temp}

-- a link leads to one of the first n objects, or to nothing
abbrev pub LeadsBelow : ℕ → Option ℕ → Type 0
LeadsBelow n None = ⊤
LeadsBelow n (Some m) = m < n

-- the n-th of so many objects: a row has 1 to 3,920 bytes and leads to an earlier object, a directory
-- leads to any
abbrev pub IsObject : ℕ → ℕ → Object → Type 0
IsObject n count (row_object payload link) = (0 < length payload) × (length payload ≤ 3920) × LeadsBelow n link
IsObject n count (directory links) = AllByRecursion (LeadsBelow count) links

abbrev pub AreObjects : ℕ → ℕ → List Object → Type 0
AreObjects n count [] = ⊤
AreObjects n count (o ∷ objects) = IsObject n count o × AreObjects (n + 1) count objects

-- objects that a heap may hold: each page's fit on it, and there are four roots
pub record AreWellPlaced (o : Objects) : Type 0 where
  pub objects : AreObjects 0 (length (placed o)) (placed o)
  pub pages : AllByRecursion (λ page. page_end page ≤ 4096) o.layout
  pub four : length o.roots ≡ 4
  pub roots : AllByRecursion (LeadsBelow (length (placed o))) o.roots

abbrev pub IsPayload : List ℕ → Type 0
IsPayload payload = (0 < length payload) × (length payload ≤ 3920)

-- what is told of a heap's objects, of so many pages
abbrev pub IsStanding : ℕ → Standing → Type 0
IsStanding pages (locked objects frames) =
    AreWellPlaced objects × (length objects.layout ≡ pages) × (length frames ≡ pages) × AreApart frames × AllByRecursion (λ f. f < 65536) frames
IsStanding pages (unlocked None) = ⊤
IsStanding pages (unlocked (Some objects)) = AreWellPlaced objects × (length objects.layout ≡ pages)
IsStanding pages (draining None) = ⊤
IsStanding pages (draining (Some payloads)) = (length payloads ≡ pages) × AllByRecursion (AllByRecursion IsPayload) payloads

-- a taken page of the temporary file that is of a heap
pub record IsHeapPageOf (s : Space) (q : ℕ) : Type 0 where
  pub number : ℕ
  pub in_temp : q ≡ key_in Temp number
  pub taken : s.taken q ≡ true
  pub of_heap : s.of_heap q ≡ true

pub record IsHeap (s : Space) (number : ℕ) (h : Heap) : Type 0 where
  pub few : number < 512
  pub request : h.request < 16
  pub pages : AllByRecursion (IsHeapPageOf s) h.pages
  pub apart : AreApart h.pages
  pub standing : IsStanding (length h.pages) h.standing

-- A page of a heap is of one heap, and of no second.
pub record IsOfOneHeap (s : Space) (q : ℕ) : Type 0 where
  pub number : ℕ
  pub heap : Heap
  pub is : s.heaps.heap number ≡ Some heap
  pub among : has_page heap.pages q ≡ true
  pub alone : (other : ℕ) (h : Heap) → s.heaps.heap other ≡ Some h → has_page h.pages q ≡ true → other ≡ number

-- The heaps of a space: each is one, and just the pages of heaps are said to be of a heap.
pub record AreHeaps (s : Space) : Type 0 where
  pub each : (number : ℕ) (h : Heap) → s.heaps.heap number ≡ Some h → IsHeap s number h
  pub pages : (q : ℕ) → s.of_heap q ≡ true → IsOfOneHeap s q
