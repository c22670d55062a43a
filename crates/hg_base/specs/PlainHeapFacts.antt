-- What holds of the heaps of every plain space.
use Rattle.std.specs.Prelude.{◌≡◌, ℕ, ◌<◌, ◌≤◌, true, List, [], ◌∷◌, ◌++◌, length, map, Option, None, Some}
use Rattle.std.specs.List.{AllByRecursion}
use Rattle.hg_base.specs.Content.{Object, Objects, payloads_of}
use Rattle.hg_base.specs.HeapStates.{HoldsPayloads}
use Rattle.hg_base.specs.HeapFacts.{AreWellPlaced, IsPayload}
use Rattle.hg_base.specs.Lines.{AreApart, has_page}
use Rattle.hg_base.specs.Space.{key_in}
use Rattle.hg_base.specs.declared.File.TheVariants.{Temp}
use Rattle.hg_base.specs.PlainObjects.{objects_in}
use Rattle.hg_base.specs.declared.plain_heap.PlainHeap.{PlainHeap}
use Rattle.hg_base.specs.declared.plain_heap.PlainStanding.{PlainStanding}
use Rattle.hg_base.specs.declared.plain_heap.PlainStanding.TheVariants.{Locked, Unlocked, Draining}

-- a page of the temporary file that is of this heap
pub record IsOwned (own : ℕ → Option ℕ) (h q : ℕ) : Type 0 where
  pub number : ℕ
  pub in_temp : q ≡ key_in Temp number
  pub owner : own q ≡ Some h

abbrev pub Holds : PlainStanding → Objects → Type 0
Holds Locked o = AreWellPlaced o
Holds Unlocked o = AreWellPlaced o
Holds Draining o = AllByRecursion (AllByRecursion IsPayload) (map payloads_of o.layout)

pub record IsKeptHeap (own : ℕ → Option ℕ) (h : ℕ) (x : PlainHeap) : Type 0 where
  pub number : h < 512
  pub request : x.request < 16
  pub pages : AllByRecursion (IsOwned own h) x.pages.items
  pub apart : AreApart x.pages.items
  pub count : length x.objects.layout.items ≡ length x.pages.items
  pub few : length x.objects.layout.items ≤ 65528
  pub holds : Holds x.standing (objects_in x.objects)

pub record IsOwner (g : ℕ → Option PlainHeap) (q h : ℕ) : Type 0 where
  pub heap : PlainHeap
  pub is : g h ≡ Some heap
  pub among : has_page heap.pages.items q ≡ true

-- each heap owns its pages, and each page that is owned is one of its owner's
pub record AreKept (own : ℕ → Option ℕ) (g : ℕ → Option PlainHeap) : Type 0 where
  pub each : (h : ℕ) (x : PlainHeap) → g h ≡ Some x → IsKeptHeap own h x
  pub owners : (q h : ℕ) → own q ≡ Some h → IsOwner g q h

abbrev pub pages_of_heap : Option PlainHeap → List ℕ
pages_of_heap None = []
pages_of_heap (Some x) = x.pages.items

-- a heap is as it was
pub record IsSameHeap (x y : PlainHeap) : Type 0 where
  pub request : y.request ≡ x.request
  pub standing : y.standing ≡ x.standing
  pub pages : y.pages.items ≡ x.pages.items
  pub layout : y.objects.layout.items ≡ x.objects.layout.items
  pub first : y.objects.first ≡ x.objects.first
  pub roots : y.objects.roots ≡ x.objects.roots

-- a heap has one page more, with no object
pub record GotPage (x y : PlainHeap) (p : ℕ) : Type 0 where
  pub request : y.request ≡ x.request
  pub standing : y.standing ≡ x.standing
  pub pages : y.pages.items ≡ x.pages.items ++ p ∷ []
  pub layout : y.objects.layout.items ≡ x.objects.layout.items ++ [] ∷ []
  pub first : y.objects.first ≡ x.objects.first
  pub roots : y.objects.roots ≡ x.objects.roots

-- the first of these pages went, and `out` holds its payloads
pub record LetsGo (before after : List (List Object)) (out : List ℕ) : Type 0 where
  pub page : List Object
  pub pages : before ≡ page ∷ after
  pub holds : AllByRecursion IsPayload (payloads_of page) → HoldsPayloads (Some (payloads_of page)) out

-- its first page went, of this number, and `out` holds its payloads
pub record Drained (x y : PlainHeap) (p : ℕ) (out : List ℕ) : Type 0 where
  pub request : y.request ≡ x.request
  pub standing : y.standing ≡ Draining
  pub pages : x.pages.items ≡ p ∷ y.pages.items
  pub layout : LetsGo x.objects.layout.items y.objects.layout.items out
