-- Changes of the table of heaps of a plain space.
use Rattle.std.specs.Prelude.{◌≡◌, ℕ, ◌<◌, false, List, [], ◌∷◌, length, Option, Some, None, ⊤}
use Rattle.hg_base.specs.Content.{Standing, locked, unlocked, draining}
use Rattle.std.specs.Vec.{with_item}
use Rattle.hg_base.specs.Space.{Space, at}
use Rattle.hg_base.specs.HeapStates.{pages_held}
use Rattle.hg_base.specs.Plain.{heap_at, slot_at, is_plain}
use Rattle.hg_base.specs.declared.plain_parts.Slot.{Slot}
use Rattle.hg_base.specs.declared.plain_heap.PlainHeap.{PlainHeap}
use Rattle.hg_base.specs.declared.plain_parts.PlainParts.{PlainParts}

-- of all parts just the heap of this number changed, in this way
pub record PutsHeap (changed : PlainHeap → PlainHeap → Type 0) (s t : PlainParts) (h : ℕ) : Type 0 where
  pub before : PlainHeap
  pub heap : PlainHeap
  pub is : heap_at s.heaps.items h ≡ Some before
  pub inside : h < length s.heaps.items
  pub after : t ≡ record s { heaps = with_item s.heaps h (Some heap) }
  pub change : changed before heap

-- a request has another cap, and its peak is what its heaps have
abbrev pub with_cap : Space → ℕ → ℕ → Space
with_cap s request pages =
    record s { heaps = record s.heaps { cap = at s.heaps.cap request pages; peak = at s.heaps.peak request (pages_held s request) } }

-- a slot of no plain page
abbrev pub IsClearable : List Slot → ℕ → Type 0
IsClearable slots q = (q < length slots) × (is_plain q (slot_at slots q) ≡ false)

-- whose page each is once these pages are of no heap
abbrev pub cleared : (ℕ → Option ℕ) → List ℕ → ℕ → Option ℕ
cleared own [] = own
cleared own (p ∷ pages) = cleared (at own p None) pages

-- where no heap is that is locked
abbrev pub IsNotLocked : Option Standing → Type 0
IsNotLocked None = ⊤
IsNotLocked (Some (locked objects frames)) = ⊥
IsNotLocked (Some (unlocked objects)) = ⊤
IsNotLocked (Some (draining payloads)) = ⊤
