-- What a plain space shows: a page is taken where its slot is of a heap, or holds a whole page of bytes,
-- so that no mark beside the bytes can disagree with them.
use Rattle.std.specs.Prelude.{ℕ, ◌%◌, ◌==◌, ◌&&◌, ◌||◌, nat_lt, Bool, true, false, List, [], length, map, Option, None, Some, option_map, if◌then◌else◌, slice_index_or}
use Rattle.hg_base.specs.Content.{Objects, payloads_of, Standing, locked, unlocked, draining, Heap, Heaps}
use Rattle.hg_base.specs.Space.{Space, Counts}
use Rattle.hg_base.specs.declared.File.{File}
use Rattle.hg_base.specs.declared.File.TheVariants.{Main, Temp}
use Rattle.hg_base.specs.PlainObjects.{objects_in, frames_in}
use Rattle.hg_base.specs.declared.plain_parts.Slot.{Slot}
use Rattle.hg_base.specs.declared.plain_heap.PlainHeap.{PlainHeap}
use Rattle.hg_base.specs.declared.plain_heap.PlainStanding.{PlainStanding}
use Rattle.hg_base.specs.declared.plain_heap.PlainStanding.TheVariants.{Locked, Unlocked, Draining}

-- a slot that no page ever used
abbrev pub empty_slot : Slot
empty_slot = record { page = []; pinned = false; next = None; heap = None }

abbrev pub slot_at : List Slot → ℕ → Slot
slot_at slots q = slice_index_or slots q empty_slot

abbrev pub page_limit : File → ℕ
page_limit Main = 65536
page_limit Temp = 1048576

-- the keys of pages below their file's limit: the main file has the even ones
abbrev pub is_key : ℕ → Bool
is_key q = nat_lt q 131072 || (q % 2 == 1 && nat_lt q 2097152)

-- where there is an owner, a page is one of a heap
abbrev pub if_owned : Option ℕ → Bool → Bool → Bool
if_owned None owned free = free
if_owned (Some heap) owned free = owned

abbrev pub taken_slot : Slot → Bool
taken_slot x = if_owned x.heap true (length x.page == 4096)

abbrev pub plain_slot : Slot → Bool
plain_slot x = if_owned x.heap false (length x.page == 4096)

abbrev pub is_taken : ℕ → Slot → Bool
is_taken q x = is_key q && taken_slot x

-- a page of no heap
abbrev pub is_plain : ℕ → Slot → Bool
is_plain q x = is_key q && plain_slot x

abbrev pub is_owned : ℕ → Slot → Bool
is_owned q x = is_key q && if_owned x.heap true false

abbrev pub held_by : ℕ → Slot → Option (List ℕ)
held_by q x = if is_plain q x then Some x.page else None

abbrev pub is_pinned : ℕ → Slot → Bool
is_pinned q x = is_plain q x && x.pinned

abbrev pub successor_of : ℕ → Slot → Option ℕ
successor_of q x = if is_plain q x then x.next else None

-- the heap that a page is of
abbrev pub owner_of : ℕ → Slot → Option ℕ
owner_of q x = if is_key q then x.heap else None

-- the space of these slots and heaps
abbrev pub shown : (ℕ → Slot) → ℕ → Counts → Heaps → Space
shown f pins n heaps = record {
  told = true;
  limit = page_limit;
  device_limit = page_limit;
  taken = λ q. is_taken q (f q);
  bytes = λ q. held_by q (f q);
  pinned = λ q. is_pinned q (f q);
  pins = pins;
  next = λ q. successor_of q (f q);
  of_heap = λ q. is_owned q (f q);
  heaps = heaps;
  counts = n;
}

-- where a heap is
abbrev pub standing_of : PlainStanding → Objects → List ℕ → Standing
standing_of Locked o frames = locked o frames
standing_of Unlocked o frames = unlocked (Some o)
standing_of Draining o frames = draining (Some (map payloads_of o.layout))

abbrev pub heap_of : PlainHeap → Heap
heap_of x = record { standing = standing_of x.standing (objects_in x.objects) (frames_in x.objects); request = x.request; pages = x.pages.items }

-- the heap of a number
abbrev pub heap_at : List (Option PlainHeap) → ℕ → Option PlainHeap
heap_at heaps h = slice_index_or heaps h None

-- heaps, caps and peaks
abbrev pub shown_heaps : (ℕ → Option PlainHeap) → List ℕ → List ℕ → Heaps
shown_heaps g caps peaks = record {
  heap = λ h. option_map heap_of (g h);
  current = 65536;
  most = 65536;
  cap = λ r. slice_index_or caps r 65536;
  peak = λ r. slice_index_or peaks r 0;
}

-- no heaps, and the numbers that stand for a store of heaps with as many frames as pages
abbrev pub no_heaps : Heaps
no_heaps = record { heap = λ _. None; current = 65536; most = 65536; cap = λ _. 65536; peak = λ _. 0 }

-- a space in which no page is taken
abbrev pub plain_start : Space
plain_start = record {
  told = true;
  limit = page_limit;
  device_limit = page_limit;
  taken = λ _. false;
  bytes = λ _. None;
  pinned = λ _. false;
  pins = 0;
  next = λ _. None;
  of_heap = λ _. false;
  heaps = no_heaps;
  counts = record { main_device = 0; temp_device = 0; main = 0; temp = 0; main_full = 0; temp_full = 0 };
}
