-- What each change of a slot of a heap's page does to the space, and to whose page it is.
use Rattle.std.specs.Prelude.{◌≡◌, ℕ, ◌<◌, ◌&&◌, true, false, List, [], ◌∷◌, ◌++◌, length, Option, None, Some, if◌then◌else◌, slice_set}
use Rattle.std.proofs.Common.{sym, ◌∙◌, ap}
use Rattle.hg_base.specs.Content.{Heaps}
use Rattle.hg_base.specs.Space.{Counts, at}
use Rattle.hg_base.specs.HeapStates.{with_heap_page, without_heap_page}
use Rattle.hg_base.specs.Changes.{at-same, after-at, items-push}
use Rattle.hg_base.specs.PlainLaws.{shown_as, slots-set, and-false}
use Rattle.hg_base.specs.Plain.{shown, heap_at, slot_at, empty_slot, is_key, is_taken, is_plain, is_owned, held_by, is_pinned, successor_of, owner_of}
use Rattle.hg_base.specs.declared.plain_parts.Slot.{Slot}
use Rattle.hg_base.specs.declared.plain_heap.PlainHeap.{PlainHeap}
use Rattle.hg_base.proofs.PlainSteps.{free-plain}

-- a page that is not taken becomes one of a heap
pub shown-owned : (f : ℕ → Slot) (p h pins : ℕ) (page : List ℕ) (n : Counts) (hs : Heaps) → is_key p ≡ true → is_taken p (f p) ≡ false
    → shown (at f p (record { page = page; pinned = false; next = None; heap = Some h })) pins n hs ≡ with_heap_page (shown f pins n hs) p
shown-owned f p h pins page n hs key free =
    let x : Slot = record { page = page; pinned = false; next = None; heap = Some h } in
    let plain : is_plain p (f p) ≡ false = free-plain p (f p) free in
    let none : is_plain p x ≡ false = and-false (is_key p) in
    shown_as f p x pins n hs
    (at (λ q. is_taken q (f q)) p true)
    (λ q. held_by q (f q))
    (λ q. is_pinned q (f q))
    (λ q. successor_of q (f q))
    (at (λ q. is_owned q (f q)) p true)
    (ap (λ t. at (λ q. is_taken q (f q)) p (t && true)) key)
    (at-same (λ q. held_by q (f q)) p (held_by p x) (ap (λ t. if t then Some (f p).page else None) plain ∙ sym (ap (λ t. if t then Some page else None) none)))
    (at-same (λ q. is_pinned q (f q)) p (is_pinned p x) (ap (λ t. t && (f p).pinned) plain ∙ sym (ap (λ t. t && false) none)))
    (at-same (λ q. successor_of q (f q)) p (successor_of p x) (ap (λ t. if t then (f p).next else None) plain ∙ sym (ap (λ t. if t then None else None) none)))
    (ap (λ t. at (λ q. is_owned q (f q)) p (t && true)) key)

-- a page of a heap is one no more
pub shown-gone : (f : ℕ → Slot) (p pins : ℕ) (n : Counts) (hs : Heaps) → is_plain p (f p) ≡ false
    → shown (at f p empty_slot) pins n hs ≡ without_heap_page (shown f pins n hs) p
shown-gone f p pins n hs plain =
    let none : (is_key p && false) ≡ false = and-false (is_key p) in
    shown_as f p empty_slot pins n hs
    (at (λ q. is_taken q (f q)) p false)
    (λ q. held_by q (f q))
    (λ q. is_pinned q (f q))
    (at (λ q. successor_of q (f q)) p None)
    (at (λ q. is_owned q (f q)) p false)
    (ap (λ t. at (λ q. is_taken q (f q)) p t) none)
    (at-same (λ q. held_by q (f q)) p (held_by p empty_slot) (ap (λ t. if t then Some (f p).page else None) plain ∙ sym (ap (λ t. if t then Some [] else None) none)))
    (at-same (λ q. is_pinned q (f q)) p (is_pinned p empty_slot) (ap (λ t. t && (f p).pinned) plain ∙ sym (ap (λ t. t && false) none)))
    (ap (λ t. at (λ q. successor_of q (f q)) p (if t then None else None)) none)
    (ap (λ t. at (λ q. is_owned q (f q)) p t) none)

pub list-owned : (slots : List Slot) (p h pins : ℕ) (page : List ℕ) (n : Counts) (hs : Heaps) → p < length slots → is_key p ≡ true → is_taken p (slot_at slots p) ≡ false
    → shown (slot_at (slice_set slots p (record { page = page; pinned = false; next = None; heap = Some h }))) pins n hs ≡ with_heap_page (shown (slot_at slots) pins n hs) p
list-owned slots p h pins page n hs l key free =
    ap (λ f. shown f pins n hs) (slots-set slots p (record { page = page; pinned = false; next = None; heap = Some h }) l) ∙ shown-owned (slot_at slots) p h pins page n hs key free

pub list-gone : (slots : List Slot) (p pins : ℕ) (x : Slot) (n : Counts) (hs : Heaps) → p < length slots → x ≡ empty_slot → is_plain p (slot_at slots p) ≡ false
    → shown (slot_at (slice_set slots p x)) pins n hs ≡ without_heap_page (shown (slot_at slots) pins n hs) p
list-gone slots p pins x n hs l e plain =
    ap (λ y. shown (slot_at (slice_set slots p y)) pins n hs) e
    ∙ ap (λ f. shown f pins n hs) (slots-set slots p empty_slot l) ∙ shown-gone (slot_at slots) p pins n hs plain

-- whose page it is then
pub owners-put : (slots : List Slot) (p : ℕ) (x : Slot) → p < length slots
    → ◌≡◌ {A = ℕ → Option ℕ} (λ q. owner_of q (slot_at (slice_set slots p x) q)) (at (λ q. owner_of q (slot_at slots q)) p (owner_of p x))
owners-put slots p x l =
    ap (λ f. λ (q : ℕ). owner_of q (f q)) (slots-set slots p x l) ∙ after-at owner_of (slot_at slots) p x

pub owner-key : (p h : ℕ) → is_key p ≡ true → (if is_key p then Some h else None) ≡ Some h
owner-key p h e = ap (λ t. if t then Some h else None) e

-- a place more for heaps
pub heaps-pushed : (heaps now : List (Option PlainHeap)) → now ≡ heaps ++ None ∷ [] → heap_at now ≡ heap_at heaps
heaps-pushed heaps now e = ap heap_at e ∙ items-push heaps None
