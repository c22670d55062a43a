-- What a change of one slot is of the space that the slots show.
use Rattle.std.specs.Prelude.{◌≡◌, ℕ, ◌<◌, ◌==◌, ◌&&◌, Bool, true, false, List, length, Option, None, Some, if◌then◌else◌, slice_set}
use Rattle.std.proofs.Common.{sym, ◌∙◌, ap, refl, arith}
use Rattle.std.proofs.lemmas.Bool.Decides.{nat_tests}
use Rattle.std.proofs.lemmas.Bool.{false≢true}
use Rattle.hg_base.specs.Content.{Heaps}
use Rattle.std.proofs.lemmas.Grind.{common_steps}
use Rattle.std.specs.Vec.{with_item}
use Rattle.hg_base.specs.Space.{Space, Counts, at, with_bytes}
use Rattle.hg_base.specs.Changes.{at-same, after-at, items-set}
use Rattle.hg_base.specs.Lending.{refit}
use Rattle.hg_base.specs.PlainEntryLaws.{refit-whole}
use Rattle.hg_base.specs.Plain.{shown, slot_at, empty_slot, is_key, plain_slot, if_owned, is_taken, is_plain, is_owned, held_by, is_pinned, successor_of, shown_heaps, heap_at}
use Rattle.hg_base.specs.PlainSpaces.{state_of, counts_of}
use Rattle.hg_base.specs.declared.plain_parts.Slot.{Slot}
use Rattle.hg_base.specs.declared.plain_parts.PlainParts.{PlainParts}

-- s with the slot x at p
abbrev pub put : Space → ℕ → Slot → Space
put s p x = record s {
  taken = at s.taken p (is_taken p x);
  bytes = at s.bytes p (held_by p x);
  pinned = at s.pinned p (is_pinned p x);
  next = at s.next p (successor_of p x);
  of_heap = at s.of_heap p (is_owned p x);
}

-- two spaces that are shown by slots and agree in each part are one
pub shown-at : (f : ℕ → Slot) (p : ℕ) (x : Slot) (pins : ℕ) (n : Counts) (hs : Heaps) → shown (at f p x) pins n hs ≡ put (shown f pins n hs) p x
shown-at f p x pins n hs = λ i. record (shown f pins n hs) {
  taken = after-at is_taken f p x i;
  bytes = after-at held_by f p x i;
  pinned = after-at is_pinned f p x i;
  next = after-at successor_of f p x i;
  of_heap = after-at is_owned f p x i;
}

-- the space after a change of one slot, each part of it said in another way
pub shown_as : (f : ℕ → Slot) (p : ℕ) (x : Slot) (pins : ℕ) (n : Counts) (hs : Heaps)
    (taken : ℕ → Bool) (bytes : ℕ → Option (List ℕ)) (pinned : ℕ → Bool) (next : ℕ → Option ℕ) (of_heap : ℕ → Bool)
    → at (λ q. is_taken q (f q)) p (is_taken p x) ≡ taken
    → at (λ q. held_by q (f q)) p (held_by p x) ≡ bytes
    → at (λ q. is_pinned q (f q)) p (is_pinned p x) ≡ pinned
    → at (λ q. successor_of q (f q)) p (successor_of p x) ≡ next
    → at (λ q. is_owned q (f q)) p (is_owned p x) ≡ of_heap
    → shown (at f p x) pins n hs ≡ record (shown f pins n hs) { taken = taken; bytes = bytes; pinned = pinned; next = next; of_heap = of_heap }
shown_as f p x pins n hs taken bytes pinned next of_heap t b d s o = shown-at f p x pins n hs ∙ (λ i. record (shown f pins n hs) {
  taken = t i;
  bytes = b i;
  pinned = d i;
  next = s i;
  of_heap = o i;
})

pub and-false : (t : Bool) → (t && false) ≡ false
and-false true = refl
and-false false = refl

pub and-true : (s t : Bool) → (s && t) ≡ true → s ≡ true
and-true true t e = refl
and-true false t e = e

pub if_owned-plain : (o : Option ℕ) (t : Bool) → if_owned o false t ≡ true → o ≡ None
if_owned-plain None t h = refl
if_owned-plain (Some h) t e = absurd (false≢true e)

pub and-right : (s t : Bool) → (s && t) ≡ true → t ≡ true
and-right true t e = e
and-right false t e = absurd (false≢true e)

-- a page of no heap is of none, and it is taken
pub plain-free : (p : ℕ) (x : Slot) → is_plain p x ≡ true → x.heap ≡ None
plain-free p x h = if_owned-plain x.heap (length x.page == 4096) (and-right (is_key p) (plain_slot x) h)

pub plain-taken : (p : ℕ) (x : Slot) → is_plain p x ≡ true → is_taken p x ≡ true
plain-taken p x h = ap (λ o. is_key p && if_owned o true (length x.page == 4096)) (plain-free p x h)
    ∙ sym (ap (λ o. is_key p && if_owned o false (length x.page == 4096)) (plain-free p x h)) ∙ h

-- other bytes of a page of no heap, as many as before
pub shown-bytes : (f : ℕ → Slot) (p : ℕ) (w : List ℕ) (pins : ℕ) (n : Counts) (hs : Heaps) → is_plain p (f p) ≡ true → length w ≡ length (f p).page
    → shown (at f p (record (f p) { page = w })) pins n hs ≡ with_bytes (shown f pins n hs) p w
shown-bytes f p w pins n hs h e =
    let x : Slot = record (f p) { page = w } in
    let plain : is_plain p x ≡ is_plain p (f p) = ap (λ k. is_key p && if_owned (f p).heap false (k == 4096)) e in
    let taken : is_taken p x ≡ is_taken p (f p) = ap (λ k. is_key p && if_owned (f p).heap true (k == 4096)) e in
    shown_as f p x pins n hs
    (λ q. is_taken q (f q))
    (at (λ q. held_by q (f q)) p (Some w))
    (λ q. is_pinned q (f q))
    (λ q. successor_of q (f q))
    (λ q. is_owned q (f q))
    (at-same (λ q. is_taken q (f q)) p (is_taken p x) (sym taken))
    (ap (λ t. at (λ q. held_by q (f q)) p (if t then Some w else None)) (plain ∙ h))
    (at-same (λ q. is_pinned q (f q)) p (is_pinned p x) (ap (λ t. t && (f p).pinned) (sym plain)))
    (at-same (λ q. successor_of q (f q)) p (successor_of p x) (ap (λ t. if t then (f p).next else None) (sym plain)))
    (at-same (λ q. is_owned q (f q)) p (is_owned p x) refl)

-- the slots with one of them changed, as a function of the key
pub slots-set : (slots : List Slot) (p : ℕ) (x : Slot) → p < length slots → slot_at (slice_set slots p x) ≡ at (slot_at slots) p x
slots-set slots p x h = items-set slots p x empty_slot h

-- what a loan of a page's bytes leaves, once the last bytes are known
abbrev pub after_write_of : PlainParts → ℕ → List ℕ → PlainParts
after_write_of s p w = record s { slots = with_item s.slots p (record (slot_at s.slots.items p) { page = refit (slot_at s.slots.items p).page w }) }

-- a slot that is taken is in the list
pub slot-in : (slots : List Slot) (p : ℕ) → is_taken p (slot_at slots p) ≡ true → p < length slots
slot-in slots p h = grind (arith, nat_tests, common_steps)

held_page : (p : ℕ) (x : Slot) (b : List ℕ) → is_plain p x ≡ true → held_by p x ≡ Some b → x.page ≡ b
held_page p x b plain held =
    let e : ◌≡◌ {A = Option (List ℕ)} (Some x.page) (Some b) = sym (ap (λ t. if t then Some x.page else None) plain) ∙ held in cc

-- a loan of the bytes of a page that is pinned writes them, as many as before
pub writes_of : (s : PlainParts) (p : ℕ) (b w : List ℕ) → (state_of s).bytes p ≡ Some b → (state_of s).pinned p ≡ true → length w ≡ length b
    → state_of (after_write_of s p w) ≡ with_bytes (state_of s) p w
writes_of s p b w held out long =
    let f : ℕ → Slot = slot_at s.slots.items in
    let hs : Heaps = shown_heaps (heap_at s.heaps.items) s.caps s.peaks in
    let plain : is_plain p (f p) ≡ true = and-true (is_plain p (f p)) (f p).pinned out in
    let whole : (f p).page ≡ b = held_page p (f p) b plain held in
    let fits : refit (f p).page w ≡ w = refit-whole (f p).page w (long ∙ ap length (sym whole)) in
    ap (λ g. shown g s.pins (counts_of s) hs) (slots-set s.slots.items p (record (f p) { page = refit (f p).page w }) (slot-in s.slots.items p (plain-taken p (f p) plain)))
    ∙ ap (λ r. shown (at f p (record (f p) { page = r })) s.pins (counts_of s) hs) fits
    ∙ shown-bytes f p w s.pins (counts_of s) hs plain (long ∙ ap length (sym whole))
