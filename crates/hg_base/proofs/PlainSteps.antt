-- What each call of a plain space does to the space that its slots show.
use Rattle.std.specs.Prelude.{◌≡◌, ℕ, zero, suc, replicate, option_map, ◌+◌, ◌-◌, ◌<◌, ◌≤◌, ◌==◌, ◌&&◌, nat_lt, Bool, true, false, List, [], ◌∷◌, ◌++◌, length, Option, None, Some, if◌then◌else◌, slice_set, slice_index_or}
use Rattle.std.proofs.Common.{sym, ◌∙◌, ap, subst, refl, arith}
use Rattle.std.proofs.Math.ListN.{get_or-eq_default}
use Rattle.std.proofs.Math.Nat.{le_trans}
use Rattle.std.proofs.lemmas.Bool.Decides.{nat_tests}
use Rattle.std.proofs.lemmas.Grind.{common_steps}
use Rattle.std.proofs.lemmas.Bool.{false≢true, eq-eqb, eqb-true}
use Rattle.hg_base.specs.Space.{Space, Counts, at, zero_page, length-zero_page, key_in, taken_below, with_pin, without_pin, with_new, without_page, with_next, IsPinned, IsUnused, NoPins}
use Rattle.hg_base.specs.Changes.{at-same, after-at, items-push}
use Rattle.hg_base.specs.TakenLaws.{taken_below-rest}
use Rattle.hg_base.specs.PlainLaws.{shown_as, and-false, and-right, slots-set, slot-in, plain-free, plain-taken}
use Rattle.hg_base.specs.Plain.{shown, shown_heaps, heap_of, heap_at, slot_at, empty_slot, is_key, is_taken, is_plain, is_owned, plain_slot, if_owned, held_by, is_pinned, successor_of, owner_of, page_limit, plain_start}
use Rattle.hg_base.specs.PlainHeapFacts.{AreKept}
use Rattle.hg_base.specs.PlainSpaces.{owners_of, IsWhole}
use Rattle.hg_base.specs.declared.plain_parts.PlainParts.{PlainParts}
use Rattle.hg_base.specs.declared.plain_heap.PlainHeap.{PlainHeap}
use Rattle.hg_base.specs.Content.{Heap, Heaps}
use Rattle.hg_base.specs.declared.File.{File}
use Rattle.hg_base.specs.declared.File.TheVariants.{Main, Temp}
use Rattle.hg_base.specs.declared.plain_parts.Slot.{Slot}

owned-taken : (o : Option ℕ) (t : Bool) → if_owned o true t ≡ false → (if_owned o true false ≡ false) × (if_owned o false t ≡ false)
owned-taken None t h = (refl, h)
owned-taken (Some h) t e = absurd (false≢true (sym e))

free-both : (k : Bool) (o : Option ℕ) (t : Bool) → (k && if_owned o true t) ≡ false → ((k && if_owned o true false) ≡ false) × ((k && if_owned o false t) ≡ false)
free-both true o t h = owned-taken o t h
free-both false o t h = (refl, refl)

-- a page that is not taken is of no heap
pub free-owned : (p : ℕ) (x : Slot) → is_taken p x ≡ false → is_owned p x ≡ false
free-owned p x h = (free-both (is_key p) x.heap (length x.page == 4096) h).0

pub free-plain : (p : ℕ) (x : Slot) → is_taken p x ≡ false → is_plain p x ≡ false
free-plain p x h = (free-both (is_key p) x.heap (length x.page == 4096) h).1

both-plain : (k : Bool) (o : Option ℕ) (t : Bool) → (k && if_owned o true t) ≡ true → (k && if_owned o true false) ≡ false → (k && if_owned o false t) ≡ true
both-plain true None t h e = h
both-plain true (Some x) t h e = absurd (false≢true (sym e))
both-plain false o t h e = h

-- a page that is taken and of no heap
pub plain-of : (p : ℕ) (x : Slot) → is_taken p x ≡ true → is_owned p x ≡ false → is_plain p x ≡ true
plain-of p x h e = both-plain (is_key p) x.heap (length x.page == 4096) h e

owned-whole : (o : Option ℕ) (t : Bool) → if_owned o false t ≡ true → t ≡ true
owned-whole None t h = h
owned-whole (Some x) t h = absurd (false≢true h)

-- it has a whole page of bytes
pub whole-page : (p : ℕ) (x : Slot) → is_plain p x ≡ true → length x.page ≡ 4096
whole-page p x h = eqb-true (length x.page) 4096 (owned-whole x.heap (length x.page == 4096) (and-right (is_key p) (plain_slot x) h))

-- a pin of a page that is taken
pub shown-pin : (f : ℕ → Slot) (p pins : ℕ) (n : Counts) (hs : Heaps) → is_plain p (f p) ≡ true
    → shown (at f p (record (f p) { pinned = true })) (pins + 1) n hs ≡ with_pin (shown f pins n hs) p (f p).page
shown-pin f p pins n hs h = shown_as f p (record (f p) { pinned = true }) (pins + 1) n hs
    (λ q. is_taken q (f q))
    (at (λ q. held_by q (f q)) p (Some (f p).page))
    (at (λ q. is_pinned q (f q)) p true)
    (λ q. successor_of q (f q))
    (λ q. is_owned q (f q))
    (at-same (λ q. is_taken q (f q)) p (is_taken p (f p)) refl)
    (ap (λ t. at (λ q. held_by q (f q)) p (if t then Some (f p).page else None)) h)
    (ap (λ t. at (λ q. is_pinned q (f q)) p (t && true)) h)
    (at-same (λ q. successor_of q (f q)) p (successor_of p (f p)) refl)
    (at-same (λ q. is_owned q (f q)) p (is_owned p (f p)) refl)

-- a pin that is given back
pub shown-unpin : (f : ℕ → Slot) (p pins : ℕ) (n : Counts) (hs : Heaps)
    → shown (at f p (record (f p) { pinned = false })) (pins - 1) n hs ≡ without_pin (shown f pins n hs) p
shown-unpin f p pins n hs = shown_as f p (record (f p) { pinned = false }) (pins - 1) n hs
    (λ q. is_taken q (f q))
    (at (λ q. held_by q (f q)) p (held_by p (f p)))
    (at (λ q. is_pinned q (f q)) p false)
    (λ q. successor_of q (f q))
    (λ q. is_owned q (f q))
    (at-same (λ q. is_taken q (f q)) p (is_taken p (f p)) refl)
    refl
    (ap (λ t. at (λ q. is_pinned q (f q)) p t) (and-false (is_plain p (f p))))
    (at-same (λ q. successor_of q (f q)) p (successor_of p (f p)) refl)
    (at-same (λ q. is_owned q (f q)) p (is_owned p (f p)) refl)

-- a page of zeros is a whole page
zero_plain : (p : ℕ) → is_key p ≡ true → (is_key p && length zero_page == 4096) ≡ true
zero_plain p h = ap (λ t. t && length zero_page == 4096) h ∙ eq-eqb (length zero_page) 4096 length-zero_page

-- a page that is taken, with zeros, where none was
pub shown-new : (f : ℕ → Slot) (p pins : ℕ) (n : Counts) (hs : Heaps) → is_key p ≡ true → is_taken p (f p) ≡ false
    → shown (at f p (record { page = zero_page; pinned = true; next = None; heap = None })) (pins + 1) n hs ≡ with_new (shown f pins n hs) p
shown-new f p pins n hs h free =
    let x : Slot = record { page = zero_page; pinned = true; next = None; heap = None } in
    let taken : is_taken p x ≡ true = zero_plain p h in
    shown_as f p x (pins + 1) n hs
    (at (λ q. is_taken q (f q)) p true)
    (at (λ q. held_by q (f q)) p (Some zero_page))
    (at (λ q. is_pinned q (f q)) p true)
    (at (λ q. successor_of q (f q)) p None)
    (λ q. is_owned q (f q))
    (ap (λ t. at (λ q. is_taken q (f q)) p t) taken)
    (ap (λ t. at (λ q. held_by q (f q)) p (if t then Some zero_page else None)) taken)
    (ap (λ t. at (λ q. is_pinned q (f q)) p (t && true)) taken)
    (ap (λ t. at (λ q. successor_of q (f q)) p (if t then None else None)) taken)
    (at-same (λ q. is_owned q (f q)) p (is_owned p x) (free-owned p (f p) free ∙ sym (and-false (is_key p))))

-- a page of no heap that is given back
pub shown-release : (f : ℕ → Slot) (p pins : ℕ) (n : Counts) (hs : Heaps) → is_plain p (f p) ≡ true → is_pinned p (f p) ≡ false
    → shown (at f p empty_slot) pins n hs ≡ without_page (shown f pins n hs) p
shown-release f p pins n hs plain h =
    let gone : (is_key p && false) ≡ false = and-false (is_key p) in
    shown_as f p empty_slot pins n hs
    (at (λ q. is_taken q (f q)) p false)
    (at (λ q. held_by q (f q)) p None)
    (λ q. is_pinned q (f q))
    (at (λ q. successor_of q (f q)) p None)
    (λ q. is_owned q (f q))
    (ap (λ t. at (λ q. is_taken q (f q)) p t) gone)
    (ap (λ t. at (λ q. held_by q (f q)) p (if t then Some [] else None)) gone)
    (at-same (λ q. is_pinned q (f q)) p (is_pinned p empty_slot) (h ∙ sym (ap (λ t. t && false) gone)))
    (ap (λ t. at (λ q. successor_of q (f q)) p (if t then None else None)) gone)
    (at-same (λ q. is_owned q (f q)) p (is_owned p empty_slot) (ap (λ o. is_key p && if_owned o true false) (plain-free p (f p) plain)))

-- another successor of a page that is taken
pub shown-next : (f : ℕ → Slot) (p : ℕ) (to : Option ℕ) (pins : ℕ) (n : Counts) (hs : Heaps) → is_plain p (f p) ≡ true
    → shown (at f p (record (f p) { next = to })) pins n hs ≡ with_next (shown f pins n hs) p to
shown-next f p to pins n hs h = shown_as f p (record (f p) { next = to }) pins n hs
    (λ q. is_taken q (f q))
    (λ q. held_by q (f q))
    (λ q. is_pinned q (f q))
    (at (λ q. successor_of q (f q)) p to)
    (λ q. is_owned q (f q))
    (at-same (λ q. is_taken q (f q)) p (is_taken p (f p)) refl)
    (at-same (λ q. held_by q (f q)) p (held_by p (f p)) refl)
    (at-same (λ q. is_pinned q (f q)) p (is_pinned p (f p)) refl)
    (ap (λ t. at (λ q. successor_of q (f q)) p (if t then to else None)) h)
    (at-same (λ q. is_owned q (f q)) p (is_owned p (f p)) refl)

-- The same for one slot of a list, as the code has it: x is the slot that stands at the place i,
-- which is the key p.

get_or-default : (slots : List Slot) (i : ℕ) (x : Slot) → i < length slots → slice_index_or slots i x ≡ slice_index_or slots i empty_slot
get_or-default slots i x h = grind (arith, nat_tests, common_steps)

slot-here : (slots : List Slot) (i : ℕ) (x : Slot) → x ≡ slice_index_or slots i x → is_plain i (slot_at slots i) ≡ true → x ≡ slot_at slots i
slot-here slots i x v h = v ∙ get_or-default slots i x (slot-in slots i (plain-taken i (slot_at slots i) h))

abbrev pub with_slot : List Slot → ℕ → Slot → ℕ → Counts → Heaps → Space
with_slot slots i x pins n hs = shown (slot_at (slice_set slots i x)) pins n hs

pub list-pin : (slots : List Slot) (i p : ℕ) (x : Slot) (pins : ℕ) (n : Counts) (hs : Heaps) → i ≡ p → x ≡ slice_index_or slots i x → is_plain p (slot_at slots p) ≡ true
    → IsPinned (shown (slot_at slots) pins n hs) (with_slot slots i (record x { pinned = true }) (pins + 1) n hs) p
list-pin slots i p x pins n hs e v t =
    let P : ℕ → Type 0 = λ q. is_plain q (slot_at slots q) ≡ true → IsPinned (shown (slot_at slots) pins n hs) (with_slot slots i (record x { pinned = true }) (pins + 1) n hs) q in
    subst P e (λ h. record {
      held = (slot_at slots i).page;
      size = whole-page i (slot_at slots i) h;
      was = ap (λ t. if t then Some (slot_at slots i).page else None) h;
      counts = n;
      after =
          ap (λ y. with_slot slots i (record y { pinned = true }) (pins + 1) n hs) (slot-here slots i x v h)
          ∙ ap (λ g. shown g (pins + 1) n hs) (slots-set slots i (record (slot_at slots i) { pinned = true }) (slot-in slots i (plain-taken i (slot_at slots i) h)))
          ∙ shown-pin (slot_at slots) i pins n hs h;
    }) t

pub list-unpin : (slots : List Slot) (i p : ℕ) (x : Slot) (pins : ℕ) (n : Counts) (hs : Heaps) → i ≡ p → x ≡ slice_index_or slots i x → is_plain p (slot_at slots p) ≡ true
    → with_slot slots i (record x { pinned = false }) (pins - 1) n hs ≡ without_pin (shown (slot_at slots) pins n hs) p
list-unpin slots i p x pins n hs e v t =
    let P : ℕ → Type 0 = λ q. is_plain q (slot_at slots q) ≡ true → with_slot slots i (record x { pinned = false }) (pins - 1) n hs ≡ without_pin (shown (slot_at slots) pins n hs) q in
    subst P e (λ h.
    ap (λ y. with_slot slots i (record y { pinned = false }) (pins - 1) n hs) (slot-here slots i x v h)
    ∙ ap (λ g. shown g (pins - 1) n hs) (slots-set slots i (record (slot_at slots i) { pinned = false }) (slot-in slots i (plain-taken i (slot_at slots i) h)))
    ∙ shown-unpin (slot_at slots) i pins n hs) t

pub list-next : (slots : List Slot) (i p : ℕ) (x : Slot) (to : Option ℕ) (pins : ℕ) (n : Counts) (hs : Heaps) → i ≡ p → x ≡ slice_index_or slots i x → is_plain p (slot_at slots p) ≡ true
    → with_slot slots i (record x { next = to }) pins n hs ≡ with_next (shown (slot_at slots) pins n hs) p to
list-next slots i p x to pins n hs e v t =
    let P : ℕ → Type 0 = λ q. is_plain q (slot_at slots q) ≡ true → with_slot slots i (record x { next = to }) pins n hs ≡ with_next (shown (slot_at slots) pins n hs) q to in
    subst P e (λ h.
    ap (λ y. with_slot slots i (record y { next = to }) pins n hs) (slot-here slots i x v h)
    ∙ ap (λ g. shown g pins n hs) (slots-set slots i (record (slot_at slots i) { next = to }) (slot-in slots i (plain-taken i (slot_at slots i) h)))
    ∙ shown-next (slot_at slots) i to pins n hs h) t

pub list-release : (slots : List Slot) (i p : ℕ) (x : Slot) (pins : ℕ) (n : Counts) (hs : Heaps) → i ≡ p → x ≡ empty_slot → is_plain p (slot_at slots p) ≡ true → is_pinned p (slot_at slots p) ≡ false
    → with_slot slots i x pins n hs ≡ without_page (shown (slot_at slots) pins n hs) p
list-release slots i p x pins n hs e v t o =
    let P : ℕ → Type 0 = λ q. is_plain q (slot_at slots q) ≡ true → is_pinned q (slot_at slots q) ≡ false → with_slot slots i x pins n hs ≡ without_page (shown (slot_at slots) pins n hs) q in
    subst P e (λ h out.
    ap (λ y. with_slot slots i y pins n hs) v
    ∙ ap (λ g. shown g pins n hs) (slots-set slots i empty_slot (slot-in slots i (plain-taken i (slot_at slots i) h)))
    ∙ shown-release (slot_at slots) i pins n hs h out) t o

pub list-new : (slots : List Slot) (i pins : ℕ) (n : Counts) (hs : Heaps) (page : List ℕ) → page ≡ zero_page → i < length slots → is_key i ≡ true → is_taken i (slot_at slots i) ≡ false
    → with_slot slots i (record { page = page; pinned = true; next = None; heap = None }) (pins + 1) n hs ≡ with_new (shown (slot_at slots) pins n hs) i
list-new slots i pins n hs page z h k free =
    ap (λ b. with_slot slots i (record { page = b; pinned = true; next = None; heap = None }) (pins + 1) n hs) z
    ∙ ap (λ g. shown g (pins + 1) n hs) (slots-set slots i (record { page = zero_page; pinned = true; next = None; heap = None }) h)
    ∙ shown-new (slot_at slots) i pins n hs k free

-- the slot that a loan of a page's bytes goes through is the slot of that page
pub loan-here : (slots : List Slot) (i p : ℕ) (x : Slot) → i ≡ p → x ≡ slice_index_or slots i x → is_plain p (slot_at slots p) ≡ true → x ≡ slot_at slots p
loan-here slots i p x e v t =
    let P : ℕ → Type 0 = λ q. is_plain q (slot_at slots q) ≡ true → x ≡ slot_at slots q in
    subst P e (λ h. slot-here slots i x v h) t

pub list-push : (slots : List Slot) (pins : ℕ) (n : Counts) (hs : Heaps) → shown (slot_at (slots ++ empty_slot ∷ [])) pins n hs ≡ shown (slot_at slots) pins n hs
list-push slots pins n hs = ap (λ g. shown g pins n hs) (items-push slots empty_slot)

-- a page that is not taken is unused in every way
pub unused-slot : (f : ℕ → Slot) (p pins : ℕ) (n : Counts) (hs : Heaps) → is_taken p (f p) ≡ false → IsUnused (shown f pins n hs) p
unused-slot f p pins n hs h = let plain : is_plain p (f p) ≡ false = free-plain p (f p) h in record {
  not_taken = h;
  no_bytes = ap (λ t. if t then Some (f p).page else None) plain;
  not_pinned = ap (λ t. t && (f p).pinned) plain;
  no_next = ap (λ t. if t then (f p).next else None) plain;
  no_heap = free-owned p (f p) h;
}

-- the key of a page is one exactly below the limit of its file
pub is_key-key_in : (file : File) (n : ℕ) → is_key (key_in file n) ≡ nat_lt n (page_limit file)
is_key-key_in Main n = grind (arith, nat_tests)
is_key-key_in Temp n = grind (arith, nat_tests)

-- the bytes of a page of no heap
pub held-of : (p : ℕ) (x : Slot) (b : List ℕ) → is_plain p x ≡ true → b ≡ x.page → held_by p x ≡ Some b
held-of p x b t e = ap (λ t. if t then Some x.page else None) t ∙ ap Some (sym e)

-- no slot, no page: from a place behind the slots on
pub not_taken-behind : (slots : List Slot) (p : ℕ) → length slots ≤ p → is_taken p (slot_at slots p) ≡ false
not_taken-behind slots p h = rw (get_or-eq_default slots empty_slot h) (and-false (is_key p))

key_in-le : (file : File) (n m : ℕ) → n ≤ m → key_in file n ≤ key_in file m
key_in-le Main n m h = omega arith
key_in-le Temp n m h = omega arith

-- the count of a loop that stops behind the slots
pub count-rest : (slots : List Slot) (file : File) (n count limit pins : ℕ) (c : Counts) (hs : Heaps) → count ≡ taken_below (shown (slot_at slots) pins c hs).taken file n
    → n < limit → length slots ≤ key_in file n → count ≡ taken_below (shown (slot_at slots) pins c hs).taken file limit
count-rest slots file n count limit pins c hs e h behind =
    let none : (m : ℕ) → n ≤ m → is_taken (key_in file m) (slot_at slots (key_in file m)) ≡ false =
    λ m l. not_taken-behind slots (key_in file m) (le_trans behind (key_in-le file n m l)) in
    let sum : n + (limit - n) ≡ limit = omega arith in
    e ∙ sym (taken_below-rest (λ q. is_taken q (slot_at slots q)) file n (limit - n) none)
    ∙ ap (λ k. taken_below (λ q. is_taken q (slot_at slots q)) file k) sum

-- a slot that was pushed, as the code has it
pub list-pushed : (slots : List Slot) (x : Slot) (now : List Slot) (pins : ℕ) (n : Counts) (hs : Heaps) → x ≡ empty_slot → now ≡ slots ++ x ∷ []
    → shown (slot_at now) pins n hs ≡ shown (slot_at slots) pins n hs
list-pushed slots x now pins n hs e h =
    ap (λ l. shown (slot_at l) pins n hs) h ∙ ap (λ y. shown (slot_at (slots ++ y ∷ [])) pins n hs) e ∙ list-push slots pins n hs

empty_not_taken : (q : ℕ) → is_taken q empty_slot ≡ false
empty_not_taken q = and-false (is_key q)

-- with no slots no page is taken
no_heap-at : (h : ℕ) → ◌≡◌ {A = Option Heap} (option_map heap_of (heap_at [] h)) None
no_heap-at h = refl

same-everywhere : (n v : ℕ) (r : ℕ) → slice_index_or (replicate n v) r v ≡ v
same-everywhere zero v r = refl
same-everywhere (suc n) v zero = refl
same-everywhere (suc n) v (suc r) = same-everywhere n v r

pub shown-start : shown (λ _. empty_slot) 0 (record { main_device = 0; temp_device = 0; main = 0; temp = 0; main_full = 0; temp_full = 0 }) (shown_heaps (heap_at []) (replicate 16 65536) (replicate 16 0)) ≡ plain_start
shown-start = λ i. record plain_start {
  taken = λ q. empty_not_taken q i;
  bytes = λ q. if empty_not_taken q i then Some [] else None;
  pinned = λ q. (ap (λ t. t && false) (empty_not_taken q)) i;
  next = λ q. if empty_not_taken q i then None else None;
  of_heap = λ q. empty_not_taken q i;
  heaps = record {
    heap = λ h. None;
    current = 65536;
    most = 65536;
    cap = λ r. same-everywhere 16 65536 r i;
    peak = λ r. same-everywhere 16 0 r i;
  };
}

-- a list of no slots
pub list-start : (slots : List Slot) (heaps : List (Option PlainHeap)) (caps peaks : List ℕ) → slots ≡ [] → heaps ≡ [] → caps ≡ replicate 16 65536 → peaks ≡ replicate 16 0
    → shown (slot_at slots) 0 (record { main_device = 0; temp_device = 0; main = 0; temp = 0; main_full = 0; temp_full = 0 }) (shown_heaps (heap_at heaps) caps peaks) ≡ plain_start
list-start slots heaps caps peaks e h c p =
    let n : Counts = record { main_device = 0; temp_device = 0; main = 0; temp = 0; main_full = 0; temp_full = 0 } in
    ap (λ l. shown (slot_at l) 0 n (shown_heaps (heap_at heaps) caps peaks)) e
    ∙ ap (λ l. shown (λ _. empty_slot) 0 n (shown_heaps (heap_at l) caps peaks)) h
    ∙ ap (λ l. shown (λ _. empty_slot) 0 n (shown_heaps (heap_at []) l peaks)) c
    ∙ ap (λ l. shown (λ _. empty_slot) 0 n (shown_heaps (heap_at []) (replicate 16 65536) l)) p
    ∙ shown-start

pub start-no_pins : (s : Space) → s ≡ plain_start → NoPins s
start-no_pins s e =
    let P : Space → Type 0 = λ t. NoPins t in subst P (sym e) (record { none_out = refl; not_pinned = λ q. refl })

-- Of which heap each page is.
pub owners-set : (slots : List Slot) (i : ℕ) (x : Slot) → i < length slots → owner_of i x ≡ owner_of i (slot_at slots i)
    → ◌≡◌ {A = ℕ → Option ℕ} (λ q. owner_of q (slot_at (slice_set slots i x) q)) (λ q. owner_of q (slot_at slots q))
owners-set slots i x h e =
    ap (λ f. λ q. owner_of q (f q)) (slots-set slots i x h)
    ∙ after-at owner_of (slot_at slots) i x
    ∙ at-same (λ q. owner_of q (slot_at slots q)) i (owner_of i x) (sym e)

pub whole-same : (s t : PlainParts) → t.heaps.items ≡ s.heaps.items → owners_of t ≡ owners_of s → IsWhole s → IsWhole t
whole-same s t h o w = record {
  few = let e : length t.heaps.items ≡ length s.heaps.items = ap length h in let f = w.few in omega arith;
  kept = let P : (ℕ → Option ℕ) → List (Option PlainHeap) → Type 0 = λ own hs. AreKept own (heap_at hs) in
      subst (λ own. P own t.heaps.items) (sym o) (subst (λ hs. P (owners_of s) hs) (sym h) w.kept);
}

pub owners-pushed : (slots : List Slot) (x : Slot) (now : List Slot) → x ≡ empty_slot → now ≡ slots ++ x ∷ []
    → ◌≡◌ {A = ℕ → Option ℕ} (λ q. owner_of q (slot_at now q)) (λ q. owner_of q (slot_at slots q))
owners-pushed slots x now e h =
    ap (λ l. λ (q : ℕ). owner_of q (slot_at l q)) h
    ∙ ap (λ y. λ (q : ℕ). owner_of q (slot_at (slots ++ y ∷ []) q)) e
    ∙ ap (λ f. λ (q : ℕ). owner_of q (f q)) (items-push slots empty_slot)

pub owner-none : (k : Bool) (o : Option ℕ) → o ≡ None → (if k then o else None) ≡ None
owner-none true o h = h
owner-none false o h = refl

owner-free : (k : Bool) (o : Option ℕ) (t : Bool) → (k && if_owned o true t) ≡ false → (if k then o else None) ≡ None
owner-free true None t h = refl
owner-free true (Some x) t h = absurd (false≢true (sym h))
owner-free false o t h = refl

-- a page that is not taken has no owner
pub free-owner : (p : ℕ) (x : Slot) → is_taken p x ≡ false → owner_of p x ≡ None
free-owner p x h = owner-free (is_key p) x.heap (length x.page == 4096) h

-- A slot of a page of no heap that changes leaves the heaps whole.
pub whole-plain : (s t : PlainParts) (i p : ℕ) (x : Slot) → i ≡ p → is_plain p (slot_at s.slots.items p) ≡ true → x.heap ≡ None → t.slots.items ≡ slice_set s.slots.items i x → t.heaps.items ≡ s.heaps.items
    → IsWhole s → IsWhole t
whole-plain s t i p x e h free now hs w =
    let plain : is_plain i (slot_at s.slots.items i) ≡ true = subst (λ q. is_plain q (slot_at s.slots.items q) ≡ true) (sym e) h in
    whole-same s t hs
    (ap (λ l. λ (q : ℕ). owner_of q (slot_at l q)) now
    ∙ owners-set s.slots.items i x (slot-in s.slots.items i (plain-taken i (slot_at s.slots.items i) plain))
    (owner-none (is_key i) x.heap free ∙ sym (owner-none (is_key i) (slot_at s.slots.items i).heap (plain-free i (slot_at s.slots.items i) plain))))
    w

-- and so does one of a page that was not taken and is of no heap
pub whole-new : (s t : PlainParts) (i : ℕ) (x : Slot) → i < length s.slots.items → is_taken i (slot_at s.slots.items i) ≡ false → x.heap ≡ None → t.slots.items ≡ slice_set s.slots.items i x → t.heaps.items ≡ s.heaps.items
    → IsWhole s → IsWhole t
whole-new s t i x l h free now hs w =
    whole-same s t hs
    (ap (λ l. λ (q : ℕ). owner_of q (slot_at l q)) now
    ∙ owners-set s.slots.items i x l (owner-none (is_key i) x.heap free ∙ sym (free-owner i (slot_at s.slots.items i) h)))
    w

-- a slot that is read where a page of no heap stands is of no heap
pub here-free : (slots : List Slot) (i p : ℕ) (x : Slot) → i ≡ p → x ≡ slice_index_or slots i x → is_plain p (slot_at slots p) ≡ true → x.heap ≡ None
here-free slots i p x e v h =
    let plain : is_plain i (slot_at slots i) ≡ true = subst (λ q. is_plain q (slot_at slots q) ≡ true) (sym e) h in
    ap (λ y. y.heap) (slot-here slots i x v plain) ∙ plain-free i (slot_at slots i) plain
