-- What a slot shows, by what its entry says; the records' lengths together.
use Rattle.std.specs.Prelude.{◌≡◌, ◌≢◌, ℕ, ◌+◌, ◌-◌, ◌<◌, ◌≤◌, zero, suc, List, length, take, drop, None, Some}
use Rattle.std.proofs.Common.{sym, ◌∙◌, ap, refl, arith, inl, inr, length-take, length-drop}
use Rattle.std.proofs.lemmas.Bool.{cases_lt}
use Rattle.hg_slot.specs.Slotted.{slots, offset, size, body, record_at, length_of, lengths, IsSlotted, IsRecord, IsPlace}
use Rattle.hg_slot.proofs.Slots.{shows, shown-empty, shown-here, shown-out}

pub entry_full : (page : List ℕ) (k from : ℕ) → k < slots page → from ≡ offset page k → (from ≡ 0 → ⊥) → record_at page k ≢ None
entry_full page k from h e n d =
    let s : record_at page k ≡ Some (body page k) = shown-here page k h (omega arith) in cc

pub inside : (page : List ℕ) (k : ℕ) → IsSlotted page → k < slots page → offset page k + size page k ≤ 4096
inside page k s h = elim (s.placed k h) [ inl (z, y) ↦ omega arith | inr (f, t) ↦ t ]

pub is_record : (page : List ℕ) (k from n : ℕ) → IsSlotted page → k < slots page → from ≡ offset page k → n ≡ size page k → (from ≡ 0 → ⊥) → IsRecord page k from n
is_record page k from n s h e f d = record {
  is_slot = h;
  from_is = e;
  size_is = f;
  inside = omega (arith, inside page k s h);
  shown = rw (e, f) (shown-here page k h (omega arith));
}

-- a slot's record has as many bytes as its entry says
pub length-shown : (page : List ℕ) (k : ℕ) → IsSlotted page → k < slots page → length_of (record_at page k) ≡ size page k
length-shown page k s h =
    elim (s.placed k h) [
      | inl (z, y) ↦ ap length_of (shown-empty page k z) ∙ sym y
      | inr (f, t) ↦
          let b = s.behind in
          let w = s.whole in
          ap length_of (shown-here page k h (omega arith))
          ∙ (let d : length (drop (offset page k) page) ≡ length page - offset page k = length-drop (offset page k) page in
          length-take (size page k) (drop (offset page k) page) ∙ omega arith)
    ]

pub lengths-next : (page : List ℕ) (n : ℕ) → lengths page (n + 1) ≡ lengths page n + length_of (record_at page n)
unfolding lengths
lengths-next page n = let e : n + 1 ≡ suc n = omega arith in ap (lengths page) e

pub lengths-none : (page : List ℕ) → lengths page 0 ≡ 0
unfolding lengths
lengths-none page = refl

pub lengths_more : (page : List ℕ) (k t n : ℕ) → IsSlotted page → k < slots page → t ≡ lengths page k → n ≡ size page k → t + n ≡ lengths page (k + 1)
lengths_more page k t n s h e f = omega (arith, lengths-next page k, length-shown page k s h)

-- the first slots' records have no more bytes than those of all
pub lengths-up : (page : List ℕ) (m n : ℕ) → lengths page m ≤ lengths page (n + m)
unfolding lengths
lengths-up page m zero = let e : zero + m ≡ m = omega arith in rw e (omega arith)
lengths-up page m (suc n) =
    let e : suc n + m ≡ suc (n + m) = omega arith in
    rw e (omega (arith, lengths-up page m n))

pub ruleset found = (shown-out, shown-empty, entry_full, is_record, lengths_more, lengths-none)

pub is_slot_full : (page : List ℕ) (k : ℕ) → record_at page k ≢ None → k < slots page
is_slot_full page k n = elim (cases_lt k (slots page)) [ inl h ↦ h | inr h ↦ absurd (n (shown-out page k h)) ]

pub place_full : (page : List ℕ) (k from n : ℕ) → IsSlotted page → IsRecord page k from n → IsPlace page k from (from + n)
place_full page k from n s r =
    let b = s.behind in
    let f = r.from_is in
    let full : 0 < offset page k = (shows page k (take n (drop from page)) r.shown).full in
    let g : from + n - from ≡ n = omega arith in
    record {
      none = λ z. absurd (omega arith);
      order = omega arith;
      some = λ h. rw g r;
    }

pub place_none : (page : List ℕ) (k : ℕ) → record_at page k ≡ None → IsPlace page k 0 0
place_none page k e = record { none = λ z. e; order = omega arith; some = λ h. absurd (omega arith) }

pub ruleset placed = (place_full, place_none)
