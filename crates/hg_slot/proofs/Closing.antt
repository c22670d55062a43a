-- Closing up: the records of a page are put into an empty one, slot by slot.
use Rattle.std.specs.Prelude.{◌≡◌, ℕ, ◌+◌, ◌-◌, ◌*◌, ◌<◌, ◌≤◌, max, List, None}
use Rattle.std.proofs.Common.{sym, ◌∙◌, ap, refl, arith, inl, inr}
use Rattle.std.proofs.lemmas.Bool.{cases_lt, cases_eq}
use Rattle.hg_slot.specs.Slotted.{slots, lowest, record_at, length_of, lengths, used, Fits, IsSlotted}
use Rattle.hg_slot.specs.Changing.{Starts, AddsSlot, Rebuilds, ClosesUp, MakesRoom, IsFirstEmpty}
use Rattle.hg_slot.proofs.Slots.{shown-out}
use Rattle.hg_slot.proofs.Finding.{lengths-next, lengths-none, lengths-up}

-- the slots up to this one have no more bytes than all
pub up_to : (page : List ℕ) (k : ℕ) → k < slots page → lengths page k + length_of (record_at page k) ≤ lengths page (slots page)
up_to page k h =
    let e : (slots page - (k + 1)) + (k + 1) ≡ slots page = omega arith in
    let u : lengths page (k + 1) ≤ lengths page (slots page) = rw e at (lengths-up page (k + 1) (slots page - (k + 1))) in
    omega (arith, lengths-next page k)

pub room_to_add : (a b : List ℕ) (k : ℕ) → k < slots a → used a ≤ 4096 → Rebuilds a b k → 20 + 4 * slots b ≤ lowest b
room_to_add a b k h u r = omega (arith, up_to a k h, r.count, r.low)

pub copied_none : (a b c : List ℕ) (k : ℕ) → Rebuilds a b k → AddsSlot b c → record_at a k ≡ None → Rebuilds a c (k + 1)
copied_none a b c k r t e = record {
  clean = t.clean r.clean;
  slotted = t.slotted;
  count = t.count ∙ ap (λ n. n + 1) r.count;
  same = λ j h. elim (cases_eq j k) [
    | inl i ↦ ap (record_at c) i ∙ t.all k ∙ shown-out b k (omega (arith, r.count)) ∙ sym e ∙ ap (record_at a) (sym i)
    | inr n ↦ t.all j ∙ r.same j (omega arith)
  ];
  low = let n : length_of (record_at a k) ≡ 0 = ap length_of e in
      omega (arith, lengths-next a k, t.low, r.low);
}

pub rebuild_begins : (a b : List ℕ) → Starts b → Rebuilds a b 0
rebuild_begins a b s = record {
  clean = s.clean;
  slotted = s.slotted;
  count = s.none;
  same = λ k h. absurd (omega arith);
  low = omega (arith, lengths-none a, s.low);
}

pub rebuilt : (a b : List ℕ) (n : ℕ) → n ≡ slots a → Rebuilds a b n → ClosesUp a b
rebuilt a b n e r = record {
  clean = r.clean;
  slotted = r.slotted;
  all = λ k. elim (cases_lt k n) [
    | inl h ↦ r.same k h
    | inr h ↦ shown-out b k (omega (arith, r.count)) ∙ sym (shown-out a k (omega arith))
  ];
  count = r.count ∙ e;
  low = rw (← e) r.low;
}

-- room that is there, and room that closing up makes
pub room_there : (a : List ℕ) (need : ℕ) → IsSlotted a → need ≤ lowest a → MakesRoom a a need
room_there a need s h = record { clean = λ z. z; slotted = s; all = λ k. refl; count = refl; room = h; same = λ l. refl }

pub room_made : (a b : List ℕ) (need : ℕ) → need + lengths a (slots a) ≤ 4096 → lowest a < need → ClosesUp a b → MakesRoom a b need
room_made a b need h low c = record { same = λ l. absurd (omega arith); clean = λ z. c.clean; slotted = c.slotted; all = c.all; count = c.count; room = omega (arith, c.low) }

-- the byte count that decides
pub fits_there : (a : List ℕ) (slot n : ℕ) → IsSlotted a → IsFirstEmpty a slot → max (slots a) (slot + 1) ≤ 128
    → 16 + 4 * max (slots a) (slot + 1) + lengths a (slots a) + n ≤ 4096 → Fits a n
fits_there a slot n s e few room =
    elim (cases_lt slot (slots a)) [
      | inl h ↦ inl (record { slot = slot; is_slot = h; empty = e.empty }, omega arith)
      | inr h ↦ inr (omega (arith, e.is_near), omega (arith, e.is_near))
    ]

pub fits_then : (a : List ℕ) (slot n : ℕ) → IsSlotted a → IsFirstEmpty a slot → Fits a n
    → (max (slots a) (slot + 1) ≤ 128) × (16 + 4 * max (slots a) (slot + 1) + lengths a (slots a) + n ≤ 4096)
fits_then a slot n s e (inl (p, room)) =
    elim (cases_lt p.slot slot) [
      | inl h ↦ absurd (e.first p.slot h p.empty)
      | inr h ↦ (omega (arith, p.is_slot, s.few), omega (arith, p.is_slot))
    ]
fits_then a slot n s e (inr (few, room)) = (omega (arith, e.is_near), omega (arith, e.is_near))

pub ruleset rebuilding = (room_to_add, copied_none, rebuild_begins)

pub ruleset making_room = (room_there, room_made)

pub ruleset fitting = (fits_there, fits_then)

pub fits_few : (a : List ℕ) (slot n : ℕ) → IsSlotted a → IsFirstEmpty a slot → Fits a n → max (slots a) (slot + 1) ≤ 128
fits_few a slot n s e f = (fits_then a slot n s e f).0

pub fits_room : (a : List ℕ) (slot n : ℕ) → IsSlotted a → IsFirstEmpty a slot → Fits a n → 16 + 4 * max (slots a) (slot + 1) + n + lengths a (slots a) ≤ 4096
fits_room a slot n s e f = omega (arith, (fits_then a slot n s e f).1)

-- on a page with no slots
pub none_fits : (page : List ℕ) (n : ℕ) → slots page ≡ 0 → n ≤ 4076 → Fits page n
none_fits page n e h =
    let l : lengths page (slots page) ≡ 0 = ap (lengths page) e ∙ lengths-none page in
    inr (omega arith, omega arith)
