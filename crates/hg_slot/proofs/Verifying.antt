-- What a reader of a page finds, and what it says of the page.
use Rattle.std.specs.Prelude.{◌≡◌, ℕ, ◌+◌, ◌≤◌, List, length, slice_index}
use Rattle.std.proofs.Common.{sym, ◌∙◌, arith, inl, inr}
use Rattle.std.proofs.lemmas.Bool.{cases_order, cases_eq}
use Rattle.hg_slot.specs.Slotted.{slots, offset, size, IsOf, IsPlaced, IsApart, AreRight, AreFrom, HasRightHead, IsSlotted}

pub apart_below : (page : List ℕ) (k below : ℕ) → AreFrom page k below → offset page k + size page k ≤ below → IsApart page k k
apart_below page k below f h = record { no_byte = λ j x l p q. absurd (omega (arith, f.from j x l p, q.to)) }

pub from_next : (page : List ℕ) (k below low : ℕ) → AreFrom page k below → low ≤ below → ((x : ℕ) → IsOf page k x → low ≤ x) → AreFrom page (k + 1) low
from_next page k below low f l n = record {
  from = λ j x h p. elim (cases_eq j k) [
    | inl e ↦ let o : IsOf page k x = rw e at p in n x o
    | inr d ↦ let b = f.from j x (omega arith) p in omega arith
  ];
}

pub from_empty : (page : List ℕ) (k below : ℕ) → AreFrom page k below → size page k ≡ 0 → AreFrom page (k + 1) below
from_empty page k below f z = from_next page k below below f (omega arith) (λ x o. absurd (omega (arith, o.from, o.to)))

pub from_lower : (page : List ℕ) (k below low : ℕ) → AreFrom page k below → low ≤ below → low ≤ offset page k → AreFrom page (k + 1) low
from_lower page k below low f l h = from_next page k below low f l (λ x o. omega (arith, o.from))

pub from_none : (page : List ℕ) (below : ℕ) → AreFrom page 0 below
from_none page below = record { from = λ k x h p. absurd (omega arith) }

pub next_right : (page : List ℕ) (n : ℕ) → AreRight page n → IsPlaced page n → IsApart page n n → AreRight page (n + 1)
next_right page n r p a = record {
  placed = λ k h. elim (cases_eq k n) [ inl e ↦ rw e p | inr d ↦ r.placed k (omega arith) ];
  apart = λ k h. elim (cases_eq k n) [ inl e ↦ rw e a | inr d ↦ r.apart k (omega arith) ];
}

pub none_right : (page : List ℕ) → AreRight page 0
none_right page = record { placed = λ k h. absurd (omega arith); apart = λ k h. absurd (omega arith) }

-- a slot right below those before it
pub falls : (page : List ℕ) (n from k below : ℕ) → from ≡ offset page n → k ≡ size page n → AreRight page n → AreFrom page n below → IsPlaced page n → from + k ≤ below
    → AreRight page (n + 1)
falls page n from k below e f r b p h = next_right page n r p (apart_below page n below b (omega arith))

pub falls_full : (page : List ℕ) (n from k below : ℕ) → from ≡ offset page n → AreFrom page n below → from + k ≤ below → AreFrom page (n + 1) from
falls_full page n from k below e b h = from_lower page n below from b (omega arith) (omega arith)

pub falls_empty : (page : List ℕ) (n k below : ℕ) → k ≡ size page n → k ≡ 0 → AreFrom page n below → AreFrom page (n + 1) below
falls_empty page n k below f z b = from_empty page n below b (sym f ∙ z)

pub slotted : (page : List ℕ) → length page ≡ 4096 → slice_index page 0 ≡ 83 → HasRightHead page → AreRight page (slots page) → IsSlotted page
slotted page w k h r = record {
  whole = w;
  kind = k;
  few = h.few;
  behind = h.behind;
  ends = h.ends;
  placed = r.placed;
  apart = λ i j x l m n p q. elim (cases_order i j) [
    | inl e ↦ absurd (n e)
    | inr (inl b) ↦ (r.apart j m).no_byte i x b p q
    | inr (inr b) ↦ (r.apart i l).no_byte j x b q p
  ];
}

pub right_head : (page : List ℕ) → IsSlotted page → HasRightHead page
right_head page s = record { few = s.few; behind = s.behind; ends = s.ends }

pub all_right : (page : List ℕ) → IsSlotted page → AreRight page (slots page)
all_right page s = record {
  placed = s.placed;
  apart = λ k h. record { no_byte = λ j x l p q. s.apart j k x (omega arith) h (λ e. absurd (omega arith)) p q };
}

pub ruleset verifying = (slotted, right_head, all_right)
