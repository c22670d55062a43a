-- Marks of bytes, one for each byte of a page.
use Rattle.std.specs.Prelude.{◌≡◌, ℕ, ◌+◌, ◌<◌, ◌≤◌, ◌⊎◌, zero, suc, Bool, true, false, List, length, replicate, slice_index_or, slice_set}
use Rattle.std.proofs.Common.{sym, ◌∙◌, ap, refl, arith, inl, inr, get_or-set_same, get_or-set_other}
use Rattle.std.proofs.Math.ListN.{length-set}
use Rattle.std.proofs.lemmas.Bool.{cases_lt, cases_eq, false≢true}
use Rattle.std.proofs.lemmas.List.{length-replicate}
use Rattle.hg_slot.specs.Slotted.{slots, offset, size, IsOf, IsPlaced, IsApart, AreRight, AreMarked}
use Rattle.hg_slot.specs.Writing.{MarksOne, MarksAll}

none-marked : (n x : ℕ) → slice_index_or (replicate n false) x false ≡ false
none-marked zero x = refl
none-marked (suc n) zero = refl
none-marked (suc n) (suc x) = none-marked n x

pub marked_none : (page : List ℕ) → AreMarked page 0 (replicate 4096 false)
marked_none page = record {
  long = length-replicate {A = Bool} 4096 false;
  marked = λ k x h o. absurd (omega arith);
  unmarked = λ x e. absurd (false≢true (sym (none-marked 4096 x) ∙ e));
}

pub apart_marked : (page : List ℕ) (n from k : ℕ) (a b : List Bool) → from ≡ offset page n → k ≡ size page n → AreMarked page n a → MarksAll a b from k → IsApart page n n
apart_marked page n from k a b e f m w = record {
  no_byte = λ j x h p q.
      let l = q.from in let r = q.to in
      absurd (false≢true (sym (w.were_not x (omega arith) (omega arith)) ∙ m.marked j x h p));
}

pub marked_more : (page : List ℕ) (n from k : ℕ) (a b : List Bool) → from ≡ offset page n → k ≡ size page n → AreMarked page n a → MarksAll a b from k → AreMarked page (n + 1) b
marked_more page n from k a b e f m w = record {
  long = w.long ∙ m.long;
  marked = λ j x h o. elim (cases_lt x from) [
    | inr l ↦ elim (cases_lt x (from + k)) [
      | inl r ↦ w.here x l r
      | inr r ↦ w.beside x (inr r) ∙ earlier j x h o (inr r)
    ]
    | inl l ↦ w.beside x (inl l) ∙ earlier j x h o (inl l)
  ];
  unmarked = λ x t. elim (cases_lt x from) [
    | inr l ↦ elim (cases_lt x (from + k)) [
      | inl r ↦ (n, omega arith, record { from = omega arith; to = omega arith })
      | inr r ↦ before x (m.unmarked x (sym (w.beside x (inr r)) ∙ t))
    ]
    | inl l ↦ before x (m.unmarked x (sym (w.beside x (inl l)) ∙ t))
  ];
}
  where
    earlier : (j x : ℕ) → j < n + 1 → IsOf page j x → (x < from) ⊎ (from + k ≤ x) → slice_index_or a x false ≡ true
    earlier j x h o d = elim (cases_eq j n) [
      | inl i ↦
          let p : offset page j ≡ offset page n = ap (offset page) i in let q : size page j ≡ size page n = ap (size page) i in
          let l = o.from in let r = o.to in
          elim d [ inl g ↦ absurd (omega arith) | inr g ↦ absurd (omega arith) ]
      | inr i ↦ m.marked j x (omega arith) o
    ]

    before : (x : ℕ) → (j : ℕ) × (j < n) × IsOf page j x → (j : ℕ) × (j < n + 1) × IsOf page j x
    before x (j, h, o) = (j, omega arith, o)

pub not_apart : (page : List ℕ) (n from k : ℕ) (a : List Bool) → from ≡ offset page n → k ≡ size page n → n < slots page → AreMarked page n a → MarksOne a from k → AreRight page (slots page) → ⊥
not_apart page n from k a e f h m w r =
    let o = m.unmarked w.byte w.marked in let l = w.behind in let g = w.before in
    (r.apart n h).no_byte o.0 w.byte o.1 o.2 (record { from = omega arith; to = omega arith })

pub not_placed : (page : List ℕ) (n : ℕ) → n < slots page → (IsPlaced page n → ⊥) → AreRight page (slots page) → ⊥
not_placed page n h d r = d (r.placed n h)

pub placed-inside : (page : List ℕ) (n from k : ℕ) → from ≡ offset page n → k ≡ size page n → IsPlaced page n → from + k ≤ 4096
placed-inside page n from k e f (inl (z, y)) = omega arith
placed-inside page n from k e f (inr (l, t)) = omega arith

-- the marks of a run of bytes, one after the other
pub marks_begin : (a : List Bool) (from : ℕ) → MarksAll a a from 0
marks_begin a from = record {
  long = refl;
  were_not = λ x l h. absurd (omega arith);
  here = λ x l h. absurd (omega arith);
  beside = λ x d. refl;
}

pub marks_next : (a b : List Bool) (from n at : ℕ) → at ≡ from + n → at < length b → slice_index_or b at false ≡ false → MarksAll a b from n → MarksAll a (slice_set b at true) from (n + 1)
marks_next a b from n at e h f m = record {
  long = length-set b at true ∙ m.long;
  were_not = λ x l r. elim (cases_eq x at) [
    | inl i ↦ ap (λ y. slice_index_or a y false) i ∙ sym (m.beside at (inr (omega arith))) ∙ f
    | inr d ↦ m.were_not x l (omega arith)
  ];
  here = λ x l r. elim (cases_eq x at) [
    | inl i ↦ ap (λ y. slice_index_or (slice_set b at true) y false) i ∙ get_or-set_same b at true false h
    | inr d ↦ get_or-set_other b at x true false d ∙ m.here x l (omega arith)
  ];
  beside = λ x d. elim (cases_eq x at) [
    | inl i ↦ elim d [ inl l ↦ absurd (omega arith) | inr l ↦ absurd (omega arith) ]
    | inr g ↦ get_or-set_other b at x true false g ∙ m.beside x (elim d [ inl l ↦ inl l | inr l ↦ inr (omega arith) ])
  ];
}

pub marks_met : (a b : List Bool) (from n size at : ℕ) → at ≡ from + n → n < size → slice_index_or b at false ≡ true → MarksAll a b from n → MarksOne a from size
marks_met a b from n size at e h f m = record {
  byte = at;
  behind = omega arith;
  before = omega arith;
  marked = sym (m.beside at (inr (omega arith))) ∙ f;
}
