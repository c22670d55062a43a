-- What a page shows at a slot, by the numbers of the page; and what a change of one slot leaves.
use Rattle.std.specs.Prelude.{◌≡◌, ◌≢◌, ℕ, ◌+◌, ◌*◌, ◌<◌, ◌≤◌, ◌==◌, ◌&&◌, nat_lt, not, Bool, true, false, List, length, slice_index, None, Some, if◌then◌else◌}
use Rattle.std.proofs.Common.{sym, ◌∙◌, ap, refl, arith, inl, inr, lt-ltb, eq-eqb, ne_eqb}
use Rattle.std.proofs.Math.Nat.{eq-zero-or-pos}
use Rattle.std.proofs.lemmas.Bool.{cases_lt, cases_eq, le-ltb}
use Rattle.hg_slot.specs.Slotted.{slots, lowest, offset, size, body, record_at, IsOf, IsPlaced, IsSlotted}
use Rattle.hg_slot.specs.Changing.{KeepsOthers}

pub shown-out : (page : List ℕ) (k : ℕ) → slots page ≤ k → record_at page k ≡ None
unfolding record_at
shown-out page k h = ap (λ t. if t && not (offset page k == 0) then Some (body page k) else None) (le-ltb k (slots page) h)

and-not : (s t : Bool) → t ≡ true → (s && not t) ≡ false
and-not true t e = ap not e
and-not false t e = refl

pub shown-empty : (page : List ℕ) (k : ℕ) → offset page k ≡ 0 → record_at page k ≡ None
unfolding record_at
shown-empty page k h = ap (λ t. if t then Some (body page k) else None) (and-not (nat_lt k (slots page)) (offset page k == 0) (eq-eqb (offset page k) 0 h))

both : (s t : Bool) → s ≡ true → t ≡ false → (s && not t) ≡ true
both s t e f = ap (λ u. u && not t) e ∙ ap not f

pub shown-here : (page : List ℕ) (k : ℕ) → k < slots page → 0 < offset page k → record_at page k ≡ Some (body page k)
unfolding record_at
shown-here page k h p =
    ap (λ t. if t then Some (body page k) else None)
    (both (nat_lt k (slots page)) (offset page k == 0) (lt-ltb k (slots page) h) (ne_eqb (offset page k) 0 (λ e. absurd (omega arith))))

-- a slot that shows a record
pub record Shows (page : List ℕ) (k : ℕ) (r : List ℕ) : Type 0 where
  pub is_slot : k < slots page
  pub full : 0 < offset page k
  pub is_body : r ≡ body page k

pub shows : (page : List ℕ) (k : ℕ) (r : List ℕ) → record_at page k ≡ Some r → Shows page k r
shows page k r e =
    elim (cases_lt k (slots page)) [
      | inr h ↦ let n = shown-out page k h in absurd (cc)
      | inl h ↦ elim (eq-zero-or-pos (offset page k)) [
        | inl z ↦ let n = shown-empty page k z in absurd (cc)
        | inr p ↦ let s = shown-here page k h p in record { is_slot = h; full = p; is_body = cc }
      ]
    ]

-- a slot that shows none
pub shows-none : (page : List ℕ) (k : ℕ) → k < slots page → record_at page k ≡ None → offset page k ≡ 0
shows-none page k h e =
    elim (eq-zero-or-pos (offset page k)) [
      | inl z ↦ z
      | inr p ↦ let s = shown-here page k h p in absurd (cc)
    ]

-- two pages with the same entry and the same bytes there show the same
pub shown-same : (a b : List ℕ) (k : ℕ) → (k < slots a → k < slots b) → (k < slots b → k < slots a)
    → (k < slots a → offset b k ≡ offset a k) → (k < slots a → 0 < offset a k → body b k ≡ body a k) → record_at b k ≡ record_at a k
shown-same a b k f g o s =
    elim (cases_lt k (slots a)) [
      | inr h ↦ shown-out b k (elim (cases_lt k (slots b)) [ inl l ↦ let l' = g l in absurd (omega arith) | inr m ↦ m ]) ∙ sym (shown-out a k h)
      | inl h ↦ elim (eq-zero-or-pos (offset a k)) [
        | inl z ↦ shown-empty b k (o h ∙ z) ∙ sym (shown-empty a k z)
        | inr p ↦
            let e : offset b k ≡ offset a k = o h in
            shown-here b k (f h) (omega arith) ∙ ap Some (s h p) ∙ sym (shown-here a k h p)
      ]
    ]

-- a change of the slot i alone
pub record Changes (a b : List ℕ) (i : ℕ) : Type 0 where
  pub same_length : length b ≡ length a
  pub kind : slice_index b 0 ≡ slice_index a 0
  pub grown : slots a ≤ slots b
  pub one_more : (k : ℕ) → k < slots b → k ≢ i → k < slots a
  pub lower : lowest b ≤ lowest a
  pub same_offset : (k : ℕ) → k < slots a → k ≢ i → offset b k ≡ offset a k
  pub same_size : (k : ℕ) → k < slots a → k ≢ i → size b k ≡ size a k
  pub same_body : (k : ℕ) → k < slots a → k ≢ i → 0 < offset a k → body b k ≡ body a k

pub others-kept : (a b : List ℕ) (i : ℕ) → Changes a b i → KeepsOthers a b i
others-kept a b i c k n = shown-same a b k
    (λ h. omega (arith, c.grown)) (λ h. c.one_more k h n) (λ h. c.same_offset k h n) (λ h p. c.same_body k h n p)

-- the byte x is of another slot's record than i
moved-of : (a b : List ℕ) (i k x : ℕ) → Changes a b i → k < slots a → k ≢ i → IsOf b k x → IsOf a k x
moved-of a b i k x c h n o =
    let p = c.same_offset k h n in
    let q = c.same_size k h n in
    record { from = rw (← p) o.from; to = rw (← p, ← q) o.to }

pub placed-lower : (a b : List ℕ) (k : ℕ) → offset b k ≡ offset a k → size b k ≡ size a k → lowest b ≤ lowest a → IsPlaced a k → IsPlaced b k
placed-lower a b k p q l (inl (z, y)) = inl (p ∙ z, q ∙ y)
placed-lower a b k p q l (inr (f, t)) = inr (omega arith, omega arith)

pub slotted-after : (a b : List ℕ) (i : ℕ) → IsSlotted a → Changes a b i
    → slots b ≤ 128 → 16 + 4 * slots b ≤ lowest b → IsPlaced b i
    → ((k x : ℕ) → k < slots a → k ≢ i → IsOf a k x → IsOf b i x → ⊥)
    → IsSlotted b
slotted-after a b i s c few behind here apart = record {
  whole = c.same_length ∙ s.whole;
  kind = c.kind ∙ s.kind;
  few = few;
  behind = behind;
  ends = omega (arith, c.lower, s.ends);
  placed = λ k h. elim (cases_eq k i) [
    | inl e ↦ rw e here
    | inr n ↦
        let g = c.one_more k h n in
        placed-lower a b k (c.same_offset k g n) (c.same_size k g n) c.lower (s.placed k g)
  ];
  apart = λ j k x hj hk n oj ok. elim (cases_eq j i) [
    | inl e ↦
        let m : k ≢ i = λ d. n (e ∙ sym d) in
        let gk = c.one_more k hk m in
        apart k x gk m (moved-of a b i k x c gk m ok) (rw e at oj)
    | inr m ↦
        let gj = c.one_more j hj m in
        elim (cases_eq k i) [
          | inl d ↦ apart j x gj m (moved-of a b i j x c gj m oj) (rw d at ok)
          | inr l ↦
              let gk = c.one_more k hk l in
              s.apart j k x gj gk n (moved-of a b i j x c gj m oj) (moved-of a b i k x c gk l ok)
        ]
  ];
}
