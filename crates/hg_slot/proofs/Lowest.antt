-- The lowest byte of the records, once one was taken away.
use Rattle.std.specs.Prelude.{◌≡◌, ℕ, ◌+◌, ◌*◌, ◌<◌, ◌≤◌, min, List, take, drop}
use Rattle.std.proofs.Common.{sym, ◌∙◌, ap, refl, arith, inl, inr}
use Rattle.std.proofs.lemmas.Bool.{cases_lt, cases_eq}
use Rattle.hg_slot.specs.Slotted.{slots, lowest, offset, size, record_at, IsOf, IsLowestRecord}
use Rattle.hg_slot.specs.Writing.{WritesNumber}
use Rattle.hg_slot.specs.Changing.{Empties, Erases}
use Rattle.hg_slot.proofs.Numbers.{number-before, number-behind, first-kept}
use Rattle.hg_slot.proofs.Clean.{same-byte, head_four}
use Rattle.hg_slot.proofs.Slots.{shown-same}
use Rattle.hg_slot.proofs.Steps.{stands}

pub lowest_none : (page : List ℕ) → IsLowestRecord page 0 4096
lowest_none page = record { below = λ k h p. absurd (omega arith); begins = inl refl }

pub lowest_empty : (page : List ℕ) (n x from : ℕ) → IsLowestRecord page n x → from ≡ offset page n → from ≡ 0 → IsLowestRecord page (n + 1) x
lowest_empty page n x from l e z = record {
  below = λ k h p. elim (cases_eq k n) [
    | inl i ↦ let o : offset page k ≡ offset page n = ap (offset page) i in absurd (omega arith)
    | inr d ↦ l.below k (omega arith) p
  ];
  begins = l.begins;
}

pub lowest_more : (page : List ℕ) (n x from : ℕ) → IsLowestRecord page n x → n < slots page → from ≡ offset page n → (from ≡ 0 → ⊥) → IsLowestRecord page (n + 1) (min x from)
lowest_more page n x from l h e d = record {
  below = λ k g p. elim (cases_eq k n) [
    | inl i ↦ let o : offset page k ≡ offset page n = ap (offset page) i in omega arith
    | inr m ↦ let b = l.below k (omega arith) p in omega arith
  ];
  begins = elim (cases_lt x from) [
    | inl less ↦ let m : min x from ≡ x = omega arith in rw m l.begins
    | inr more ↦ inr (record { slot = n; is_slot = h; full = omega arith; here = omega arith })
  ];
}

pub ruleset lowering = (lowest_none, lowest_empty, lowest_more)

-- the head names another place
pub emptied : (a c d : List ℕ) (i x : ℕ) → Erases a c i → IsLowestRecord c (slots c) x → x ≤ 4096 → WritesNumber c d 4 x → Empties a d i
emptied a c d i x r l m w =
    let s = r.slotted in
    let whole = s.whole in let behind = s.behind in let few = s.few in
    let low : lowest d ≡ x = w.here in
    let count : slots d ≡ slots c = number-before c d 4 2 2 w.only (omega arith) in
    let off : (k : ℕ) → offset d k ≡ offset c k = λ k. number-behind c d 4 2 (16 + 4 * k) w.only (omega arith) in
    let siz : (k : ℕ) → size d k ≡ size c k = λ k. number-behind c d 4 2 (18 + 4 * k) w.only (omega arith) in
    let at_head : 16 + 4 * slots c ≤ x = elim l.begins [
      | inl e ↦ omega arith
      | inr b ↦ let st = stands c b.slot s b.is_slot b.full in let e = b.here in omega arith
    ] in
    let same : (k : ℕ) → record_at d k ≡ record_at c k = λ k.
    shown-same c d k (λ h. omega arith) (λ h. omega arith) (λ h. off k)
    (λ h p. ap (λ n. take n (drop (offset d k) d)) (siz k) ∙ ap (λ n. take (size c k) (drop n d)) (off k)
    ∙ w.only.behind (offset c k) (size c k) (omega (arith, stands c k s h p))) in
    let back : (k y : ℕ) → IsOf d k y → IsOf c k y = λ k y o.
    (let p = off k in let q = siz k in let f = o.from in let t = o.to in record { from = omega arith; to = omega arith }) in
    record {
      clean = λ z. let z' = r.clean z in record {
        zero = λ y u.
            same-byte c d 4 2 y w.only (head_four y u.no_head) ∙ z'.zero y (record {
              no_head = u.no_head;
              no_slot = elim u.no_slot [ inl h ↦ inl h | inr h ↦ inr (omega arith) ];
              no_record = λ k h o. u.no_record k (omega arith) (let p = off k in let q = siz k in let f = o.from in let t = o.to in record { from = omega arith; to = omega arith });
            });
      };
      slotted = record {
        whole = w.only.same_length ∙ whole;
        kind = first-kept c d 4 2 w.only (omega arith) (omega arith) ∙ s.kind;
        few = omega arith;
        behind = omega arith;
        ends = omega arith;
        placed = λ k h. let p = off k in let q = siz k in elim (s.placed k (omega arith)) [
          | inl (z, y) ↦ inl (p ∙ z, q ∙ y)
          | inr (f, t) ↦ let b = l.below k (omega arith) (omega arith) in inr (omega arith, omega arith)
        ];
        apart = λ j k y hj hk n oj ok. s.apart j k y (omega arith) (omega arith) n (back j y oj) (back k y ok);
      };
      here = same i ∙ r.here;
      others = λ k n. same k ∙ r.others k n;
      count = count ∙ r.count;
      lowest = elim l.begins [
        | inl e ↦ inl (low ∙ e)
        | inr b ↦ let p = off b.slot in let is_slot = b.is_slot in let full = b.full in
            inr (record { slot = b.slot; is_slot = omega arith; full = omega arith; here = p ∙ b.here ∙ sym low })
      ];
      beside = λ m n e f g.
          let head_kept : take n (drop m d) ≡ take n (drop m c) = elim e [ inl h ↦ w.only.before m n h | inr h ↦ w.only.behind m n h ] in
          head_kept ∙ r.beside m n f g;
    }
