-- The steps of a change: an empty page, a slot added.
use Rattle.std.specs.Prelude.{◌≡◌, ◌≢◌, ℕ, ◌+◌, ◌*◌, ◌<◌, ◌≤◌, ◌⊎◌, List, length, take, drop, slice_index, slice_set}
use Rattle.std.proofs.Common.{sym, ◌∙◌, ap, arith, inl, inr, get_or-set_same, get_or-set_other}
use Rattle.std.proofs.Math.ListN.{length-set}
use Rattle.std.proofs.lemmas.Bool.{cases_order, cases_eq}
use Rattle.hg_slot.specs.Slotted.{slots, lowest, offset, size, body, IsOf, IsSlotted}
use Rattle.hg_slot.specs.Writing.{WritesNumber, WritesSlot}
use Rattle.hg_slot.specs.Changing.{Starts, AddsSlot}
use Rattle.hg_slot.proofs.Numbers.{number-before, number-behind, first-kept}
use Rattle.hg_slot.proofs.Clean.{same-byte, head_two, head_four, slot_beside, clean_after}
use Rattle.hg_slot.proofs.Slots.{shown-empty, shown-out, Changes, others-kept, slotted-after}

-- the entries beside a slot that was written
pub offset-beside : (a b : List ℕ) (i k from n : ℕ) → WritesSlot a b i from n → k ≢ i → offset b k ≡ offset a k
offset-beside a b i k from n w h =
    elim (cases_order k i) [
      | inl e ↦ absurd (h e)
      | inr (inl l) ↦ number-before a b (16 + 4 * i) 4 (16 + 4 * k) w.only (omega arith)
      | inr (inr g) ↦ number-behind a b (16 + 4 * i) 4 (16 + 4 * k) w.only (omega arith)
    ]

pub size-beside : (a b : List ℕ) (i k from n : ℕ) → WritesSlot a b i from n → k ≢ i → size b k ≡ size a k
size-beside a b i k from n w h =
    elim (cases_order k i) [
      | inl e ↦ absurd (h e)
      | inr (inl l) ↦ number-before a b (16 + 4 * i) 4 (18 + 4 * k) w.only (omega arith)
      | inr (inr g) ↦ number-behind a b (16 + 4 * i) 4 (18 + 4 * k) w.only (omega arith)
    ]

-- a record that stands from `low` on is as it was where the bytes from there on are
pub body-same : (a b : List ℕ) (k low : ℕ) → offset b k ≡ offset a k → size b k ≡ size a k
    → ((m n : ℕ) → low ≤ m → take n (drop m b) ≡ take n (drop m a)) → low ≤ offset a k → body b k ≡ body a k
body-same a b k low p q f h =
    ap (λ n. take n (drop (offset b k) b)) q ∙ ap (λ m. take (size a k) (drop m b)) p ∙ f (offset a k) (size a k) h

-- a record that is not empty stands among the records
pub stands : (a : List ℕ) (k : ℕ) → IsSlotted a → k < slots a → 0 < offset a k → lowest a ≤ offset a k
stands a k s h p = elim (s.placed k h) [ inl (z, y) ↦ absurd (omega arith) | inr (f, t) ↦ f ]

-- what holds a byte stands among the records
pub stands-of : (a : List ℕ) (k x : ℕ) → IsSlotted a → k < slots a → IsOf a k x → lowest a ≤ x
stands-of a k x s h o = elim (s.placed k h) [ inl (z, y) ↦ absurd (omega (arith, o.from, o.to)) | inr (f, t) ↦ omega (arith, o.from) ]

-- a slot added
pub added : (a b c : List ℕ) → IsSlotted a → slots a < 128 → 20 + 4 * slots a ≤ lowest a
    → WritesSlot a b (slots a) 0 0 → WritesNumber b c 2 (slots a + 1) → AddsSlot a c
added a b c s few room w v =
    let i : ℕ = slots a in
    let whole = s.whole in
    let count : slots c ≡ slots a + 1 = v.here in
    let low : lowest c ≡ lowest a =
    number-behind b c 2 2 4 v.only (omega arith) ∙ number-before a b (16 + 4 * slots a) 4 4 w.only (omega arith) in
    let off : (k : ℕ) → k ≢ slots a → offset c k ≡ offset a k = λ k n.
    number-behind b c 2 2 (16 + 4 * k) v.only (omega arith) ∙ offset-beside a b (slots a) k 0 0 w n in
    let siz : (k : ℕ) → k ≢ slots a → size c k ≡ size a k = λ k n.
    number-behind b c 2 2 (18 + 4 * k) v.only (omega arith) ∙ size-beside a b (slots a) k 0 0 w n in
    let zero_offset : offset c (slots a) ≡ 0 = number-behind b c 2 2 (16 + 4 * slots a) v.only (omega arith) ∙ w.offset in
    let zero_size : size c (slots a) ≡ 0 = number-behind b c 2 2 (18 + 4 * slots a) v.only (omega arith) ∙ w.size in
    let d : Changes a c (slots a) = record {
      same_length = v.only.same_length ∙ w.only.same_length;
      kind = first-kept b c 2 2 v.only (omega (arith, w.only.same_length)) (omega arith)
          ∙ first-kept a b (16 + 4 * slots a) 4 w.only (omega arith) (omega arith);
      grown = omega arith;
      one_more = λ k l n. omega arith;
      lower = omega arith;
      same_offset = λ k l n. off k n;
      same_size = λ k l n. siz k n;
      same_body = λ k l n p. body-same a c k (lowest a) (off k n) (siz k n)
          (λ m t g. v.only.behind m t (omega arith) ∙ w.only.behind m t (omega arith)) (stands a k s l p);
    } in
    record {
      clean = clean_after a c (slots a) s d (λ x u. inr (
        same-byte b c 2 2 x v.only (head_two x u.no_head)
            ∙ same-byte a b (16 + 4 * slots a) 4 x w.only (slot_beside a c (slots a) x (omega arith) u.no_slot),
        λ l o. absurd (omega arith),
      ));
      slotted = slotted-after a c (slots a) s d (omega arith) (omega arith) (inl (zero_offset, zero_size))
          (λ k x l n o q. absurd (omega (arith, q.from, q.to)));
      all = λ k. elim (cases_eq k (slots a)) [
        | inl e ↦ shown-empty c k (ap (offset c) e ∙ zero_offset) ∙ sym (shown-out a k (omega arith))
        | inr n ↦ others-kept a c (slots a) d k n
      ];
      count = count;
      low = low;
    }

pub added_behind : (a b c : List ℕ) (i : ℕ) → i ≡ slots a → IsSlotted a → slots a < 128 → 20 + 4 * slots a ≤ lowest a
    → WritesSlot a b i 0 0 → WritesNumber b c 2 (i + 1) → AddsSlot a c
added_behind a b c i e s few room w v =
    let w' : WritesSlot a b (slots a) 0 0 = rw e at w in
    let v' : WritesNumber b c 2 (slots a + 1) = rw e at v in
    added a b c s few room w' v'

first_beside : (x : ℕ) → (x ≡ 1) ⊎ (6 ≤ x) → x ≢ 0
first_beside x (inl e) z = absurd (omega arith)
first_beside x (inr h) z = absurd (omega arith)

-- an empty page
pub started : (a b c d : List ℕ) → length a ≡ 4096 → ((x : ℕ) → slice_index a x ≡ 0) → b ≡ slice_set a 0 83 → WritesNumber b c 2 0 → WritesNumber c d 4 4096 → Starts d
started a b c d whole zeros e w v =
    let len_b : length b ≡ length a = ap length e ∙ length-set a 0 83 in
    let len_c = w.only.same_length in
    let count : slots d ≡ 0 = number-before c d 4 2 2 v.only (omega arith) ∙ w.here in
    let h : 0 < length a = omega arith in
    record {
      slotted = record {
        whole = v.only.same_length ∙ len_c ∙ len_b ∙ whole;
        kind = first-kept c d 4 2 v.only (omega arith) (omega arith) ∙ first-kept b c 2 2 w.only (omega arith) (omega arith)
            ∙ ap (λ l. slice_index l 0) e ∙ get_or-set_same a 0 83 0 h;
        few = omega arith;
        behind = omega (arith, v.here);
        ends = omega (arith, v.here);
        placed = λ k l. absurd (omega arith);
        apart = λ j k x l m n o p. absurd (omega arith);
      };
      none = count;
      clean = record {
        zero = λ x u.
            same-byte c d 4 2 x v.only (head_four x u.no_head) ∙ same-byte b c 2 2 x w.only (head_two x u.no_head)
            ∙ ap (λ l. slice_index l x) e ∙ get_or-set_other a 0 x 83 0 (first_beside x u.no_head) ∙ zeros x;
      };
      low = v.here;
    }
