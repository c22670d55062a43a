-- What a write over a part of a record does to the page.
use Rattle.std.specs.Prelude.{◌≡◌, ◌≢◌, ℕ, ◌+◌, ◌-◌, ◌*◌, ◌<◌, ◌≤◌, ◌⊎◌, max, List, length, take, drop, slice_index, Option, Some, None, ◌++◌, MatchOption}
use Rattle.std.proofs.Common.{sym, ◌∙◌, ap, subst, arith, inl, inr, length-take}
use Rattle.std.proofs.Math.Nat.{eq-zero-or-pos}
use Rattle.std.proofs.lemmas.List.{take-take, drop-take, drop-drop}
use Rattle.std.proofs.lemmas.Bool.{cases_lt}
use borrow.Rule.Slice.PartMut.{put_mid}
use Rattle.hg_base.specs.Parts.{parts}
use Rattle.hg_slot.specs.Slotted.{number, slots, lowest, offset, size, body, record_at, HasExactLowest, IsOf, IsSlotted, IsRecord}
use Rattle.hg_slot.specs.Writing.{WritesBytes, WritesSlot, WritesZeros}
use Rattle.hg_slot.specs.Changing.{Overwrites, Erases, WritesPart}
use Rattle.hg_slot.specs.declared.entry.Entry.{Entry}
use Rattle.hg_slot.proofs.Numbers.{number-before, first-kept}
use Rattle.hg_slot.proofs.Clean.{same-byte, byte-in, slot_beside, clean_after}
use Rattle.hg_slot.proofs.Slots.{shows, shown-here, shown-empty, Changes, others-kept, slotted-after, placed-lower}
use Rattle.hg_slot.proofs.Steps.{stands, offset-beside, size-beside}

-- a part of a list in which a part of it was written over: at bytes, then x, then rest bytes
part-written : (a b x : List ℕ) (from at rest : ℕ) → WritesBytes a b (from + at) x
    → take (at + (length x + rest)) (drop from b) ≡ put_mid at (length x) (take (at + (length x + rest)) (drop from a)) x
part-written a b x from at rest w =
    let n : ℕ = length x in
    let tail : ℕ = from + at + n in
    let left : take (at + (n + rest)) (drop from b) ≡ take at (drop from a) ++ (x ++ take rest (drop tail a)) =
    parts b from at (n + rest)
    ∙ ap (λ l. take at (drop from b) ++ l) (parts b (from + at) n rest)
    ∙ ap (λ l. l ++ (take n (drop (from + at) b) ++ take rest (drop tail b))) (w.only.before from at (omega arith))
    ∙ ap (λ l. take at (drop from a) ++ (l ++ take rest (drop tail b))) w.here
    ∙ ap (λ l. take at (drop from a) ++ (x ++ l)) (w.only.behind tail rest (omega arith)) in
    let whole : List ℕ = take (at + (n + rest)) (drop from a) in
    let front : take at whole ≡ take at (drop from a) = take-take at (at + (n + rest)) (drop from a) (omega arith) in
    let back : drop n (drop at whole) ≡ take rest (drop tail a) =
    ap (drop n) (drop-take at (n + rest) (drop from a))
    ∙ drop-take n rest (drop at (drop from a))
    ∙ ap (take rest) (drop-drop n at (drop from a) ∙ drop-drop (at + n) from a)
    ∙ (let e : from + (at + n) ≡ tail = omega arith in ap (λ m. take rest (drop m a)) e) in
    left ∙ sym (ap (λ l. l ++ (x ++ drop n (drop at whole))) front ∙ ap (λ l. take at (drop from a) ++ (x ++ l)) back)

-- another record's bytes are not of the part that was written
beside : (a b x : List ℕ) (i k at : ℕ) → IsSlotted a → i < slots a → k < slots a → k ≢ i → WritesBytes a b at x
    → offset a i ≤ at → at + length x ≤ offset a i + size a i → take (size a k) (drop (offset a k) b) ≡ body a k
beside a b x i k at s hi hk n w l h =
    elim (eq-zero-or-pos (length x)) [
      | inl z ↦ ap (λ c. take (size a k) (drop (offset a k) c)) (w.none z)
      | inr p ↦ elim (eq-zero-or-pos (size a k)) [
        | inl z ↦ ap (λ m. take m (drop (offset a k) b)) z ∙ ap (λ m. take m (drop (offset a k) a)) (sym z)
        | inr q ↦ elim (cases_lt at (offset a k + size a k)) [
          | inr o ↦ w.only.before (offset a k) (size a k) o
          | inl o ↦ elim (cases_lt (offset a k) (at + length x)) [
            | inr u ↦ w.only.behind (offset a k) (size a k) u
            | inl u ↦ absurd (s.apart k i (max at (offset a k)) hk hi n
                (record { from = omega arith; to = omega arith }) (record { from = omega arith; to = omega arith }))
          ]
        ]
      ]
    ]

-- an unused byte is beside each part of a record
part-beside : (b : List ℕ) (i x n at m : ℕ) → i < slots b → offset b i ≤ at → at + m ≤ offset b i + size b i
    → ((k : ℕ) → k < slots b → IsOf b k x → ⊥) → (x < at) ⊎ (at + m ≤ x)
part-beside b i x n at m l e f none =
    elim (cases_lt x at) [
      | inl h ↦ inl h
      | inr h ↦ elim (cases_lt x (at + m)) [
        | inr g ↦ inr g
        | inl g ↦ absurd (none i l (record { from = omega arith; to = omega arith }))
      ]
    ]

-- bytes 4..6 stay exact where no record moves
pub exact-same : (a b : List ℕ) → slots b ≡ slots a → lowest b ≡ lowest a → ((k : ℕ) → k < slots a → offset b k ≡ offset a k) → HasExactLowest a → HasExactLowest b
exact-same a b c l o (inl e) = inl (l ∙ e)
exact-same a b c l o (inr s) =
    let same : offset b s.slot ≡ offset a s.slot = o s.slot s.is_slot in
    let is_slot = s.is_slot in let full = s.full in
    inr (record { slot = s.slot; is_slot = omega arith; full = omega arith; here = same ∙ s.here ∙ sym l })

-- what was written, whatever the page is
pub part_written : (a b x : List ℕ) (i from at : ℕ) → from ≡ offset a i → WritesBytes a b (from + at) x → WritesPart a b i at x
part_written a b x i from at e w =
    let v : WritesBytes a b (offset a i + at) x = rw e at w in
    record {
      same_length = v.only.same_length;
      here = v.here;
      beside = λ m n d. elim d [ inl h ↦ v.only.before m n h | inr h ↦ v.only.behind m n h ];
    }

pub overwritten : (a b x : List ℕ) (i from n at : ℕ) → IsSlotted a → IsRecord a i from n → at + length x ≤ n
    → WritesBytes a b (from + at) x → Overwrites a b i at x
overwritten a b x i from n at s r h w =
    let hi = r.is_slot in
    let f = r.from_is in
    let g = r.size_is in
    let behind = s.behind in
    let whole = s.whole in
    let full : 0 < offset a i = (shows a i (take n (drop from a)) r.shown).full in
    let low : lowest a ≤ from = omega (arith, stands a i s hi full) in
    let num : (m : ℕ) → m + 2 ≤ 16 + 4 * slots a → number b m ≡ number a m = λ m l.
    number-before a b (from + at) (length x) m w.only (omega arith) in
    let count : slots b ≡ slots a = num 2 (omega arith) in
    let lowest_same : lowest b ≡ lowest a = num 4 (omega arith) in
    let off : (k : ℕ) → k < slots a → offset b k ≡ offset a k = λ k l. num (16 + 4 * k) (omega arith) in
    let siz : (k : ℕ) → k < slots a → size b k ≡ size a k = λ k l. num (18 + 4 * k) (omega arith) in
    let c : Changes a b i = record {
      same_length = w.only.same_length;
      kind = first-kept a b (from + at) (length x) w.only (omega arith) (omega arith);
      grown = omega arith;
      one_more = λ k l d. omega arith;
      lower = omega arith;
      same_offset = λ k l d. off k l;
      same_size = λ k l d. siz k l;
      same_body = λ k l d p.
          ap (λ m. take m (drop (offset b k) b)) (siz k l) ∙ ap (λ m. take (size a k) (drop m b)) (off k l)
          ∙ beside a b x i k (from + at) s hi l d w (omega arith) (omega arith);
    } in
    record {
      clean = clean_after a b i s c (λ y u. inr (
        same-byte a b (from + at) (length x) y w.only (part-beside b i y n (from + at) (length x) (omega arith) (omega (arith, off i hi)) (omega (arith, siz i hi, off i hi)) u.no_record),
        λ l o. u.no_record i (omega arith) (record { from = omega (arith, o.from, off i hi); to = omega (arith, o.to, off i hi, siz i hi) }),
      ));
      slotted = slotted-after a b i s c (omega (arith, s.few)) (omega arith)
          (placed-lower a b i (off i hi) (siz i hi) (omega arith) (s.placed i hi))
          (λ k y l d o q. s.apart k i y l hi d o
          (record { from = omega (arith, q.from, off i hi); to = omega (arith, q.to, off i hi, siz i hi) }));
      here = λ t e.
          let rest : ℕ = n - (at + length x) in
          let split : n ≡ at + (length x + rest) = omega arith in
          let was : t ≡ take n (drop from a) = (let e' = r.shown in cc) in
          let now : take n (drop from b) ≡ put_mid at (length x) t x =
          ap (λ m. take m (drop from b)) split ∙ part-written a b x from at rest w
          ∙ ap (λ m. put_mid at (length x) (take m (drop from a)) x) (sym split)
          ∙ ap (λ l. put_mid at (length x) l x) (sym was) in
          shown-here b i (omega arith) (omega (arith, off i hi))
          ∙ ap Some (ap (λ m. take m (drop (offset b i) b)) (siz i hi ∙ sym g) ∙ ap (λ m. take n (drop m b)) (off i hi ∙ sym f) ∙ now);
      others = others-kept a b i c;
      count = count;
      lowest = λ e. exact-same a b count lowest_same off e;
    }

-- a byte that is beside the slot is zero, or as it was and none of the record
erased : (a b c : List ℕ) (i from n x : ℕ) → from ≡ offset a i → n ≡ size a i → 20 + 4 * i ≤ from → WritesZeros a b from n → WritesSlot b c i 0 0
    → (x < 16 + 4 * i) ⊎ (16 + 4 * i + 4 ≤ x)
    → (slice_index c x ≡ 0) ⊎ ((slice_index c x ≡ slice_index a x) × (i < slots a → IsOf a i x → ⊥))
erased a b c i from n x f g h z v d =
    let same = same-byte b c (16 + 4 * i) 4 x v.only d in
    let w : WritesBytes a b from z.zeros = z.write in
    let long : length z.zeros ≡ n = z.long in
    elim (cases_lt x from) [
      | inl l ↦ inr (same ∙ same-byte a b from (length z.zeros) x w.only (inl l), λ j o. absurd (omega (arith, o.from)))
      | inr l ↦ elim (cases_lt x (from + n)) [
        | inr m ↦ inr (same ∙ same-byte a b from (length z.zeros) x w.only (inr (omega arith)), λ j o. absurd (omega (arith, o.to)))
        | inl m ↦
            let e : from + (x - from) ≡ x = omega arith in
            inl (same ∙ ap (slice_index b) (sym e) ∙ sym (byte-in b from (length z.zeros) (x - from) (omega arith))
            ∙ ap (λ l. slice_index l (x - from)) w.here ∙ z.all (x - from))
      ]
    ]

-- a record's bytes made zero, and its slot emptied
pub removed : (a b c : List ℕ) (i from n : ℕ) → IsSlotted a → IsRecord a i from n → WritesZeros a b from n → WritesSlot b c i 0 0 → Erases a c i
removed a b c i from n s r z v =
    let hi = r.is_slot in
    let f = r.from_is in
    let g = r.size_is in
    let behind = s.behind in
    let whole = s.whole in
    let w : WritesBytes a b from z.zeros = z.write in
    let long : length z.zeros ≡ n = z.long in
    let len_b = w.only.same_length in
    let full : 0 < offset a i = (shows a i (take n (drop from a)) r.shown).full in
    let low : lowest a ≤ from = omega (arith, stands a i s hi full) in
    let head : (m : ℕ) → m + 2 ≤ 16 → number c m ≡ number a m = λ m l.
    number-before b c (16 + 4 * i) 4 m v.only (omega arith) ∙ number-before a b from (length z.zeros) m w.only (omega arith) in
    let count : slots c ≡ slots a = head 2 (omega arith) in
    let lowest_same : lowest c ≡ lowest a = head 4 (omega arith) in
    let off : (k : ℕ) → k < slots a → k ≢ i → offset c k ≡ offset a k = λ k l d.
    offset-beside b c i k 0 0 v d ∙ number-before a b from (length z.zeros) (16 + 4 * k) w.only (omega arith) in
    let siz : (k : ℕ) → k < slots a → k ≢ i → size c k ≡ size a k = λ k l d.
    size-beside b c i k 0 0 v d ∙ number-before a b from (length z.zeros) (18 + 4 * k) w.only (omega arith) in
    let t : Changes a c i = record {
      same_length = v.only.same_length ∙ len_b;
      kind = first-kept b c (16 + 4 * i) 4 v.only (omega arith) (omega arith)
          ∙ first-kept a b from (length z.zeros) w.only (omega arith) (omega arith);
      grown = omega arith;
      one_more = λ k l d. omega arith;
      lower = omega arith;
      same_offset = off;
      same_size = siz;
      same_body = λ k l d p.
          ap (λ m. take m (drop (offset c k) c)) (siz k l d) ∙ ap (λ m. take (size a k) (drop m c)) (off k l d)
          ∙ v.only.behind (offset a k) (size a k) (omega (arith, stands a k s l p))
          ∙ beside a b z.zeros i k from s hi l d w (omega arith) (omega arith);
    } in
    record {
      clean = clean_after a c i s t (λ x u. erased a b c i from n x f g (omega arith) z v
          (slot_beside a c i x (omega arith) u.no_slot));
      slotted = slotted-after a c i s t (omega (arith, s.few)) (omega arith) (inl (v.offset, v.size))
          (λ k x l d o q. absurd (omega (arith, q.from, q.to, v.offset, v.size)));
      here = shown-empty c i v.offset;
      others = others-kept a c i t;
      count = count;
      beside = λ m k d e.
          let slot_kept : take k (drop m c) ≡ take k (drop m b) = elim d [ inl h ↦ v.only.before m k h | inr h ↦ v.only.behind m k (omega arith) ] in
          let record_kept : take k (drop m b) ≡ take k (drop m a) =
          elim e [ inl h ↦ w.only.before m k (omega arith) | inr h ↦ w.only.behind m k (omega arith) ] in
          slot_kept ∙ record_kept;
    }

pub within_record : (page : List ℕ) (k from n m : ℕ) → IsRecord page k from n → MatchOption (record_at page k) ⊥ (λ r. m ≤ length r) → m ≤ n
within_record page k from n m r h =
    let g : m ≤ length (take n (drop from page)) = rw r.shown at h in
    omega (arith, length-take n (drop from page))

-- the record that a look found
pub record_there : (page : List ℕ) (k : ℕ) (o : Option Entry) (e : Entry) → o ≡ Some e → MatchOption o (record_at page k ≡ None) (λ e. IsRecord page k e.offset e.size)
    → IsRecord page k e.offset e.size
record_there page k o e is h = subst (λ z. MatchOption z (record_at page k ≡ None) (λ e. IsRecord page k e.offset e.size)) is h
