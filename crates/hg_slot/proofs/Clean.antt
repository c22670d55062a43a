-- Bytes that have no meaning stay zero.
use Rattle.std.specs.Prelude.{◌≡◌, ℕ, ◌+◌, ◌*◌, ◌<◌, ◌≤◌, ◌⊎◌, zero, suc, List, [], ◌∷◌, take, drop, slice_index}
use Rattle.std.proofs.Common.{sym, ◌∙◌, ap, refl, arith, inl, inr}
use Rattle.std.proofs.lemmas.Bool.{cases_lt, cases_eq}
use Rattle.std.proofs.lemmas.Grind.{common_steps}
use Rattle.hg_slot.specs.Slotted.{slots, offset, size, IsOf, IsSlotted, IsUnused, IsClean}
use Rattle.hg_slot.specs.Writing.{Written}
use Rattle.hg_slot.proofs.Slots.{Changes}

-- a byte is the first of the part that begins with it
pub byte-of : (l : List ℕ) (x : ℕ) → slice_index (take 1 (drop x l)) 0 ≡ slice_index l x
byte-of [] zero = refl
byte-of [] (suc x) = refl
byte-of (y ∷ l) zero = refl
byte-of (y ∷ l) (suc x) = byte-of l x

-- the byte j of a part
pub byte-in : (l : List ℕ) (m n j : ℕ) → j < n → slice_index (take n (drop m l)) j ≡ slice_index l (m + j)
byte-in l m n j h = grind (arith, common_steps)

-- a byte beside a write is as it was
pub same-byte : (a b : List ℕ) (at n x : ℕ) → Written a b at n → (x < at) ⊎ (at + n ≤ x) → slice_index b x ≡ slice_index a x
same-byte a b at n x w (inl h) = sym (byte-of b x) ∙ ap (λ l. slice_index l 0) (w.before x 1 (omega arith)) ∙ byte-of a x
same-byte a b at n x w (inr h) = sym (byte-of b x) ∙ ap (λ l. slice_index l 0) (w.behind x 1 h) ∙ byte-of a x

-- an unused byte is none of the head's numbers, and none of a slot
pub head_two : (x : ℕ) → (x ≡ 1) ⊎ (6 ≤ x) → (x < 2) ⊎ (2 + 2 ≤ x)
head_two x (inl e) = inl (omega arith)
head_two x (inr h) = inr (omega arith)

pub head_four : (x : ℕ) → (x ≡ 1) ⊎ (6 ≤ x) → (x < 4) ⊎ (4 + 2 ≤ x)
head_four x (inl e) = inl (omega arith)
head_four x (inr h) = inr (omega arith)

pub slot_beside : (a b : List ℕ) (i x : ℕ) → i < slots b → (x < 16) ⊎ (16 + 4 * slots b ≤ x) → (x < 16 + 4 * i) ⊎ (16 + 4 * i + 4 ≤ x)
slot_beside a b i x l (inl h) = inl (omega arith)
slot_beside a b i x l (inr h) = inr (omega arith)

-- an unused byte is outside each record
pub outside : (b : List ℕ) (i x : ℕ) → i < slots b → (at n : ℕ) → offset b i ≡ at → size b i ≡ n
    → ((k : ℕ) → k < slots b → IsOf b k x → ⊥) → (x < at) ⊎ (at + n ≤ x)
outside b i x l at n e f none =
    elim (cases_lt x at) [
      | inl h ↦ inl h
      | inr h ↦ elim (cases_lt x (at + n)) [
        | inr g ↦ inr g
        | inl g ↦ absurd (none i l (record { from = omega arith; to = omega arith }))
      ]
    ]

-- a slot whose offset is 0 says that it has no bytes
pub empty-size : (a : List ℕ) (i : ℕ) → IsSlotted a → i < slots a → offset a i ≡ 0 → size a i ≡ 0
empty-size a i s h z = let b = s.behind in elim (s.placed i h) [ inl (y, e) ↦ e | inr (f, t) ↦ absurd (omega arith) ]

-- after a change of one slot: what is unused now and was not of that slot's record was unused
pub clean_after : (a b : List ℕ) (i : ℕ) → IsSlotted a → Changes a b i
    → ((x : ℕ) → IsUnused b x → (slice_index b x ≡ 0) ⊎ ((slice_index b x ≡ slice_index a x) × (i < slots a → IsOf a i x → ⊥)))
    → IsClean a → IsClean b
clean_after a b i s c f z = record {
  zero = λ x u. elim (f x u) [
    | inl e ↦ e
    | inr (e, none) ↦ e ∙ z.zero x (record {
      no_head = u.no_head;
      no_slot = elim u.no_slot [ inl h ↦ inl h | inr h ↦ let g = c.grown in inr (omega arith) ];
      no_record = λ k l o. elim (cases_eq k i) [
        | inl d ↦ none (rw d at l) (rw d at o)
        | inr d ↦ u.no_record k (omega (arith, c.grown))
            (record { from = omega (arith, o.from, c.same_offset k l d); to = omega (arith, o.to, c.same_offset k l d, c.same_size k l d) })
      ];
    })
  ];
}
