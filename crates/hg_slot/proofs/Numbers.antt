-- What a write into a page does to the numbers and the parts of it.
use Rattle.std.specs.Prelude.{◌≡◌, ℕ, ◌+◌, ◌*◌, ◌<◌, ◌≤◌, ◌^◌, List, [], ◌∷◌, length, take, drop, slice_index}
use Rattle.std.specs.Int.{w16, from_le_bytes, to_le_bytes}
use Rattle.std.proofs.Common.{sym, ◌∙◌, ap, refl, arith}
use Rattle.std.proofs.lemmas.Nat.{from_le_bytes-to_le_bytes_2}
use Rattle.hg_base.specs.Parts.{below, above, within, length-written}
use Rattle.std.proofs.lemmas.List.{take-append-drop}
use borrow.Rule.Slice.PartMut.{put_mid}
use Rattle.hg_slot.specs.Slotted.{number}
use Rattle.hg_slot.specs.Writing.{Written, WritesNumber, WritesSlot, WritesBytes, WritesZeros}

pub written : (a x : List ℕ) (at n : ℕ) → at + n ≤ length a → length x ≡ n → Written a (put_mid at n a x) at n
written a x at n l e = record {
  same_length = length-written a x at n l e;
  before = λ m k h. below a x at n m k h (omega arith);
  behind = λ m k h. above a x at n m k h (omega arith) e;
}

-- two writes one behind the other are one
pub written-next : (a b c : List ℕ) (at m n : ℕ) → Written a b at m → Written b c (at + m) n → Written a c at (m + n)
written-next a b c at m n v w = record {
  same_length = w.same_length ∙ v.same_length;
  before = λ i k h. w.before i k (omega arith) ∙ v.before i k h;
  behind = λ i k h. w.behind i k (omega arith) ∙ v.behind i k (omega arith);
}

-- a number beside the write is as it was
pub number-before : (a b : List ℕ) (at n m : ℕ) → Written a b at n → m + 2 ≤ at → number b m ≡ number a m
unfolding number
number-before a b at n m w h = ap (from_le_bytes w16) (w.before m 2 h)

pub number-behind : (a b : List ℕ) (at n m : ℕ) → Written a b at n → at + n ≤ m → number b m ≡ number a m
unfolding number
number-behind a b at n m w h = ap (from_le_bytes w16) (w.behind m 2 h)

-- a number that was written is that number
pub number-here : (a : List ℕ) (at v : ℕ) → at + 2 ≤ length a → v < 2 ^ 16 → number (put_mid at 2 a (to_le_bytes w16 v)) at ≡ v
unfolding number
number-here a at v l s =
    ap (from_le_bytes w16) (within a (to_le_bytes w16 v) at 2 (omega arith) refl) ∙ from_le_bytes-to_le_bytes_2 v s

-- the first byte, where the write is behind it
take-one : (a : List ℕ) → 0 < length a → take 1 (drop 0 a) ≡ slice_index a 0 ∷ []
take-one [] h = absurd (omega arith)
take-one (x ∷ a) h = refl

pub first-kept : (a b : List ℕ) (at n : ℕ) → Written a b at n → 0 < length a → 1 ≤ at → slice_index b 0 ≡ slice_index a 0
first-kept a b at n w l h =
    let e : slice_index b 0 ∷ [] ≡ slice_index a 0 ∷ [] =
    sym (take-one b (omega (arith, w.same_length))) ∙ w.before 0 1 h ∙ take-one a l in
    cc

pub writes_number : (a : List ℕ) (at v : ℕ) → at + 2 ≤ length a → v < 2 ^ 16 → WritesNumber a (put_mid at 2 a (to_le_bytes w16 v)) at v
writes_number a at v l s = record {
  only = written a (to_le_bytes w16 v) at 2 l refl;
  here = number-here a at v l s;
}

pub writes_slot : (a b c : List ℕ) (k from n : ℕ) → WritesNumber a b (16 + 4 * k) from → WritesNumber b c (18 + 4 * k) n → WritesSlot a c k from n
writes_slot a b c k from n v w =
    let e : 16 + 4 * k + 2 ≡ 18 + 4 * k = omega arith in
    record {
      only = written-next a b c (16 + 4 * k) 2 2 v.only (rw e w.only);
      offset = number-before b c (18 + 4 * k) 2 (16 + 4 * k) w.only (omega arith) ∙ v.here;
      size = w.here;
    }

nothing-written : (a x : List ℕ) (at n : ℕ) → n ≡ 0 → length x ≡ 0 → put_mid at n a x ≡ a
nothing-written a [] at n e z = ap (λ k. put_mid at k a []) e ∙ take-append-drop at a
nothing-written a (y ∷ x) at n e z = absurd (omega arith)

pub writes_bytes : (a x : List ℕ) (at n : ℕ) → at + n ≤ length a → length x ≡ n → WritesBytes a (put_mid at n a x) at x
writes_bytes a x at n l e =
    let g : at + length x ≤ length a = omega arith in
    record {
      only = rw (← e) (written a x at (length x) g refl);
      here = rw (← e) (within a x at (length x) (omega arith) refl);
      none = λ z. nothing-written a x at n (sym e ∙ z) z;
    }

pub writes_zeros : (a x : List ℕ) (at n : ℕ) → at + n ≤ length a → length x ≡ n → ((k : ℕ) → slice_index x k ≡ 0) → WritesZeros a (put_mid at n a x) at n
writes_zeros a x at n l e z = record { zeros = x; long = e; all = z; write = writes_bytes a x at n l e }
