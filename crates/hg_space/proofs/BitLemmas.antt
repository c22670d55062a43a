-- One word of a list of words is written over: what becomes of the bits.
use Rattle.std.proofs.Common.{◌≡◌, ◌≢◌, ℕ, ◌+◌, ◌-◌, ◌*◌, ◌/◌, ◌%◌, ◌^◌, ◌<◌, ◌==◌, true, false, List, length, sym, ◌∙◌, ap, inl, inr, arith, get_or-set_same, get_or-set_other}
use Rattle.std.specs.Prelude.{not, slice_index, slice_set, bit_and, bit_or}
use Rattle.std.specs.Int.{w64, bit_at, bit_not, trailing_zeros}
use Rattle.std.proofs.lemmas.Bool.Decides.{eqb_tells}
use Rattle.std.proofs.lemmas.Nat.Bits.{bit_at_set_same, bit_at_set_other, bit_at_clear_same, bit_at_clear_other, bit_at-trailing_zeros, bit_at-zero}
use Rattle.std.proofs.lemmas.Bool.{false≢true}
use Rattle.std.specs.Int.Bits.{and_zero_l}
use Rattle.hg_space.specs.Bits.{is_set, has_bits, Puts, IsFirstSet}

apart-in_word : (i bit : ℕ) → i / 64 ≡ bit / 64 → i ≢ bit → i % 64 ≢ bit % 64
apart-in_word i bit e ne same = ne (omega arith)

pub others-written : (ws : List ℕ) (bit v : ℕ) → bit / 64 < length ws
    → ((j : ℕ) → j < 64 → j ≢ bit % 64 → bit_at v j ≡ bit_at (slice_index ws (bit / 64)) j)
    → (i : ℕ) → i ≢ bit → is_set (slice_set ws (bit / 64) v) i ≡ is_set ws i
others-written ws bit v inside agrees i ne =
    elim (eqb_tells (i / 64) (bit / 64)) [
      | inl w ↦
          let at_word : slice_index (slice_set ws (bit / 64) v) (i / 64) ≡ v = ap (λ k. slice_index (slice_set ws (bit / 64) v) k) w.1 ∙ get_or-set_same ws (bit / 64) v 0 inside in
          let old_word : slice_index ws (bit / 64) ≡ slice_index ws (i / 64) = ap (λ k. slice_index ws k) (sym w.1) in
          ap (λ x. bit_at x (i % 64) == 1) at_word ∙ ap (λ b. b == 1) (agrees (i % 64) (omega arith) (apart-in_word i bit w.1 ne)) ∙ ap (λ x. bit_at x (i % 64) == 1) old_word
      | inr w ↦ ap (λ x. bit_at x (i % 64) == 1) (get_or-set_other ws (bit / 64) (i / 64) v 0 w.1)
    ]

pub here-written : (ws : List ℕ) (bit v b : ℕ) → bit / 64 < length ws → bit_at v (bit % 64) ≡ b → is_set (slice_set ws (bit / 64) v) bit ≡ (b == 1)
here-written ws bit v b inside e = ap (λ x. bit_at x (bit % 64) == 1) (get_or-set_same ws (bit / 64) v 0 inside) ∙ ap (λ k. k == 1) e

pub sets-word : (ws : List ℕ) (bit v : ℕ) → bit / 64 < length ws → v ≡ bit_or (slice_index ws (bit / 64)) (1 * 2 ^ (bit % 64) % 2 ^ 64)
    → Puts ws bit true (slice_set ws (bit / 64) v)
sets-word ws bit v inside e =
    let low : bit % 64 < 64 = omega arith in
    record {
      here = here-written ws bit v 1 inside (ap (λ x. bit_at x (bit % 64)) e ∙ bit_at_set_same w64 (slice_index ws (bit / 64)) (bit % 64) low);
      others = others-written ws bit v inside
          (λ j l ne. ap (λ x. bit_at x j) e ∙ bit_at_set_other w64 (slice_index ws (bit / 64)) (bit % 64) low j ne);
      words = λ w ne. get_or-set_other ws (bit / 64) w v 0 ne;
    }

pub clears-word : (ws : List ℕ) (bit v : ℕ) → bit / 64 < length ws → v ≡ bit_and (slice_index ws (bit / 64)) (bit_not w64 (1 * 2 ^ (bit % 64) % 2 ^ 64))
    → Puts ws bit false (slice_set ws (bit / 64) v)
clears-word ws bit v inside e =
    let low : bit % 64 < 64 = omega arith in
    record {
      here = here-written ws bit v 0 inside (ap (λ x. bit_at x (bit % 64)) e ∙ bit_at_clear_same w64 (slice_index ws (bit / 64)) (bit % 64) low);
      others = others-written ws bit v inside
          (λ j l ne. ap (λ x. bit_at x j) e ∙ bit_at_clear_other w64 (slice_index ws (bit / 64)) (bit % 64) low j l ne);
      words = λ w ne. get_or-set_other ws (bit / 64) w v 0 ne;
    }

-- a word that has a bit is not zero, and a word with a bit that is set has one
pub nonzero-of : (x : ℕ) → not (x == 0) ≡ true → x ≢ 0
nonzero-of x h z = false≢true (ap (λ k. not (k == 0)) (sym z) ∙ h)

pub has-of : (x : ℕ) → x ≢ 0 → not (x == 0) ≡ true
has-of x h = elim (eqb_tells x 0) [ inl w ↦ absurd (h w.1) | inr w ↦ ap not w.0 ]

pub has_bits-set : (ws : List ℕ) (i : ℕ) → is_set ws i ≡ true → has_bits ws (i / 64) ≡ true
has_bits-set ws i h =
    has-of (slice_index ws (i / 64)) (λ z. false≢true (sym (ap (λ x. bit_at x (i % 64) == 1) z ∙ ap (λ k. k == 1) (bit_at-zero (i % 64))) ∙ h))

-- a word that has a bit after some were cleared had one
pub had-bits : (x y m : ℕ) → y ≡ bit_and x m → not (y == 0) ≡ true → not (x == 0) ≡ true
had-bits x y m e h = has-of x (λ z. nonzero-of y h (e ∙ ap (λ k. bit_and k m) z ∙ and_zero_l m))

-- a bit of a word by its place there
place-word : (w i : ℕ) → i < 64 → (64 * w + i) / 64 ≡ w
place-word w i l = omega arith

place-in_word : (w i : ℕ) → i < 64 → (64 * w + i) % 64 ≡ i
place-in_word w i l = omega arith

bit-place : (ws : List ℕ) (w i b : ℕ) → i < 64 → bit_at (slice_index ws w) i ≡ b → is_set ws (64 * w + i) ≡ (b == 1)
bit-place ws w i b l e =
    ap (λ k. bit_at (slice_index ws k) ((64 * w + i) % 64) == 1) (place-word w i l)
    ∙ ap (λ k. bit_at (slice_index ws w) k == 1) (place-in_word w i l)
    ∙ ap (λ k. k == 1) e

pub first-in : (ws : List ℕ) (w : ℕ) → has_bits ws w ≡ true → slice_index ws w < 2 ^ 64
    → IsFirstSet ws (64 * w) (64 * w + trailing_zeros w64 (slice_index ws w))
first-in ws w has small =
    let nonzero : slice_index ws w ≢ 0 = λ z. nonzero-of (slice_index ws w) has z in
    let t : ℕ = trailing_zeros w64 (slice_index ws w) in
    let positive : 0 < slice_index ws w = omega arith in
    let facts = bit_at-trailing_zeros w64 (slice_index ws w) positive small in
    record {
      from = omega arith;
      here = bit-place ws w t 1 facts.0 facts.1;
      lower = λ k from below.
          let same : 64 * w + (k - 64 * w) ≡ k = omega arith in
          let less : k - 64 * w < t = omega arith in
          let fits : k - 64 * w < 64 = omega (arith, facts.0) in
          ap (λ n. is_set ws n) (sym same) ∙ bit-place ws w (k - 64 * w) 0 fits (facts.2 (k - 64 * w) less);
    }
