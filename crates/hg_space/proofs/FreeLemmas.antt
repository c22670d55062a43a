-- Words without a bit, and words that are as they were.
use Rattle.std.proofs.Common.{◌≡◌, ℕ, ◌+◌, ◌/◌, ◌%◌, ◌==◌, false, List, sym, ◌∙◌, ap}
use Rattle.std.specs.Prelude.{not, slice_index}
use Rattle.std.specs.Int.{bit_at}
use Rattle.std.proofs.lemmas.Nat.Bits.{bit_at-zero}
use Rattle.hg_space.specs.Bits.{is_set, HasNoBits, SameWords}
use Rattle.hg_space.specs.Summary.{IsSummary}

-- a word without bits has none that is set
pub not-set : (ws : List ℕ) (i : ℕ) → slice_index ws (i / 64) ≡ 0 → is_set ws i ≡ false
not-set ws i h = ap (λ x. bit_at x (i % 64) == 1) h ∙ ap (λ k. k == 1) (bit_at-zero (i % 64))

pub none-summary : (ws : List ℕ) (end : ℕ) → HasNoBits ws → IsSummary ws end
none-summary ws end none i l = not-set ws i (none (i / 64)) ∙ sym (ap (λ x. not (x == 0)) (none (i + 1)))

pub same-summary : (old new : List ℕ) (end : ℕ) → SameWords old new → IsSummary old end → IsSummary new end
same-summary old new end same summary i l =
    ap (λ x. bit_at x (i % 64) == 1) (same (i / 64)) ∙ summary i l ∙ sym (ap (λ x. not (x == 0)) (same (i + 1)))
