-- Bits of a list of words of 64 bits, numbered through all words: bit i is in word i / 64. Our own rule.
use Rattle.std.specs.Prelude.{◌≡◌, ◌≢◌, ℕ, ◌/◌, ◌%◌, ◌<◌, ◌≤◌, ◌==◌, not, Bool, true, false, List, slice_index}
use Rattle.std.specs.Int.{bit_at}

abbrev pub is_set : List ℕ → ℕ → Bool
is_set words i = bit_at (slice_index words (i / 64)) (i % 64) == 1

-- whether some bit of a word is set
abbrev pub has_bits : List ℕ → ℕ → Bool
has_bits words w = not (slice_index words w == 0)

-- a bit is b now, and no other bit and no other word changed
pub record Puts (old : List ℕ) (bit : ℕ) (b : Bool) (new : List ℕ) : Type 0 where
  pub here : is_set new bit ≡ b
  pub others : (i : ℕ) → i ≢ bit → is_set new i ≡ is_set old i
  pub words : (w : ℕ) → w ≢ bit / 64 → slice_index new w ≡ slice_index old w

-- of the bits from `low` on, i is the first that is set
pub record IsFirstSet (words : List ℕ) (low i : ℕ) : Type 0 where
  pub from : low ≤ i
  pub here : is_set words i ≡ true
  pub lower : (k : ℕ) → low ≤ k → k < i → is_set words k ≡ false

abbrev pub HasNoBits : List ℕ → Type 0
HasNoBits words = (w : ℕ) → slice_index words w ≡ 0

-- each word is as it was; a word that is not there has no bit
abbrev pub SameWords : List ℕ → List ℕ → Type 0
SameWords old new = (w : ℕ) → slice_index new w ≡ slice_index old w
