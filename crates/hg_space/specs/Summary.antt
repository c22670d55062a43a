-- Bits in levels: a bit of a level says of one word of the level below that it is not zero. The words of all levels
-- stand in one list, level behind level, so bit i says it of word i + 1. Our own rule.
use Rattle.std.specs.Prelude.{◌≡◌, ◌≢◌, ℕ, ◌+◌, ◌*◌, ◌<◌, ◌≤◌, ◌/◌, zero, suc, Bool, List}
use Rattle.hg_space.specs.Bits.{is_set, has_bits}

-- the first bit of a level: the levels above it have 1, 64, 64 * 64 .. words of 64 bits
abbrev pub level_start : ℕ → ℕ
level_start zero = 0
level_start (suc level) = 64 * (level_start level + 1)

-- the bits below `end` say of the words behind them whether some bit is set there
abbrev pub IsSummary : List ℕ → ℕ → Type 0
IsSummary words end = (i : ℕ) → i < end → is_set words i ≡ has_bits words (i + 1)

-- all but one of them do
abbrev pub IsSummaryBut : List ℕ → ℕ → ℕ → Type 0
IsSummaryBut words end bit = (i : ℕ) → i < end → i ≢ bit → is_set words i ≡ has_bits words (i + 1)

-- A bit is b now, and so is what the bits above say. Of the bits from its word's number on no other changed. If the
-- bits but this one were a summary, and this one is the right one, they are a summary.
pub record PutsUp (old : List ℕ) (bit : ℕ) (b : Bool) (new : List ℕ) : Type 0 where
  pub here : is_set new bit ≡ b
  pub others : (i : ℕ) → bit / 64 ≤ i → i ≢ bit → is_set new i ≡ is_set old i
  pub summary : (end : ℕ) → IsSummaryBut old end bit → (bit < end → has_bits old (bit + 1) ≡ b) → IsSummary new end
