-- The stamps that were drawn, 1, 2 and so on, and which of them were committed. Our own rule. They
-- are kept as one mark for each stamp that was drawn, in order.
use Rattle.std.specs.Prelude.{◌≡◌, ◌≢◌, ℕ, ◌+◌, ◌<◌, ◌≤◌, zero, suc, Bool, true, false, List, length, slice_index_or}

-- the last stamp that was drawn; 0 before the first
abbrev pub last : List Bool → ℕ
last marks = length marks

-- whether a stamp was committed; never one that was not drawn
abbrev pub committed : List Bool → ℕ → Bool
committed marks zero = false
committed marks (suc n) = slice_index_or marks n false

-- a stamp was drawn
abbrev pub IsDrawn : List Bool → ℕ → Type 0
IsDrawn marks s = (0 < s) × (s ≤ last marks)

-- The stamp s was drawn, the next one; none was committed.
pub record Draws (old new : List Bool) (s : ℕ) : Type 0 where
  pub next : s ≡ last old + 1
  pub drawn : last new ≡ s
  pub committed : (n : ℕ) → committed new n ≡ committed old n

-- The stamp s is committed, and all else is as it was.
pub record Commits (old new : List Bool) (s : ℕ) : Type 0 where
  pub last : last new ≡ last old
  pub here : committed new s ≡ true
  pub others : (n : ℕ) → n ≢ s → committed new n ≡ committed old n
