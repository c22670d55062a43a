-- Which versions some snapshot from the oldest one on sees: its birth is committed, and its death, if it has a
-- committed one, comes behind the oldest snapshot and behind its birth. Our own rule.
use Rattle.std.specs.Prelude.{◌≡◌, ℕ, Bool, true, Option, Some, None, ◌&&◌, ◌||◌, not, nat_lt}
use Rattle.hg_model.specs.Visible.{Version}
use Rattle.hg_table.specs.Versions.{Placed}

abbrev pub outlives : (ℕ → Bool) → ℕ → ℕ → Option ℕ → Bool
outlives committed oldest born None = true
outlives committed oldest born (Some died) = not (committed died) || (nat_lt oldest died && nat_lt born died)

abbrev pub is_kept : {A : Type 0} → (ℕ → Bool) → ℕ → Version A → Bool
is_kept committed oldest v = committed v.born && outlives committed oldest v.born v.died

-- a version of a table that is kept
abbrev pub IsKept : (ℕ → Bool) → ℕ → Placed → Type 0
IsKept committed oldest v = is_kept committed oldest v.version ≡ true
