-- Which versions of a row a snapshot sees. Our own rule: each change has a stamp, from 1 on; a version
-- is born under one and may have died under another.
use Rattle.std.specs.Prelude.{ℕ, Bool, true, List, Option, Some, None, ◌&&◌, ◌||◌, not, nat_le, nat_lt}
use Rattle.std.specs.List.{filter}

pub record Version (A : Type 0) : Type 0 where
  pub born : ℕ
  pub died : Option ℕ
  pub row : A

-- a death that the snapshot does not see: none, one that was not committed, or a later one
abbrev pub is_alive : (ℕ → Bool) → ℕ → Option ℕ → Bool
is_alive committed snapshot None = true
is_alive committed snapshot (Some died) = not (committed died) || nat_lt snapshot died

abbrev pub is_visible : {A : Type 0} → (ℕ → Bool) → ℕ → Version A → Bool
is_visible committed snapshot v = committed v.born && (nat_le v.born snapshot && is_alive committed snapshot v.died)

abbrev pub visible : {A : Type 0} → (ℕ → Bool) → ℕ → List (Version A) → List (Version A)
visible committed snapshot versions = filter (is_visible committed snapshot) versions
