-- What a sweep over the frames from one number up to another does. Our own rule.
use Rattle.std.specs.Prelude.{◌≡◌, ℕ, ◌+◌, ◌-◌, ◌<◌, ◌≤◌, Bool, true, false, if◌then◌else◌, List, length, slice_index, slice_index_or, nat_lt}
use Rattle.hg_clock.specs.Clock.{place}

-- each frame from `low` up to `high` is out
abbrev pub AllOutIn : List Bool → ℕ → ℕ → Type 0
AllOutIn out low high = (g : ℕ) → low ≤ g → g < high → slice_index_or out g false ≡ true

-- the first frame of least score among those from `low` up to `high` that are not out
pub record IsLeastIn (scores : List ℕ) (out : List Bool) (low high f : ℕ) : Type 0 where
  pub from : low ≤ f
  pub below : f < high
  pub not_out : slice_index_or out f false ≡ false
  pub least : (g : ℕ) → low ≤ g → g < high → slice_index_or out g false ≡ false → slice_index scores f ≤ slice_index scores g
  pub first : (g : ℕ) → low ≤ g → g < f → slice_index_or out g false ≡ false → slice_index scores f < slice_index scores g

-- each frame from `low` up to `high` that is not out has its score lowered by `by`, and no other score changed
pub record Lowers (old : List ℕ) (out : List Bool) (low high amount : ℕ) (new : List ℕ) : Type 0 where
  pub frames : length new ≡ length old
  pub lowered : (g : ℕ) → low ≤ g → g < high → slice_index_or out g false ≡ false
      → slice_index new g + amount ≡ slice_index old g
  pub out_kept : (g : ℕ) → slice_index_or out g false ≡ true → slice_index new g ≡ slice_index old g
  pub before : (g : ℕ) → g < low → slice_index new g ≡ slice_index old g
  pub behind : (g : ℕ) → high ≤ g → slice_index new g ≡ slice_index old g

-- the frame that the hand takes in a round from `first`: of least score, and the first of these that it comes to
pub record IsFirstUsedUp (scores : List ℕ) (out : List Bool) (current first f : ℕ) : Type 0 where
  pub below : f < current
  pub not_out : slice_index_or out f false ≡ false
  pub least : (g : ℕ) → g < current → slice_index_or out g false ≡ false → slice_index scores f ≤ slice_index scores g
  pub first_come : (g : ℕ) → g < current → slice_index_or out g false ≡ false → slice_index scores g ≡ slice_index scores f
      → place current first f ≤ place current first g

-- the frames that the hand passes before it comes to f, none of them twice, have their scores lowered by 1
pub record LowersBefore (old : List ℕ) (out : List Bool) (current first f : ℕ) (new : List ℕ) : Type 0 where
  pub frames : length new ≡ length old
  pub lowered : (g : ℕ) → g < current → slice_index_or out g false ≡ false → place current first g < place current first f
      → slice_index new g + 1 ≡ slice_index old g
  pub later : (g : ℕ) → g < current → place current first f ≤ place current first g → slice_index new g ≡ slice_index old g
  pub out_kept : (g : ℕ) → slice_index_or out g false ≡ true → slice_index new g ≡ slice_index old g
  pub unused_kept : (g : ℕ) → current ≤ g → slice_index new g ≡ slice_index old g

-- every frame was passed as often as the hand passes it before it takes f: `rounds` times, and once more if it comes
-- to it before f
pub record Passes (old : List ℕ) (out : List Bool) (current first f : ℕ) (new : List ℕ) : Type 0 where
  pub frames : length new ≡ length old
  pub passed : (g : ℕ) → g < current → slice_index_or out g false ≡ false → slice_index new g
      ≡ slice_index old g - (slice_index old f + (if nat_lt (place current first g) (place current first f) then 1 else 0))
  pub out_kept : (g : ℕ) → slice_index_or out g false ≡ true → slice_index new g ≡ slice_index old g
  pub unused_kept : (g : ℕ) → current ≤ g → slice_index new g ≡ slice_index old g
