-- The clock that chooses the frame whose page has to go. Our own rule: a clock as page caches have it, with scores from
-- 0 to 7 in place of one bit.
use Rattle.std.specs.Prelude.{◌≡◌, ℕ, ◌+◌, ◌-◌, ◌<◌, ◌≤◌, Bool, true, false, if◌then◌else◌, List, All, length, slice_index, slice_index_or, nat_lt}

-- What callers see of a clock: each frame's score, whether it is out, and the frame that the hand stands at.
pub record ClockState : Type 0 where
  pub scores : List ℕ
  pub out : List Bool
  pub hand : ℕ

abbrev pub frame_count : ClockState → ℕ
frame_count clock = length clock.scores

-- what holds of every clock: it says of each frame whether it is out, and scores are from 0 to 7
pub record IsSound (clock : ClockState) : Type 0 where
  pub same_length : length clock.out ≡ frame_count clock
  pub small : All (λ s. s ≤ 7) clock.scores

abbrev pub score_of : ClockState → ℕ → ℕ
score_of clock f = slice_index clock.scores f

abbrev pub is_out : ClockState → ℕ → Bool
is_out clock f = slice_index_or clock.out f false

-- the frames that the hand may take: those below `current` that are not out
pub record IsEligible (current : ℕ) (clock : ClockState) (f : ℕ) : Type 0 where
  pub below : f < current
  pub not_out : is_out clock f ≡ false

abbrev pub AllOut : ℕ → ClockState → Type 0
AllOut current clock = (f : ℕ) → f < current → is_out clock f ≡ true

-- the frame at which the hand looks first: where it stands, or frame 0 where that is not below `current`
abbrev pub first_look : ℕ → ℕ → ℕ
first_look current hand = if nat_lt hand current then hand else 0

-- How many frames the hand looks at, in a round over the frames below `current`, before it comes to f: it goes up from
-- its first look, and after the last frame on from frame 0.
abbrev pub place : ℕ → ℕ → ℕ → ℕ
place current first f = if nat_lt f first then current - first + f else f - first

abbrev pub place_of : ℕ → ClockState → ℕ → ℕ
place_of current clock f = place current (first_look current clock.hand) f

-- An eligible frame is passed as often as its score says, once in each round, and then it is used up. So the first
-- frame whose score is used up is one of least score, and among these the one to which the hand comes first.
pub record IsVictim (current : ℕ) (clock : ClockState) (f : ℕ) : Type 0 where
  pub eligible : IsEligible current clock f
  pub least : (g : ℕ) → IsEligible current clock g → score_of clock f ≤ score_of clock g
  pub first : (g : ℕ) → IsEligible current clock g → score_of clock g ≡ score_of clock f
      → place_of current clock f ≤ place_of current clock g

-- How often the hand passes an eligible frame g before it takes f: once in each of the rounds in which it passes f, and
-- once more if it comes to g before f.
abbrev pub passes : ℕ → ClockState → ℕ → ℕ → ℕ
passes current clock f g = score_of clock f + (if nat_lt (place_of current clock g) (place_of current clock f) then 1 else 0)

-- The hand takes f: each pass lowered an eligible frame's score by 1, no other score and no frame's being out changed,
-- and the hand stands behind f.
pub record Takes (current : ℕ) (old : ClockState) (f : ℕ) (new : ClockState) : Type 0 where
  pub victim : IsVictim current old f
  pub frames : frame_count new ≡ frame_count old
  pub passed : (g : ℕ) → IsEligible current old g → score_of new g ≡ score_of old g - passes current old f g
  pub out_kept : (g : ℕ) → is_out old g ≡ true → score_of new g ≡ score_of old g
  pub unused_kept : (g : ℕ) → current ≤ g → score_of new g ≡ score_of old g
  pub out : new.out ≡ old.out
  pub hand : new.hand ≡ f + 1
