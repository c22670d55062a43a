-- The clock over the frames of a pool: which frame a page comes into. Our own rule.
use Rattle.std.specs.Prelude.{◌≡◌, ℕ, ◌≤◌, ◌||◌, Bool, true, false, length, slice_set}
use Rattle.hg_clock.specs.Clock.{ClockState, IsSound, Takes, frame_count, is_out}
use Rattle.hg_pool.specs.Seen.{Frame, FramesSeen}
use Rattle.hg_pool.specs.Picture.{frame_at}

-- a frame was used and is out: its score is 7
abbrev pub used : ClockState → ℕ → ClockState
used c f = record c { scores = slice_set c.scores f 7; out = slice_set c.out f true }

-- a frame was given back, with the score that it had
abbrev pub back : ClockState → ℕ → ClockState
back c f = record c { out = slice_set c.out f false }

-- the page of a frame is gone: its score is 0
abbrev pub forgotten : ClockState → ℕ → ClockState
forgotten c f = record c { scores = slice_set c.scores f 0 }

-- A page came into the frame f, the victim of the clock as it was among the frames in use: the hand passed on to it, and
-- then it was used and is out.
pub record ComesIn (current : ℕ) (a b : ClockState) (f : ℕ) : Type 0 where
  pub passed : ClockState
  pub takes : Takes current a f passed
  pub after : b ≡ used passed f

-- the hand takes no frame that a pin holds, or that was handed out
abbrev pub is_busy : Frame → Bool
is_busy x = x.pinned || x.lent

-- what holds of every pool's clock: it knows all frames that there may be, and which of them are out
pub record IsRunning (frames : FramesSeen) (clock : ClockState) : Type 0 where
  pub sound : IsSound clock
  pub count : frame_count clock ≡ frames.max
  pub inside : length frames.items ≤ frames.max
  pub most : frames.max ≤ 65536
  pub out : (f : ℕ) → is_out clock f ≡ is_busy (frame_at frames.items f)
