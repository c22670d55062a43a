-- Another number of frames in use. Our own rule: the pages of the frames that go out of use are written to their devices
-- before any of them goes, so that no page is lost, and where such a write fails none goes.
use Rattle.std.specs.Prelude.{◌≡◌, ℕ, zero, suc, ◌<◌, ◌≤◌, ◌⊎◌, true, false, Option, None, Ok, if◌then◌else◌, nat_lt}
use Rattle.hg_io.specs.declared.device.PageDevice.{Ghosts}
use Rattle.hg_base.specs.Space.{Space, NoPins}
use Rattle.hg_base.specs.declared.File.{File}
use Rattle.hg_base.specs.declared.pages.PageFault.{PageFault}
use Rattle.hg_base.specs.declared.PageId.{PageId}
use Rattle.hg_pool.specs.Work.{Calls, calls_in, with_write, with_call, IsFaultOf}
use Rattle.hg_pool.specs.Picture.{frame_at}
use Rattle.hg_pool.specs.Passing.{PassesParts, Clears, IsClean}
use Rattle.hg_pool.specs.Shown.{disks_of, in_frame, frame_of, page_in, current_of, owed, SameFrames}
use Rattle.hg_pool.specs.declared.parts.Parts.{Parts}

-- No frame is out: no pin is, and no page was handed out.
pub record NoneOut (s : Space) : Type 0 where
  pub no_pins : NoPins s
  pub none_lent : (q : ℕ) → s.of_heap q ≡ false

-- the space with so many frames in use, and all else as it is
abbrev pub with_current : Space → ℕ → Space
with_current s n = record s { heaps = record s.heaps { current = n } }

-- how often each device was asked after the page of each frame from `first` on and below `end` was written to it, once
-- where that is owed
abbrev pub with_writes : Calls → (ℕ → Option File) → ℕ → ℕ → Calls
with_writes n owed first zero = n
with_writes n owed first (suc f) = if nat_lt f first then n else with_write (with_writes n owed first f) (owed f)

-- the pool's own count of these writes
abbrev pub with_calls : ℕ → (ℕ → Option File) → ℕ → ℕ → ℕ
with_calls n owed first zero = n
with_calls n owed first (suc f) = if nat_lt f first then n else with_call (with_calls n owed first f) (owed f)

module _ {M T : Type 0} where
  -- The pages of the frames from `first` on and below `end` were written, each once where that was owed. Nothing else
  -- was asked of the devices, and just that was counted.
  pub record Writes (m : Ghosts M) (t : Ghosts T) (a b : Parts M T) (first end : ℕ) : Type 0 where
    pub calls : calls_in (disks_of m t b) ≡ with_writes (calls_in (disks_of m t a)) (owed a) first end
    pub reads : b.store.counts.reads ≡ a.store.counts.reads
    pub writes : b.store.counts.writes ≡ with_calls a.store.counts.writes (owed a) first end

  -- Each page that was in a frame below n is in it, and owes its device what it owed. No other page is in a frame, and
  -- the frames from n on have none.
  pub record KeepsBelow (a b : Parts M T) (n : ℕ) : Type 0 where
    pub stay : (q : PageId) → in_frame a q ≡ true → frame_of a q < n → (in_frame b q ≡ true) × (frame_of b q ≡ frame_of a q)
    pub gone : (q : PageId) → in_frame a q ≡ true → n ≤ frame_of a q → in_frame b q ≡ false
    pub none_came : (q : PageId) → in_frame a q ≡ false → in_frame b q ≡ false
    pub frames : (g : ℕ) → g < n → page_in b g ≡ page_in a g
    pub owing : (g : ℕ) → g < n → owed b g ≡ owed a g
    pub empty : (g : ℕ) → n ≤ g → page_in b g ≡ None

  -- The write of the page of a frame that was to go failed: each page is in the frame that it was in, those too that
  -- were written before it, and each other one owes its device what it owed.
  pub record StaysWhole (m : Ghosts M) (t : Ghosts T) (a b : Parts M T) (n : ℕ) (fault : PageFault) : Type 0 where
    pub frame : ℕ
    pub was_to_go : n ≤ frame
    pub in_use : frame < current_of a
    pub fails : IsFaultOf (owed a frame) fault
    pub asked : Writes m t a b n (suc frame)
    pub frames : SameFrames a b
    pub written : (g : ℕ) → n ≤ g → g < frame → owed b g ≡ None
    pub owing : (g : ℕ) → (g < n) ⊎ (frame ≤ g) → owed b g ≡ owed a g

  -- the pages of the frames from `first` on and below `end` are on their devices as they are
  pub record Cleaned (m : Ghosts M) (t : Ghosts T) (a b : Parts M T) (first end : ℕ) : Type 0 where
    pub passes : PassesParts {X = Unit {0}} m t a b (Ok tt)
    pub clears : Clears a.store b.store
    pub clock : b.store.clock ≡ a.store.clock
    pub asked : Writes m t a b first end
    pub evictions : b.store.counts.evictions ≡ a.store.counts.evictions
    pub frames : SameFrames a b
    pub done : (g : ℕ) → first ≤ g → g < end → IsClean (frame_at b.store.frames.items g)
    pub others : (g : ℕ) → (g < first) ⊎ (end ≤ g) → frame_at b.store.frames.items g ≡ frame_at a.store.frames.items g
