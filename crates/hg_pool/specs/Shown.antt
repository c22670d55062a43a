-- What contracts see of a pool: its devices and what it keeps of them.
use Rattle.std.specs.Prelude.{◌≡◌, ◌≢◌, ℕ, Bool, true, false, Option, None, Some, length, ◌⊎◌}
use Rattle.hg_io.specs.declared.device.PageDevice.{Ghosts}
use Rattle.hg_base.specs.Causes.{device_fault}
use Rattle.hg_base.specs.Space.{Space, key}
use Rattle.hg_base.specs.declared.File.{File}
use Rattle.hg_base.specs.declared.pages.PageFault.{PageFault}
use Rattle.hg_base.specs.declared.PageId.{PageId}
use Rattle.hg_pool.specs.Disks.{Disks, disks_in}
use Rattle.hg_pool.specs.Picture.{shown, picture_of, is_in, frame_at, place_at}
use Rattle.hg_clock.specs.Clock.{ClockState, Takes}
use Rattle.hg_pool.specs.Keeping.{SameStock}
use Rattle.hg_pool.specs.Sound.{IsSound}
use Rattle.hg_pool.specs.Work.{Asks, owed_of, evicted, IsFaultOf}
use Rattle.hg_pool.specs.declared.PoolCounts.{PoolCounts}
use Rattle.hg_pool.specs.declared.parts.Parts.{Parts}

module _ {M T : Type 0} where
  abbrev pub main_device : Parts M T → M
  main_device s = s.devices.main

  abbrev pub temp_device : Parts M T → T
  temp_device s = s.devices.temp

  abbrev pub disks_of : Ghosts M → Ghosts T → Parts M T → Disks
  disks_of m t s = disks_in m t s.devices

  -- the space that a pool is
  abbrev pub state_of : Ghosts M → Ghosts T → Parts M T → Space
  state_of m t s = shown (picture_of (disks_of m t s) s.store)

  -- what holds of every pool
  abbrev pub IsWhole : Ghosts M → Ghosts T → Parts M T → Type 0
  IsWhole m t s = IsSound (disks_of m t s) s.store

  -- the page is in a frame
  abbrev pub in_frame : Parts M T → PageId → Bool
  in_frame s page = is_in (frame_at s.store.frames.items) (place_at s.store.places) (key page)

  -- the frame of a page that is in one
  abbrev pub frame_of : Parts M T → PageId → ℕ
  frame_of s page = place_at s.store.places (key page)

  -- the page of a frame, if it has one
  abbrev pub page_in : Parts M T → ℕ → Option PageId
  page_in s f = (frame_at s.store.frames.items f).page

  -- how many frames are in use
  abbrev pub current_of : Parts M T → ℕ
  current_of s = length s.store.frames.items

  abbrev pub counts_of_pool : Parts M T → PoolCounts
  counts_of_pool s = s.store.counts

  -- the clock over the frames
  abbrev pub clock_of : Parts M T → ClockState
  clock_of s = s.store.clock

  -- how many frames are reserved
  abbrev pub max_of : Parts M T → ℕ
  max_of s = s.store.frames.max

  -- the same frames are reserved, and as many are handed out
  abbrev pub SameStockOf : Parts M T → Parts M T → Type 0
  SameStockOf a b = SameStock a.store b.store

  -- the file to which the page of a frame is written before it leaves the frame: none where its bytes are those on its
  -- device
  abbrev pub owed : Parts M T → ℕ → Option File
  owed s f = owed_of (frame_at s.store.frames.items f)

  -- each frame owes its device what it owed: no page became one that has to be written, and none was written
  abbrev pub OwesSame : Parts M T → Parts M T → Type 0
  OwesSame a b = (g : ℕ) → owed b g ≡ owed a g

  -- no device was called: both are as they were
  pub record CalledNone (a b : Parts M T) : Type 0 where
    pub main : main_device b ≡ main_device a
    pub temp : temp_device b ≡ temp_device a

  -- each page is in the frame that it was in, and no page came in, so that each frame has the page that it had
  pub record SameFrames (a b : Parts M T) : Type 0 where
    pub stay : (q : PageId) → in_frame a q ≡ true → (in_frame b q ≡ true) × (frame_of b q ≡ frame_of a q)
    pub none_came : (q : PageId) → in_frame a q ≡ false → in_frame b q ≡ false
    pub frames : (g : ℕ) → page_in b g ≡ page_in a g

  -- the same of each page but this one; each other one owes its device what it owed
  pub record SameFramesBut (a b : Parts M T) (page : PageId) : Type 0 where
    pub stay : (q : PageId) → key q ≢ key page → in_frame a q ≡ true → (in_frame b q ≡ true) × (frame_of b q ≡ frame_of a q)
    pub none_came : (q : PageId) → key q ≢ key page → in_frame a q ≡ false → in_frame b q ≡ false
    pub frames : (g : ℕ) → page_in a g ≢ Some page → page_in b g ≡ page_in a g
    pub owing : (g : ℕ) → page_in a g ≢ Some page → owed b g ≡ owed a g

  -- each page that was in a frame other than f is in it, and no page came in, so that each other frame has the
  -- page that it had, and owes its device what it owed
  pub record KeepsFramesAll (a b : Parts M T) (f : ℕ) : Type 0 where
    pub stay : (q : PageId) → in_frame a q ≡ true → frame_of a q ≢ f → (in_frame b q ≡ true) × (frame_of b q ≡ frame_of a q)
    pub none_came : (q : PageId) → in_frame a q ≡ false → in_frame b q ≡ false
    pub frames : (g : ℕ) → g ≢ f → page_in b g ≡ page_in a g
    pub owing : (g : ℕ) → g ≢ f → owed b g ≡ owed a g

  -- the same of each page but this one
  pub record KeepsFrames (a b : Parts M T) (page : PageId) (f : ℕ) : Type 0 where
    pub stay : (q : PageId) → key q ≢ key page → in_frame a q ≡ true → frame_of a q ≢ f → (in_frame b q ≡ true) × (frame_of b q ≡ frame_of a q)
    pub none_came : (q : PageId) → key q ≢ key page → in_frame a q ≡ false → in_frame b q ≡ false
    pub frames : (g : ℕ) → g ≢ f → page_in b g ≡ page_in a g
    pub owing : (g : ℕ) → g ≢ f → owed b g ≡ owed a g

  -- a page of the first file was written, if there is one, and a page of the second one was read
  abbrev pub Asked : Ghosts M → Ghosts T → Parts M T → Parts M T → Option File → Option File → Type 0
  Asked m t a b written read = Asks (disks_of m t a) a.store.counts (disks_of m t b) b.store.counts written read

  -- The write of the page of the victim failed, so that the page did not leave its frame: each page is in the frame that
  -- it was in, and owes its device what it owed.
  pub record StaysIn (m : Ghosts M) (t : Ghosts T) (a b : Parts M T) (fault : PageFault) : Type 0 where
    pub frame : ℕ
    pub takes : Takes (current_of a) (clock_of a) frame (clock_of b)
    pub fails : IsFaultOf (owed a frame) fault
    pub asked : Asked m t a b (owed a frame) None
    pub frames : SameFrames a b
    pub owing : OwesSame a b
    pub evictions : b.store.counts.evictions ≡ a.store.counts.evictions

  -- The read of a page into the victim's frame failed: the page that was there had left it, after it was written where
  -- that was owed. Each other page is in the frame that it was in, and none came in.
  pub record Leaves (m : Ghosts M) (t : Ghosts T) (a b : Parts M T) (page : PageId) (fault : PageFault) : Type 0 where
    pub frame : ℕ
    pub takes : Takes (current_of a) (clock_of a) frame (clock_of b)
    pub fails : fault ≡ device_fault page.file
    pub asked : Asked m t a b (owed a frame) (Some page.file)
    pub empty : page_in b frame ≡ None
    pub frames : KeepsFramesAll a b frame
    pub evictions : b.store.counts.evictions ≡ evicted (page_in a frame) a.store.counts.evictions

  -- a pin fails in one of these two ways
  abbrev pub IsRefused : Ghosts M → Ghosts T → Parts M T → Parts M T → PageId → PageFault → Type 0
  IsRefused m t a b page fault = StaysIn m t a b fault ⊎ Leaves m t a b page fault

  -- no page is in a frame
  pub record NoneIn (s : Parts M T) : Type 0 where
    pub frames : (f : ℕ) → page_in s f ≡ None
    pub pages : (q : PageId) → in_frame s q ≡ false
