-- A step of a pool that changes nothing of what it shows but counts, or fails by a device. Our own rule.
use Rattle.std.specs.Prelude.{◌≡◌, ℕ, ◌+◌, ◌<◌, ◌≤◌, false, length, None, Some, Result, IfErr}
use Rattle.hg_io.specs.declared.device.PageDevice.{Ghosts}
use Rattle.hg_base.specs.Space.{IsSame}
use Rattle.hg_base.specs.Causes.{Later, PinFault, counts_after, fault_of}
use Rattle.hg_base.specs.declared.PageId.{PageId}
use Rattle.hg_base.specs.declared.pages.PageFault.{PageFault}
use Rattle.hg_pool.specs.Disks.{Disks}
use Rattle.hg_pool.specs.Picture.{shown, picture_of, counts_of, frame_at}
use Rattle.hg_pool.specs.Sound.{IsSound}
use Rattle.hg_pool.specs.Keeping.{is_inside, SameStock}
use Rattle.hg_pool.specs.Shown.{disks_of}
use Rattle.hg_pool.specs.Seen.{Frame}
use Rattle.hg_pool.specs.declared.store.Answers.{Answers}
use Rattle.hg_pool.specs.declared.store.Store.{Store}
use Rattle.hg_pool.specs.declared.parts.Parts.{Parts}

pub record Passes {X : Type 0} (d : Disks) (s : Store) (e : Disks) (z : Store) (r : Result X PageFault) : Type 0 where
  pub whole : IsSound e z
  pub same : IsSame (shown (picture_of d s)) (shown (picture_of e z))
  pub later : Later (counts_of d s) (counts_of e z)
  pub counts : counts_of e z ≡ counts_after (counts_of d s) (fault_of r)
  pub fault : IfErr r PinFault
  pub stock : SameStock s z

-- the same of the parts of a pool
abbrev pub PassesParts : {M T X : Type 0} → Ghosts M → Ghosts T → Parts M T → Parts M T → Result X PageFault → Type 0
PassesParts m t a b r = Passes (disks_of m t a) a.store (disks_of m t b) b.store r

-- no answer's count fell
pub record LaterAnswers (a b : Answers) : Type 0 where
  pub main : a.main ≤ b.main
  pub temp : a.temp ≤ b.temp
  pub main_full : a.main_full ≤ b.main_full
  pub temp_full : a.temp_full ≤ b.temp_full

-- frames were cleared at most: no page came into one, and no page was read
pub record Clears (s z : Store) : Type 0 where
  pub maps : z.maps ≡ s.maps
  pub places : z.places ≡ s.places
  pub pins : z.pins ≡ s.pins
  pub frames : length z.frames.items ≡ length s.frames.items
  pub out : (q : ℕ) → is_inside s q ≡ false → is_inside z q ≡ false
  pub reads : z.counts.reads ≡ s.counts.reads

-- a frame whose bytes are on its device, if it has a page
abbrev pub IsClean : Frame → Type 0
IsClean x = (p : PageId) → x.page ≡ Some p → x.dirty ≡ false

-- a frame of no page, which is not out
pub record IsRoom (s : Store) (f : ℕ) : Type 0 where
  pub there : f < length s.frames.items
  pub none : (frame_at s.frames.items f).page ≡ None
  pub free : (frame_at s.frames.items f).pinned ≡ false
  pub home : (frame_at s.frames.items f).lent ≡ false

-- no frame has a page
abbrev pub AreEmpty : Store → Type 0
AreEmpty s = (f : ℕ) → (frame_at s.frames.items f).page ≡ None

-- not all frames are out
abbrev pub HasRoom : Store → Type 0
HasRoom s = s.pins + s.lent < length s.frames.items
