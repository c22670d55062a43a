-- What holds of every pool. Our own rule.
use Rattle.std.specs.Prelude.{◌≡◌, ◌≢◌, ℕ, ◌+◌, ◌<◌, ◌≤◌, true, false, List, length, None, Some, sum_by, if◌then◌else◌}
use Rattle.hg_base.specs.Space.{key, key_in}
use Rattle.hg_base.specs.declared.File.{File}
use Rattle.hg_base.specs.declared.PageId.{PageId}
use Rattle.hg_space.specs.Shown.{pages_of}
use Rattle.hg_space.specs.PageMap as map
use Rattle.hg_pool.specs.Disks.{Disks}
use Rattle.hg_pool.specs.Picture.{Picture, picture_of, taken_at, limit_of, places_in, room_in}
use Rattle.hg_pool.specs.Seen.{Frame}
use Rattle.hg_pool.specs.Clocking.{IsRunning}
use Rattle.hg_pool.specs.declared.maps.Maps.{Maps}
use Rattle.hg_pool.specs.declared.store.Store.{Store}

-- The page that stands in the frame f, which is x, is found there, and it is taken. Unless the frame was handed out, a
-- whole page of bytes stands there, and these are the bytes on its device unless they are newer.
pub record Fits (v : Picture) (f : ℕ) (x : Frame) : Type 0 where
  pub found : (p : PageId) → x.page ≡ Some p → v.place (key p) ≡ f
  pub taken : (p : PageId) → x.page ≡ Some p → v.taken (key p) ≡ true
  pub whole : (p : PageId) → x.page ≡ Some p → x.lent ≡ false → length x.bytes ≡ 4096
  pub clean : (p : PageId) → x.page ≡ Some p → x.dirty ≡ false → x.lent ≡ false → v.told ≡ true → x.bytes ≡ v.page (key p)
  -- a pinned frame was not handed out, and one that was has a page
  pub apart : x.pinned ≡ true → x.lent ≡ false
  pub paged : x.lent ≡ true → x.page ≢ None

abbrev pub IsCoherent : Picture → Type 0
IsCoherent v = (f : ℕ) → Fits v f (v.frame f)

-- so many frames are pinned
abbrev pub pins_of : Frame → ℕ
pins_of x = if x.pinned then 1 else 0

abbrev pub pinned_in : List Frame → ℕ
pinned_in frames = sum_by pins_of frames

-- so many frames were handed out
abbrev pub lent_by : Frame → ℕ
lent_by x = if x.lent then 1 else 0

abbrev pub lent_in : List Frame → ℕ
lent_in frames = sum_by lent_by frames

-- what holds of the maps of both files
pub record AreSound (m : Maps) : Type 0 where
  pub main : map.IsSound (pages_of m.main)
  pub temp : map.IsSound (pages_of m.temp)

-- what holds of what a pool keeps, apart from its devices
pub record IsShaped (s : Store) : Type 0 where
  pub counted : pinned_in s.frames.items ≡ s.pins
  pub few : s.pins ≤ 8
  pub lent_counted : lent_in s.frames.items ≡ s.lent
  -- so many are left for pins
  pub lent_fits : s.lent + 8 ≤ length s.frames.items
  pub at_least : 16 ≤ length s.frames.items
  pub at_most : length s.frames.items ≤ 65536
  pub clock : IsRunning s.frames s.clock
  pub maps : AreSound s.maps
  -- each page that is taken has a place, and there is room for one of each page
  pub placed : (file : File) (n : ℕ) → taken_at s.maps (key_in file n) ≡ true → n < places_in s.places file
  pub room : (file : File) → limit_of s.maps file ≤ room_in s.places file

pub record IsSound (d : Disks) (s : Store) : Type 0 where
  pub coherent : IsCoherent (picture_of d s)
  pub shape : IsShaped s
  pub main_fits : (pages_of s.maps.main).limit ≤ d.main.pages
  pub temp_fits : (pages_of s.maps.temp).limit ≤ d.temp.pages
