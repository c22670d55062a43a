-- What the calls on the parts of a pool leave of them. Our own rule.
use Rattle.std.specs.Prelude.{◌≡◌, ℕ, ◌<◌, ◌≤◌, Bool, true, false, List, [], ◌∷◌, length, Option, None, Some, slice_set, ◌||◌}
use Rattle.std.specs.Vec.{with_item}
use Rattle.hg_base.specs.Space.{at, key, key_in, zero_page}
use Rattle.hg_base.specs.declared.File.{File}
use Rattle.hg_base.specs.declared.File.TheVariants.{Main, Temp}
use Rattle.hg_base.specs.declared.PageId.{PageId}
use Rattle.hg_pool.specs.Picture.{frame_at, place_at, places_in, room_in, taken_at, next_at, limit_of, is_in}
use Rattle.hg_pool.specs.Sound.{AreSound}
use Rattle.hg_pool.specs.Seen.{Frame, FramesSeen}
use Rattle.hg_pool.specs.Clocking.{is_busy}
use Rattle.hg_base.specs.Lending.{refit}
use Rattle.hg_raw.specs.Frames.{ChainSeen, bytes_of}
use Rattle.hg_pool.specs.declared.places.Places.{Places}
use Rattle.hg_pool.specs.declared.maps.Maps.{Maps}
use Rattle.hg_pool.specs.declared.store.Answers.{Answers}
use Rattle.hg_pool.specs.declared.store.Store.{Store}
use Rattle.hg_base.specs.Count.{raised}
use Rattle.hg_base.specs.declared.pages.PageFault.{PageFault}
use Rattle.hg_base.specs.declared.pages.PageFault.TheVariants as fault

abbrev pub with_place_in : Places → File → ℕ → ℕ → Places
with_place_in s Main n f = record s { main = with_item s.main n f }
with_place_in s Temp n f = record s { temp = with_item s.temp n f }

-- the page was brought into the frame f last
abbrev pub with_place : Places → PageId → ℕ → Places
with_place s page f = with_place_in s page.file page.no f

-- each page has the place that it had, and this one has a place of its own
pub record Widened (a b : Places) (page : PageId) : Type 0 where
  pub same : place_at b ≡ place_at a
  pub there : page.no < places_in b page.file
  pub wider : (file : File) → places_in a file ≤ places_in b file
  pub room : (file : File) → room_in b file ≡ room_in a file

-- maps that have these pages taken and these successors, of as many pages as before
pub record MapsAfter (a b : Maps) (pages : ℕ → Bool) (links : ℕ → Option ℕ) : Type 0 where
  pub taken : taken_at b ≡ pages
  pub next : next_at b ≡ links
  pub limit : limit_of b ≡ limit_of a
  pub sound : AreSound a → AreSound b

-- all pages of a file are taken
abbrev pub IsFullIn : Maps → File → Type 0
IsFullIn m file = (n : ℕ) → n < limit_of m file → taken_at m (key_in file n) ≡ true

-- the lowest page of a file that was not taken is
pub record TakesLowest (file : File) (a b : Maps) (n : ℕ) : Type 0 where
  pub below : n < limit_of a file
  pub free : taken_at a (key_in file n) ≡ false
  pub lower : (k : ℕ) → k < n → taken_at a (key_in file k) ≡ true
  pub after : MapsAfter a b (at (taken_at a) (key_in file n) true) (at (next_at a) (key_in file n) None)

-- the page is in the frame f
pub record IsFoundAt (s : Store) (page : PageId) (f : ℕ) : Type 0 where
  pub place : f ≡ place_at s.places (key page)
  pub there : f < length s.frames.items
  pub holds : (frame_at s.frames.items f).page ≡ Some page

-- whether a page is in a frame of the store
abbrev pub is_inside : Store → ℕ → Bool
is_inside s = is_in (frame_at s.frames.items) (place_at s.places)

-- the frames with x in place of the frame f
abbrev pub set_item : FramesSeen → ℕ → Frame → FramesSeen
set_item s f x = record s { items = slice_set s.items f x }

-- a frame with these bytes, which are newer than those on its device
abbrev pub written : Frame → List ℕ → Frame
written x w = record x { bytes = refit x.bytes w; dirty = true }

abbrev pub write_item : FramesSeen → ℕ → List ℕ → FramesSeen
write_item s f w = set_item s f (written (frame_at s.items f) w)

-- the same frames are reserved, and as many are handed out
pub record SameStock (a b : Store) : Type 0 where
  pub lent : b.lent ≡ a.lent
  pub max : b.frames.max ≡ a.frames.max
  pub region : b.frames.region ≡ a.frames.region

-- s with x in the frame f
abbrev pub with_frame : Store → ℕ → Frame → Store
with_frame s f x = record s { frames = set_item s.frames f x }

-- a frame with a new page, which a pin holds
abbrev pub new_frame : PageId → Frame
new_frame page = record { bytes = zero_page; page = Some page; dirty = true; pinned = true; lent = false }

-- a frame that was handed out with its bytes
abbrev pub lent_frame : Frame → Frame
lent_frame x = record x { bytes = []; lent = true }

-- and put back, with these bytes: it is dirty where it is said to be or was
abbrev pub put_frame : Frame → List ℕ → Bool → Frame
put_frame x w dirty = record x { bytes = w; lent = false; dirty = dirty || x.dirty }

-- a chain of this frame alone
abbrev pub IsJust : ChainSeen → ℕ → Type 0
IsJust c f = c.frames ≡ (f, bytes_of c.frames f) ∷ []

-- so many frames of no page, none of them out
pub record AreEmpty (frames : List Frame) (n : ℕ) : Type 0 where
  pub count : length frames ≡ n
  pub none : (f : ℕ) → (frame_at frames f).page ≡ None
  pub pinned : (f : ℕ) → (frame_at frames f).pinned ≡ false
  pub lent : (f : ℕ) → (frame_at frames f).lent ≡ false

-- Other frames are in use, n of them: those that were stay as they are, and those that come in have no page.
pub record Resizes (a b : FramesSeen) (n : ℕ) : Type 0 where
  pub count : length b.items ≡ n
  pub kept : (f : ℕ) → f < n → f < length a.items → frame_at b.items f ≡ frame_at a.items f
  pub none : (f : ℕ) → length a.items ≤ f → (frame_at b.items f).page ≡ None
  pub free : (f : ℕ) → length a.items ≤ f → is_busy (frame_at b.items f) ≡ false
  pub max : b.max ≡ a.max
  pub region : b.region ≡ a.region

-- an answer was counted
abbrev pub counted : Answers → PageFault → Answers
counted a fault.MainFault = record a { main = raised a.main 1 }
counted a fault.TempFault = record a { temp = raised a.temp 1 }
counted a fault.MainFull = record a { main_full = raised a.main_full 1 }
counted a fault.TempFull = record a { temp_full = raised a.temp_full 1 }
counted a (fault.Damaged page check) = a
