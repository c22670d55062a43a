-- What a pool comes down to, as functions of the key of a page and of the number of a frame, and the
-- space that it shows. Our own rule.
use Rattle.std.specs.Prelude.{ℕ, ◌==◌, ◌&&◌, ◌||◌, not, Bool, false, List, [], length, Option, None, Some, if◌then◌else◌, slice_index_or, vec_capacity}
use Rattle.hg_base.specs.Content.{Heaps}
use Rattle.hg_base.specs.Space.{Space, Counts, key}
use Rattle.hg_base.specs.declared.File.{File}
use Rattle.hg_base.specs.declared.File.TheVariants.{Main, Temp}
use Rattle.hg_base.specs.declared.PageId.{PageId}
use Rattle.hg_space.specs.Shown.{pages_of}
use Rattle.hg_pool.specs.Files.{by_key}
use Rattle.hg_pool.specs.Disks.{Disks, all_told, page_on, pages_in}
use Rattle.hg_pool.specs.Seen.{Frame}
use Rattle.hg_pool.specs.declared.places.Places.{Places}
use Rattle.hg_pool.specs.declared.maps.Maps.{Maps}
use Rattle.hg_pool.specs.declared.store.Store.{Store}

-- the frame that is not there
abbrev pub no_frame : Frame
no_frame = record { bytes = []; page = None; dirty = false; pinned = false; lent = false }

abbrev pub frame_at : List Frame → ℕ → Frame
frame_at frames f = slice_index_or frames f no_frame

-- the frame in which the page with that key may be
abbrev pub place_at : Places → ℕ → ℕ
place_at places = by_key (λ n. slice_index_or places.main.items n 0) (λ n. slice_index_or places.temp.items n 0)

-- how many pages of a file have a place of their own, and for how many there is room
abbrev pub places_in : Places → File → ℕ
places_in s Main = length s.main.items
places_in s Temp = length s.temp.items

abbrev pub room_in : Places → File → ℕ
room_in s Main = vec_capacity s.main
room_in s Temp = vec_capacity s.temp

abbrev pub taken_at : Maps → ℕ → Bool
taken_at maps = by_key (pages_of maps.main).used (pages_of maps.temp).used

abbrev pub next_at : Maps → ℕ → Option ℕ
next_at maps = by_key (pages_of maps.main).next (pages_of maps.temp).next

abbrev pub limit_of : Maps → File → ℕ
limit_of maps Main = (pages_of maps.main).limit
limit_of maps Temp = (pages_of maps.temp).limit

pub record Picture : Type 0 where
  pub told : Bool
  pub limit : File → ℕ
  pub device_limit : File → ℕ
  pub taken : ℕ → Bool
  pub next : ℕ → Option ℕ
  pub frame : ℕ → Frame
  pub place : ℕ → ℕ
  -- what stands on the devices
  pub page : ℕ → List ℕ
  pub pins : ℕ
  -- how many frames are in use
  pub current : ℕ
  pub most : ℕ
  pub counts : Counts

-- whether this is the page with that key
abbrev pub is_key_of : ℕ → Option PageId → Bool
is_key_of q None = false
is_key_of q (Some page) = key page == q

-- the page is in a frame: in the one where it may be
abbrev pub is_in : (ℕ → Frame) → (ℕ → ℕ) → ℕ → Bool
is_in frame place q = is_key_of q (frame (place q)).page

abbrev pub is_pinned : (ℕ → Frame) → (ℕ → ℕ) → ℕ → Bool
is_pinned frame place q = is_in frame place q && (frame (place q)).pinned

abbrev pub is_lent : (ℕ → Frame) → (ℕ → ℕ) → ℕ → Bool
is_lent frame place q = is_in frame place q && (frame (place q)).lent

-- what a page holds: its frame's bytes, or what stands on its device
abbrev pub held_in : (ℕ → Frame) → (ℕ → ℕ) → (ℕ → List ℕ) → ℕ → List ℕ
held_in frame place page q = if is_in frame place q then (frame (place q)).bytes else page q

-- the bytes of a page that was not handed out are told where it is taken, and pinned or the devices tell
abbrev pub tells : Picture → ℕ → Bool
tells v q = (v.told || is_pinned v.frame v.place q) && not (is_lent v.frame v.place q)

abbrev pub bytes_told : Picture → ℕ → Option (List ℕ)
bytes_told v q = if v.taken q && tells v q then Some (held_in v.frame v.place v.page q) else None

-- no heaps, and the numbers of a pool that has none: so many frames in use, and so many reserved
abbrev pub no_heaps : (current most : ℕ) → Heaps
no_heaps current most = record { heap = λ _. None; current = current; most = most; cap = λ _. 65536; peak = λ _. 0 }

abbrev pub shown : Picture → Space
shown v = record {
  told = v.told;
  limit = v.limit;
  device_limit = v.device_limit;
  taken = v.taken;
  bytes = bytes_told v;
  pinned = is_pinned v.frame v.place;
  pins = v.pins;
  next = v.next;
  of_heap = is_lent v.frame v.place;
  heaps = no_heaps v.current v.most;
  counts = v.counts;
}

abbrev pub counts_of : Disks → Store → Counts
counts_of d s = record {
  main_device = d.main.faults;
  temp_device = d.temp.faults;
  main = s.answers.main;
  temp = s.answers.temp;
  main_full = s.answers.main_full;
  temp_full = s.answers.temp_full;
}

abbrev pub picture_of : Disks → Store → Picture
picture_of d s = record {
  told = all_told d;
  limit = limit_of s.maps;
  device_limit = pages_in d;
  taken = taken_at s.maps;
  next = next_at s.maps;
  frame = frame_at s.frames.items;
  place = place_at s.places;
  page = page_on d;
  pins = s.pins;
  current = length s.frames.items;
  most = s.frames.max;
  counts = counts_of d s;
}
