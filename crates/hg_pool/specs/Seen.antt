-- The frames of a pool as contracts see them: which page stands in each, and its bytes. Our own rule.
use Rattle.std.specs.Prelude.{◌≡◌, ℕ, suc, ◌<◌, ◌≤◌, ◌||◌, ◌^◌, Bool, true, false, not, List, [], ◌∷◌, length, Option, None, if◌then◌else◌, slice_index_or, vec_capacity}
use Rattle.hg_base.specs.declared.PageId.{PageId}
use Rattle.hg_raw.specs.Frames.{RegionId, RegionSeen, ChainSeen, numbers, is_in, bytes_of, is_home, home_bytes}
use Rattle.hg_pool.specs.declared.frames.Mark.{Mark}
use Rattle.hg_pool.specs.declared.frames.Frames.TheInside.{Inside}

-- A frame: the bytes of a page, which page it is, whether its bytes are newer than those on its device, whether a pin
-- holds it, and whether it was handed out. A frame of no page has any bytes, and one that was handed out has none here.
pub record Frame : Type 0 where
  pub bytes : List ℕ
  pub page : Option PageId
  pub dirty : Bool
  pub pinned : Bool
  pub lent : Bool

-- the frames in use, how many there may be, and the region of memory that they are of
pub record FramesSeen : Type 0 where
  pub items : List Frame
  pub max : ℕ
  pub region : RegionId

-- the mark of a frame that is not in use
abbrev pub no_mark : Mark
no_mark = record { page = None; dirty = false; pinned = false; lent = false }

abbrev pub mark_at : List Mark → ℕ → Mark
mark_at marks f = slice_index_or marks f no_mark

-- A pinned frame is in the pool's own chain, one that was handed out is in another one, and each other is at home.
abbrev pub bytes_at : RegionSeen → ChainSeen → ℕ → Mark → List ℕ
bytes_at region out f m = if m.pinned then bytes_of out.frames f else (if m.lent then [] else home_bytes region f)

abbrev pub frame_seen : RegionSeen → ChainSeen → ℕ → Mark → Frame
frame_seen region out f m = record { bytes = bytes_at region out f m; page = m.page; dirty = m.dirty; pinned = m.pinned; lent = m.lent }

-- the frames from k on
abbrev pub seen_from : RegionSeen → ChainSeen → ℕ → List Mark → List Frame
seen_from region out k [] = []
seen_from region out k (m ∷ ms) = frame_seen region out k m ∷ seen_from region out (suc k) ms

abbrev pub frames_seen : Inside → FramesSeen
frames_seen i = record { items = seen_from i.region i.out 0 i.marks.items; max = i.region.region.frames; region = i.region.region }

-- a frame that is not at home
abbrev pub is_away : Mark → Bool
is_away m = m.pinned || m.lent

pub record IsFrames (i : Inside) : Type 0 where
  pub same : i.out.region ≡ i.region.region
  pub few : i.region.region.frames < 2 ^ 32
  pub inside : length i.marks.items ≤ i.region.region.frames
  pub room : i.region.region.frames ≤ vec_capacity i.marks
  pub out : (f : ℕ) → is_in f (numbers i.out.frames) ≡ (mark_at i.marks.items f).pinned
  pub home : (f : ℕ) → f < i.region.region.frames → is_home i.region f ≡ not (is_away (mark_at i.marks.items f))
  pub apart : (f : ℕ) → (mark_at i.marks.items f).pinned ≡ true → (mark_at i.marks.items f).lent ≡ false
  pub whole : (f : ℕ) → is_home i.region f ≡ true → length (home_bytes i.region f) ≡ 4096
  pub pinned_whole : (f : ℕ) → (mark_at i.marks.items f).pinned ≡ true → length (bytes_of i.out.frames f) ≡ 4096
