-- A page that is handed out with its frame, and put back. Our own rule.
use Rattle.std.specs.Prelude.{◌≡◌, ℕ, ◌+◌, ◌-◌, true, false, List, length, None, Some}
use Rattle.hg_io.specs.declared.device.PageDevice.{Ghosts}
use Rattle.hg_base.specs.Space.{Space, Counts, at, key, with_counts, unpinned_bytes}
use Rattle.hg_base.specs.declared.PageId.{PageId}
use Rattle.hg_raw.specs.Frames.{RegionId, ChainSeen, bytes_of}
use Rattle.hg_pool.specs.Disks.{page_on}
use Rattle.hg_pool.specs.Keeping.{IsJust}
use Rattle.hg_pool.specs.Shown.{state_of, disks_of, in_frame, frame_of, owed, max_of}
use Rattle.hg_pool.specs.declared.parts.Parts.{Parts}

-- the space after the page with that key was handed out: its bytes are not told
abbrev pub handed_out : Space → ℕ → Space
handed_out s p = record s { bytes = at s.bytes p None; of_heap = at s.of_heap p true }

-- the space after it was put back with these bytes
abbrev pub put_back : Space → ℕ → List ℕ → Space
put_back s p b = record s { bytes = at s.bytes p (unpinned_bytes s.told (Some b)); of_heap = at s.of_heap p false }

-- b is a after the page with that key was handed out with these bytes; where the space tells, it held them before
pub record IsHandedOut (a b : Space) (p : ℕ) (held : List ℕ) : Type 0 where
  pub size : length held ≡ 4096
  pub was : a.bytes p ≡ unpinned_bytes a.told (Some held)
  pub counts : Counts
  pub after : b ≡ with_counts (handed_out a p) counts

module _ {M T : Type 0} where
  -- the memory of all frames
  abbrev pub region_of : Parts M T → RegionId
  region_of s = s.store.frames.region

  -- how many frames are handed out
  abbrev pub lent_of : Parts M T → ℕ
  lent_of s = s.store.lent

  -- a chain of the frame of that page alone
  pub record IsChainOf (s : Parts M T) (page : PageId) (c : ChainSeen) : Type 0 where
    pub region : c.region ≡ region_of s
    pub just : IsJust c (frame_of s page)

  -- the bytes that it has
  abbrev pub bytes_in : Parts M T → PageId → ChainSeen → List ℕ
  bytes_in s page c = bytes_of c.frames (frame_of s page)

  -- Where the device need not be written before the page leaves its frame, and the devices tell, these are the bytes
  -- that stand there.
  abbrev pub IsAsOnDevice : Ghosts M → Ghosts T → Parts M T → PageId → List ℕ → Type 0
  IsAsOnDevice m t s page bytes = owed s (frame_of s page) ≡ None → (state_of m t s).told ≡ true → bytes ≡ page_on (disks_of m t s) (key page)

  -- one frame more is handed out, of the same frames
  pub record OneMoreOut (a b : Parts M T) : Type 0 where
    pub lent : lent_of b ≡ lent_of a + 1
    pub max : max_of b ≡ max_of a
    pub region : region_of b ≡ region_of a

  -- one frame less
  pub record OneLessOut (a b : Parts M T) : Type 0 where
    pub lent : lent_of b ≡ lent_of a - 1
    pub max : max_of b ≡ max_of a
    pub region : region_of b ≡ region_of a

  -- each page that is handed out stays in its frame
  abbrev pub KeepsOut : Ghosts M → Ghosts T → Parts M T → Parts M T → Type 0
  KeepsOut m t a b = (q : PageId) → (state_of m t a).of_heap (key q) ≡ true → (in_frame b q ≡ true) × (frame_of b q ≡ frame_of a q)
