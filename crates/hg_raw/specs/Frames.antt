-- Frames with their bytes, as contracts see them. Our own rules.
use Rattle.std.specs.Prelude.{ℕ, ◌<◌, Bool, true, false, not, ◌&&◌, ◌||◌, ◌==◌, if◌then◌else◌, IsTrue, List, [], ◌∷◌, ◌++◌, Option, None, Some, length, take, drop, slice_set, is_some, slice_index_or, replicate}
use denote.RawPtr.{Ptr}

-- a frame: its number and its bytes
abbrev pub Frame : Type 0
Frame = ℕ × List ℕ

-- which region a frame is of: where its link words and its frames begin, and how many frames it has
pub record RegionId : Type 0 where
  pub words : Ptr
  pub pages : Ptr
  pub frames : ℕ

-- a chain: its region, and its frames in their order
pub record ChainSeen : Type 0 where
  pub region : RegionId
  pub frames : List Frame

-- a region: which it is, and for each of its frames the bytes where it is at home
pub record RegionSeen : Type 0 where
  pub region : RegionId
  pub home : List (Option (List ℕ))

abbrev pub numbers : List Frame → List ℕ
numbers [] = []
numbers (f ∷ fs) = f.0 ∷ numbers fs

abbrev pub is_in : ℕ → List ℕ → Bool
is_in n [] = false
is_in n (m ∷ ms) = (m == n) || is_in n ms

-- no number stands twice
abbrev pub distinct : List ℕ → Bool
distinct [] = true
distinct (n ∷ ns) = not (is_in n ns) && distinct ns

-- no number of the first is in the second
abbrev pub apart : List ℕ → List ℕ → Bool
apart [] ms = true
apart (n ∷ ns) ms = not (is_in n ms) && apart ns ms

-- f is in the chain
abbrev pub Has : ChainSeen → ℕ → Type 0
Has c f = IsTrue (is_in f (numbers c.frames))

-- the bytes of frame n
abbrev pub bytes_of : List Frame → ℕ → List ℕ
bytes_of [] n = []
bytes_of (f ∷ fs) n = if f.0 == n then f.1 else bytes_of fs n

-- the others, in their order
abbrev pub without : List Frame → ℕ → List Frame
without [] n = []
without (f ∷ fs) n = if f.0 == n then fs else f ∷ without fs n

-- the numbers but n
abbrev pub minus : List ℕ → ℕ → List ℕ
minus [] n = []
minus (m ∷ ms) n = if m == n then ms else m ∷ minus ms n

abbrev pub with_bytes : List Frame → ℕ → List ℕ → List Frame
with_bytes [] n w = []
with_bytes (f ∷ fs) n w = if f.0 == n then (f.0, w) ∷ fs else f ∷ with_bytes fs n w

-- as many bytes as xs, from the front of ws: what is left behind a slice of xs where ws was written
abbrev pub refit : List ℕ → List ℕ → List ℕ
refit xs ws = take (length xs) (ws ++ drop (length ws) xs)

-- the chain with w written to frame n
abbrev pub with_page : ChainSeen → ℕ → List ℕ → ChainSeen
with_page c n w = record c { frames = with_bytes c.frames n (refit (bytes_of c.frames n) w) }

abbrev pub bytes_or_none : Option (List ℕ) → List ℕ
bytes_or_none None = []
bytes_or_none (Some bytes) = bytes

-- frame n is at home
abbrev pub is_home : RegionSeen → ℕ → Bool
is_home r n = is_some (slice_index_or r.home n None)

-- the bytes of frame n at home
abbrev pub home_bytes : RegionSeen → ℕ → List ℕ
home_bytes r n = bytes_or_none (slice_index_or r.home n None)

-- the region with frame n out, with frame n at home, and with all the frames of a chain at home
abbrev pub taken : RegionSeen → ℕ → RegionSeen
taken r n = record r { home = slice_set r.home n None }

abbrev pub put_home : List (Option (List ℕ)) → List Frame → List (Option (List ℕ))
put_home home [] = home
put_home home (f ∷ fs) = put_home (slice_set home f.0 (Some f.1)) fs

abbrev pub given_back : RegionSeen → List Frame → RegionSeen
given_back r fs = record r { home = put_home r.home fs }

-- n empty frames at home
abbrev pub fresh_home : ℕ → List (Option (List ℕ))
fresh_home n = replicate n (Some (replicate 4096 0))

-- every frame is at home
abbrev pub AllHome : RegionSeen → Type 0
AllHome r = (n : ℕ) → n < r.region.frames → IsTrue (is_home r n)
