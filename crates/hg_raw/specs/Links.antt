-- How chains and regions lie in memory, and what their flags say. Our own rules.
use Rattle.std.specs.Prelude.{◌≡◌, ℕ, zero, suc, ◌<◌, Bool, ◌==◌, true, if◌then◌else◌, List, [], ◌∷◌, ◌++◌, length, slice_set, replicate, map, Option, None, Some}
use Rattle.std.specs.Int.{to_le_bytes}
use Rattle.std.specs.List.{range_with_len}
use mir.Syntax.{w32}
use borrow.Rule.Slice.PartMut.{put_mid}
use Rattle.hg_raw.specs.Frames.{Frame, numbers, is_in, bytes_of, with_bytes}

-- The word of each frame of a chain holds the number of the frame before it, and then that of the one behind it. `nil` stands
-- where there is none.
abbrev pub nil : ℕ
nil = 4294967295

abbrev pub first_of : List ℕ → ℕ
first_of [] = nil
first_of (n ∷ ns) = n

abbrev pub last_of : List ℕ → ℕ
last_of [] = nil
last_of (n ∷ []) = n
last_of (n ∷ m ∷ ns) = last_of (m ∷ ns)

abbrev pub half : ℕ → List ℕ
half n = to_le_bytes w32 n

abbrev pub word : ℕ → ℕ → List ℕ
word previous next = half previous ++ half next

-- the words of frames before which p stands
abbrev pub linked : ℕ → List ℕ → List Frame
linked p [] = []
linked p (n ∷ ns) = (n, word p (first_of ns)) ∷ linked n ns

-- the words with `to` in that of frame n, in the half that begins at its byte `at`
abbrev pub relinked : List Frame → ℕ → ℕ → ℕ → List Frame
relinked fs n at to = with_bytes fs n (put_mid at 4 (bytes_of fs n) (half to))

-- from n on
abbrev pub from : ℕ → List ℕ → List ℕ
from n [] = []
from n (m ∷ ms) = if m == n then m ∷ ms else from n ms

-- behind n
abbrev pub behind : ℕ → List ℕ → List ℕ
behind n [] = []
behind n (m ∷ ms) = if m == n then ms else behind n ms

-- the one before n, or p where n is the first
abbrev pub before : ℕ → List ℕ → ℕ → ℕ
before p [] n = nil
before p (m ∷ ms) n = if m == n then p else before m ms n

-- each part has s bytes
abbrev pub Sized : ℕ → List Frame → Type 0
Sized s [] = Unit {0}
Sized s (f ∷ fs) = (length f.1 ≡ s) × Sized s fs

abbrev pub Below : ℕ → List ℕ → Type 0
Below n [] = Unit {0}
Below n (m ∷ ms) = (m < n) × Below n ms

-- parts 0 to n - 1, of s zero bytes each
abbrev pub zeros : ℕ → ℕ → List Frame
zeros s zero = []
zeros s (suc n) = (n, replicate s 0) ∷ zeros s n

-- the numbers n - 1 to 0
abbrev pub down : ℕ → List ℕ
down zero = []
down (suc n) = n ∷ down n

-- parts that were never written to read as s zero bytes each
abbrev pub blanks : ℕ → List ℕ → List Frame
blanks s [] = []
blanks s (n ∷ ns) = (n, replicate s 0) ∷ blanks s ns

-- what is at home, by number
abbrev pub home_of : List Frame → ℕ → Option (List ℕ)
home_of fs n = if is_in n (numbers fs) then Some (bytes_of fs n) else None

abbrev pub at_home : List Frame → ℕ → List (Option (List ℕ))
at_home fs n = map (home_of fs) (range_with_len 0 n)

abbrev pub flags : List ℕ → ℕ → List Bool
flags ns n = map (λ k. is_in k ns) (range_with_len 0 n)

abbrev pub marked : List Bool → List ℕ → List Bool
marked flags [] = flags
marked flags (n ∷ ns) = marked (slice_set flags n true) ns
