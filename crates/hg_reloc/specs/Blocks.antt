-- A heap's page as a reader finds it: the bytes of its objects, one behind the other, whatever the
-- frames and the other pages of the heap are. Our own format, the one that `HeapPage` of `hg_base` has.
--
--   0      2     4       8       16      48       64                              end         4,096
--   | 'H' | end | frame | zeros | roots | zeros  | object | object | .. | object |    free     |
--
-- Numbers have the least byte first. Bytes that have no meaning (byte 1, those from 8 to 16, from 48 to
-- 64 and behind the end, bytes 3 to 8 of an object, and those behind its payload) are zero; a page where
-- one of them is not is read all the same.
use Rattle.std.specs.Prelude.{◌≡◌, ℕ, ◌+◌, ◌*◌, ◌/◌, ◌%◌, ◌<◌, ◌≤◌, ◌==◌, ◌⊎◌, zero, suc, List, [], ◌∷◌, ◌++◌, length, take, drop, slice_index, if◌then◌else◌}
use Rattle.std.specs.List.{AllByRecursion, flat_map, concat}
use Rattle.std.specs.Int.{w16, w32, w64, from_le_bytes, to_le_bytes}
use Rattle.hg_reloc.specs.Moves.{Moves, moved_word}

-- the numbers that the first two, four and eight bytes spell
unfoldable pub number : List ℕ → ℕ
number xs = from_le_bytes w16 (take 2 xs)

unfoldable pub frame_number : List ℕ → ℕ
frame_number xs = from_le_bytes w32 (take 4 xs)

unfoldable pub word : List ℕ → ℕ
word xs = from_le_bytes w64 (take 8 xs)

-- the first n words of some bytes
abbrev pub words : ℕ → List ℕ → List ℕ
words zero xs = []
words (suc n) xs = word xs ∷ words n (drop 8 xs)

-- the bytes that an object takes whose payload has so many: 16 of head, the payload, and zeros up to a
-- multiple of 16
abbrev pub size_for : ℕ → ℕ
size_for payload = 16 + 16 * ((payload + 15) / 16)

-- an object's kind, 1 a row and 2 a directory
abbrev pub kind : List ℕ → ℕ
kind b = slice_index b 2

abbrev pub IsKind : ℕ → Type 0
IsKind k = (k ≡ 1) ⊎ (k ≡ 2)

-- A payload of a row has 1 to 3,920 bytes, one of a directory eight for each of its words.
abbrev pub HasLength : ℕ → ℕ → Type 0
HasLength k n = ((k ≡ 1) × (0 < n) × (n ≤ 3920)) ⊎ ((k ≡ 2) × (n % 8 ≡ 0))

-- Which bytes are an object.
pub record IsBlock (b : List ℕ) : Type 0 where
  pub size : length b ≡ size_for (number b)
  pub right : HasLength (kind b) (number b)

-- the place of the first free byte, and the frame in which the page last stood
abbrev pub end : List ℕ → ℕ
end page = number (drop 2 page)

abbrev pub frame : List ℕ → ℕ
frame page = frame_number (drop 4 page)

-- The page's objects are these.
pub record HasObjects (page : List ℕ) (blocks : List (List ℕ)) : Type 0 where
  pub whole : length page ≡ 4096
  pub kind : slice_index page 0 ≡ 72
  pub each : AllByRecursion IsBlock blocks
  pub ends : end page ≡ 64 + length (concat blocks)
  pub fits : end page ≤ 4096
  pub objects : drop 64 page ≡ concat blocks ++ drop (end page) page

pub record IsMade (page : List ℕ) : Type 0 where
  pub blocks : List (List ℕ)
  pub has : HasObjects page blocks

-- An object's addresses stand from its byte 8 on: its link, and behind it the words of a directory.
abbrev pub word_count : List ℕ → ℕ
word_count b = if kind b == 2 then 1 + number b / 8 else 1

-- the first n words moved; what stands behind them is as before
abbrev pub moved_words : Moves → ℕ → List ℕ → List ℕ
moved_words m zero xs = xs
moved_words m (suc n) xs = to_le_bytes w64 (moved_word m (word xs)) ++ moved_words m n (drop 8 xs)

abbrev pub moved_block : Moves → List ℕ → List ℕ
moved_block m b = take 8 b ++ moved_words m (word_count b) (drop 8 b)

-- The page of these objects with each of its addresses moved, the four roots and those of the objects:
-- each one once. Every other byte is as before.
abbrev pub moved_page : Moves → List (List ℕ) → List ℕ → List ℕ
moved_page m blocks page =
    take 16 page ++ moved_words m 4 (take 48 (drop 16 page)) ++ flat_map (moved_block m) blocks ++ drop (end page) page

-- The new page is the old one with each of its addresses moved.
pub record IsMoved (m : Moves) (old new : List ℕ) : Type 0 where
  pub blocks : List (List ℕ)
  pub has : HasObjects old blocks
  pub moved : new ≡ moved_page m blocks old

-- An object begins at this place.
pub record BeginsObject (page : List ℕ) (at : ℕ) : Type 0 where
  pub block : List ℕ
  pub rest : List ℕ
  pub is : IsBlock block
  pub here : drop at page ≡ block ++ rest

-- The addresses of the object that begins at this place are moved; it has so many bytes.
pub record MovesObject (m : Moves) (old new : List ℕ) (at size : ℕ) : Type 0 where
  pub each : (b rest : List ℕ) → IsBlock b → drop at old ≡ b ++ rest → (size ≡ length b) × (new ≡ take at old ++ moved_block m b ++ rest)
