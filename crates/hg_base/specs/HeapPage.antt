-- The bytes of a heap's page. Our own format; numbers have the least byte first, and what is not named
-- is zero.
--
--   0   48 hexadecimal      4   the frame in which the page last stood
--   2   first free byte     16  four roots, in the heap's first page alone
--                           64  objects, one behind the other
--
-- An object: 2 bytes of length, 1 byte of kind (1 a row, 2 a directory), 5 zeros, 8 bytes of link (zero
-- in a directory), its payload (8 bytes for each link of a directory), zeros up to the grid of 16.
use Rattle.std.specs.Prelude.{◌≡◌, ℕ, ◌-◌, ◌*◌, ◌<◌, ◌≤◌, List, [], ◌∷◌, ◌++◌, take, drop, length, replicate, flat_map, Option, None, Some, ⊤}
use Rattle.std.specs.Int.{w16, w32, w64, to_le_bytes}
use Rattle.std.specs.List.{AllByRecursion}
use Rattle.hg_base.specs.Content.{Object, row_object, directory, Objects, payload_length, object_size, page_end, address_of}
use Rattle.hg_base.specs.Lines.{AreApart}

-- a link as a word: the address of the object that it leads to, or 0
abbrev pub link_word : (ℕ → ℕ) → Option ℕ → ℕ
link_word address None = 0
link_word address (Some n) = address n

abbrev pub link_bytes : (ℕ → ℕ) → Option ℕ → List ℕ
link_bytes address link = to_le_bytes w64 (link_word address link)

abbrev pub object_kind : Object → ℕ
object_kind (row_object payload link) = 1
object_kind (directory links) = 2

abbrev pub object_link : Object → Option ℕ
object_link (row_object payload link) = link
object_link (directory links) = None

abbrev pub payload_bytes : (ℕ → ℕ) → Object → List ℕ
payload_bytes address (row_object payload link) = payload
payload_bytes address (directory links) = flat_map (link_bytes address) links

-- an object's bytes, where `address` gives each object's address
abbrev pub object_bytes : (ℕ → ℕ) → Object → List ℕ
object_bytes address o =
    to_le_bytes w16 (payload_length o)
    ++ object_kind o
    ∷ replicate 5 0
    ++ link_bytes address (object_link o)
    ++ payload_bytes address o
    ++ replicate (object_size o - 16 - payload_length o) 0

-- the bytes 8 to 64 of a page: zeros, and the roots where it is the heap's first page
abbrev pub roots_bytes : (ℕ → ℕ) → List (Option ℕ) → List ℕ
roots_bytes address roots = replicate 8 0 ++ flat_map (link_bytes address) roots ++ replicate (48 - 8 * length roots) 0

-- A page of these objects in this frame; `roots` are the four roots in a heap's first page, else none.
pub record IsHeapPage (address : ℕ → ℕ) (roots : List (Option ℕ)) (objects : List Object) (frame : ℕ) (page : List ℕ) : Type 0 where
  pub size : length page ≡ 4096
  pub kind : take 2 page ≡ 72 ∷ 0 ∷ []
  pub end : take 2 (drop 2 page) ≡ to_le_bytes w16 (page_end objects)
  pub stood_in : take 4 (drop 4 page) ≡ to_le_bytes w32 frame
  pub first : take 56 (drop 8 page) ≡ roots_bytes address roots
  pub fits : page_end objects ≤ 4096
  pub placed : drop 64 page ≡ flat_map (object_bytes address) objects ++ replicate (4096 - page_end objects) 0

-- pages behind the first one
abbrev pub AreHeapPages : (ℕ → ℕ) → List (Option ℕ) → List (List Object) → List ℕ → List (List ℕ) → Type 0
AreHeapPages address roots [] [] [] = ⊤
AreHeapPages address roots (objects ∷ layout) (frame ∷ frames) (page ∷ pages) =
    IsHeapPage address roots objects frame page × AreHeapPages address [] layout frames pages
AreHeapPages address roots layout frames pages = ⊥

-- A heap's objects stand in these bytes, its pages in these frames, no two in one.
pub record Stands (o : Objects) (frames : List ℕ) (pages : List (List ℕ)) : Type 0 where
  pub apart : AreApart frames
  pub below : AllByRecursion (λ f. f < 65536) frames
  pub bytes : AreHeapPages (address_of o frames) o.roots o.layout frames pages
