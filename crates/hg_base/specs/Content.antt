-- What a heap holds and where its pages stand. Our own rule.
--
--   frame 3  | head | row 0 | row 1 | directory 2 |      free |     a heap of two pages, locked in
--   frame 5  | head | row 3 |                            free |     the frames 3 and 5
--
-- An object is named by its place in the order of placing: here 0 to 3. A page's objects lie one
-- behind the other from offset 64 on, each on a grid of 16 bytes.
use Rattle.std.specs.Prelude.{ℕ, ◌+◌, ◌-◌, ◌*◌, ◌/◌, List, [], ◌∷◌, ◌++◌, length, map, sum_by, flat_map, slice_index_or, Option}

-- A link leads to another object of the heap, or to nothing.
pub data Object : Type 0 where
  -- bytes of the user, and one link
  row_object : (payload : List ℕ) (link : Option ℕ) → Object
  -- links alone
  directory : (links : List (Option ℕ)) → Object

-- The objects of each page, in order, and the four roots, each an object or nothing.
pub record Objects : Type 0 where
  pub layout : List (List Object)
  pub roots : List (Option ℕ)

-- the objects in order of placing
abbrev pub placed : Objects → List Object
placed o = flat_map (λ page. page) o.layout

-- the bytes behind an object's 16 bytes of head: a row's payload, or 8 for each link of a directory
abbrev pub payload_length : Object → ℕ
payload_length (row_object payload link) = length payload
payload_length (directory links) = 8 * length links

-- the bytes that an object takes, a multiple of 16
abbrev pub object_size : Object → ℕ
object_size o = 16 + 16 * ((payload_length o + 15) / 16)

-- the offset of the first free byte of a page of these objects
abbrev pub page_end : List Object → ℕ
page_end objects = 64 + sum_by object_size objects

-- the bytes that are free on it
abbrev pub room_on : List Object → ℕ
room_on objects = 4096 - page_end objects

-- the offsets of objects that lie one behind the other from `at` on
abbrev pub offsets_from : ℕ → List Object → List ℕ
offsets_from at [] = []
offsets_from at (o ∷ objects) = at ∷ offsets_from (at + object_size o) objects

-- the addresses of the objects of pages that stand in these frames: frame * 4096 + offset
abbrev pub addresses_in : List (List Object) → List ℕ → List ℕ
addresses_in [] frames = []
addresses_in (page ∷ pages) [] = []
addresses_in (page ∷ pages) (frame ∷ frames) = map (λ at. frame * 4096 + at) (offsets_from 64 page) ++ addresses_in pages frames

-- the address of an object
abbrev pub address_of : Objects → List ℕ → ℕ → ℕ
address_of o frames n = slice_index_or (addresses_in o.layout frames) n 0

-- the payloads of the rows among some objects
abbrev pub payloads_of : List Object → List (List ℕ)
payloads_of [] = []
payloads_of (row_object payload link ∷ objects) = payload ∷ payloads_of objects
payloads_of (directory links ∷ objects) = payloads_of objects

-- Where a heap is. Locked, its objects are known over every space, and its pages stand in frames, one
-- for each page. Unlocked, its objects are told or they are not. Draining, what is left of it are the
-- payloads of each page that is left: links mean nothing then.
pub data Standing : Type 0 where
  locked : (objects : Objects) (frames : List ℕ) → Standing
  unlocked : (objects : Option Objects) → Standing
  draining : (payloads : Option (List (List (List ℕ)))) → Standing

-- A heap: where it is; the request that it works for; and its pages, by their keys, in order. Its
-- grant is of that request, of as many pages.
pub record Heap : Type 0 where
  pub standing : Standing
  pub request : ℕ
  pub pages : List ℕ

-- The heaps of a space by number; how many frames are in use, and how many may be; and for each request the most pages
-- that its heaps may have, and the most that they had at once since that was last set.
pub record Heaps : Type 0 where
  pub heap : ℕ → Option Heap
  pub current : ℕ
  pub most : ℕ
  pub cap : ℕ → ℕ
  pub peak : ℕ → ℕ
