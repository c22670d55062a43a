-- How the objects of a page stand in memory: an entry for each, in order; the payloads of the rows, one
-- behind the other, in one list of bytes; the links of the directories, likewise, in one list of links.
use Rattle.std.specs.Prelude.{◌≡◌, ℕ, ◌+◌, ◌*◌, ◌/◌, zero, suc, List, [], ◌∷◌, length, take, drop, map, sum_by, slice_get, Option, IsSome, option_and_then}
use Rattle.hg_base.specs.Content.{Object, row_object, directory}
use Rattle.hg_base.specs.HeapContent.{place_in, payload_of, row_link, links_of}
use Rattle.hg_base.specs.Lending.{refit}
use Rattle.hg_base.specs.declared.plain_page.PlainEntry.{PlainEntry}
use Rattle.hg_base.specs.declared.plain_page.PlainEntry.TheVariants.{Row, Directory}

abbrev pub bytes_used : PlainEntry → ℕ
bytes_used (Row count link) = count
bytes_used (Directory count) = 0

abbrev pub links_used : PlainEntry → ℕ
links_used (Row count link) = 0
links_used (Directory count) = count

abbrev pub entry_length : PlainEntry → ℕ
entry_length (Row count link) = count
entry_length (Directory count) = 8 * count

abbrev pub entry_size : PlainEntry → ℕ
entry_size e = 16 + 16 * ((entry_length e + 15) / 16)

abbrev pub row_size : PlainEntry → ℕ
row_size (Row count link) = entry_size (Row count link)
row_size (Directory count) = 0

-- the object of an entry whose bytes or links come first
abbrev pub object_of : PlainEntry → List ℕ → List (Option ℕ) → Object
object_of (Row count link) bytes links = row_object (take count bytes) link
object_of (Directory count) bytes links = directory (take count links)

-- the objects of a page
abbrev pub objects_of : List PlainEntry → List ℕ → List (Option ℕ) → List Object
objects_of [] bytes links = []
objects_of (e ∷ entries) bytes links = object_of e bytes links ∷ objects_of entries (drop (bytes_used e) bytes) (drop (links_used e) links)

-- where the objects begin, the first at `at`
abbrev pub entry_offsets : ℕ → List PlainEntry → List ℕ
entry_offsets at [] = []
entry_offsets at (e ∷ entries) = at ∷ entry_offsets (at + entry_size e) entries

-- the place of the object at an address, of a page whose bytes begin at `base`
abbrev pub found_from : ℕ → ℕ → ℕ → List PlainEntry → Option ℕ
found_from base a at entries = place_in (map (λ offset. base + offset) (entry_offsets at entries)) a

-- the entries are of just these bytes and links
pub record Fits (entries : List PlainEntry) (bytes : List ℕ) (links : List (Option ℕ)) : Type 0 where
  pub bytes_fit : sum_by bytes_used entries ≡ length bytes
  pub links_fit : sum_by links_used entries ≡ length links

-- Bytes that are written from the first byte of a row on: those that the row does not take go into the
-- rows behind it.
abbrev pub spill : List ℕ → List Object → List Object
spill bytes [] = []
spill bytes (row_object payload link ∷ objects) = row_object (refit payload bytes) link ∷ spill (drop (length payload) bytes) objects
spill bytes (directory links ∷ objects) = directory links ∷ spill bytes objects

abbrev pub spill_at : List ℕ → ℕ → List Object → List Object
spill_at bytes n [] = []
spill_at bytes zero (x ∷ objects) = spill bytes (x ∷ objects)
spill_at bytes (suc n) (x ∷ objects) = x ∷ spill_at bytes n objects

-- the objects once the last bytes behind a loan of a row's payload are known
abbrev pub spilled : List Object → ℕ → List ℕ → List Object
spilled objects n bytes = spill_at bytes n objects

-- what the object at a place is
abbrev pub payload_at : List Object → ℕ → Option (List ℕ)
payload_at objects n = option_and_then payload_of (slice_get objects n)

abbrev pub link_at : List Object → ℕ → Option (Option ℕ)
link_at objects n = option_and_then row_link (slice_get objects n)

abbrev pub links_at : List Object → ℕ → Option (List (Option ℕ))
links_at objects n = option_and_then links_of (slice_get objects n)

abbrev pub HasLinkAt : List Object → ℕ → ℕ → Type 0
HasLinkAt objects n k = IsSome (option_and_then (λ ls. slice_get ls k) (links_at objects n))
