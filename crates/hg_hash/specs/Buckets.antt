-- Rows of a heap in buckets: root 0 leads to a directory of 256 links, one for each bucket, and each row
-- links to the one that was put into its bucket before it. Our own rule.
--
--   root 0 -> | 0 | 1 | 2 | .. | 255 |      the directory: a link to the newest row of each bucket
--                   |
--                   +-> row 9 -> row 4 -> row 2 -> nothing      the chain of bucket 1, newest first
--
-- A chain is a function of what a heap holds, and not of where its pages stand: it is the same after the
-- heap was unlocked and locked again.
use Rattle.std.specs.Prelude.{◌≡◌, ◌≢◌, ℕ, ◌<◌, ◌==◌, Bool, true, List, [], ◌∷◌, length, map, reverse, slice_get, slice_index_or, Option, None, Some, is_some, option_map, option_and_then, if◌then◌else◌}
use Rattle.hg_base.specs.Content.{Object, row_object, directory, Objects, placed}
use Rattle.hg_base.specs.HeapContent.{links_of, link_of}
use Rattle.hg_base.specs.HeapStates.{of_locked, standing_of, with_objects, payload_in}
use Rattle.hg_base.specs.Space.{Space}

-- what a row is in a chain: its payload, and its link to the row before
pub record Row : Type 0 where
  pub payload : List ℕ
  pub link : Option ℕ

abbrev pub row_of : Object → Option Row
row_of (row_object payload link) = Some (record { payload = payload; link = link })
row_of (directory links) = None

-- The payloads that are reached from a link, where objects stand newest first: a link is followed to an
-- earlier object alone, so that every chain ends.
abbrev pub reached : List (Option Row) → Option ℕ → List (List ℕ)
reached [] link = []
reached (x ∷ earlier) None = []
reached (None ∷ earlier) (Some n) = if n == length earlier then [] else reached earlier (Some n)
reached (Some row ∷ earlier) (Some n) = if n == length earlier then row.payload ∷ reached earlier row.link else reached earlier (Some n)

-- the payloads that are reached from a link, newest first
abbrev pub chain : List Object → Option ℕ → List (List ℕ)
chain objects link = reached (reverse (map row_of objects)) link

-- the links of the directory to which the first of some roots leads
abbrev pub links_at : List (Option ℕ) → List Object → Option (List (Option ℕ))
links_at [] objects = None
links_at (None ∷ others) objects = None
links_at (Some n ∷ others) objects = option_and_then links_of (slice_get objects n)

-- the buckets of a heap: a link for each
abbrev pub table : Objects → Option (List (Option ℕ))
table o = links_at o.roots (placed o)

-- the rows of a bucket, newest first
abbrev pub bucket : Objects → ℕ → Option (List (List ℕ))
bucket o k = option_map (λ links. chain (placed o) (slice_index_or links k None)) (table o)

-- The same of a heap that is locked.

-- how many buckets it has, if root 0 leads to any
abbrev pub buckets_in : Space → ℕ → Option ℕ
buckets_in s h = of_locked (λ o frames. option_map length (table o)) (standing_of s h)

abbrev pub HasBuckets : Space → ℕ → Type 0
HasBuckets s h = buckets_in s h ≡ Some 256

abbrev pub bucket_in : Space → ℕ → ℕ → Option (List (List ℕ))
bucket_in s h k = of_locked (λ o frames. bucket o k) (standing_of s h)

-- the payloads that are reached from an address, as a word
abbrev pub chain_in : Space → ℕ → ℕ → Option (List (List ℕ))
chain_in s h word = of_locked (λ o frames. Some (chain (placed o) (link_of o frames word))) (standing_of s h)

-- b is a but for the objects of one heap, whose pages stand in the same frames
pub record OnlyObjects (a b : Space) (h : ℕ) : Type 0 where
  pub objects : Objects
  pub after : b ≡ with_objects a h (λ _ _. objects)

-- a bucket's link leads to a row, or to nothing
abbrev pub leads_to_row : List Object → Option ℕ → Bool
leads_to_row objects None = true
leads_to_row objects (Some n) = is_some (option_and_then row_of (slice_get objects n))

abbrev pub row_first : Objects → ℕ → Option Bool
row_first o k = option_map (λ links. leads_to_row (placed o) (slice_index_or links k None)) (table o)

-- every bucket's does
abbrev pub OnlyRows : Space → ℕ → Type 0
OnlyRows s h = (k : ℕ) → k < 256 → of_locked (λ o frames. row_first o k) (standing_of s h) ≡ Some true

-- every bucket is empty
abbrev pub NoRows : Space → ℕ → Type 0
NoRows s h = (k : ℕ) → k < 256 → bucket_in s h k ≡ Some []

-- one row more in front of a bucket
abbrev pub in_front : List ℕ → Option (List (List ℕ)) → Option (List (List ℕ))
in_front payload rows = option_map (λ rs. payload ∷ rs) rows

-- the other buckets have the rows that they had
abbrev pub OtherBuckets : Space → Space → ℕ → ℕ → Type 0
OtherBuckets a b h bucket = (k : ℕ) → k < 256 → k ≢ bucket → bucket_in b h k ≡ bucket_in a h k

-- the payload of each row that was there is found at its address
abbrev pub KeepsPayloads : Space → Space → ℕ → Type 0
KeepsPayloads a b h = (at : ℕ) (payload : List ℕ) → payload_in a h at ≡ Some payload → payload_in b h at ≡ Some payload

-- and so are the payloads that are reached from it
abbrev pub KeepsChains : Space → Space → ℕ → Type 0
KeepsChains a b h = (at : ℕ) (payload : List ℕ) → payload_in a h at ≡ Some payload → chain_in b h at ≡ chain_in a h at
