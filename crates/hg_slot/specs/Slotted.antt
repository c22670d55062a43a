-- A slotted page: its 4,096 bytes, and the list of slots that they stand for. Our own rule.
--   byte 0       83, the letter S
--   bytes 2..4   the number of slots, 0 to 128
--   bytes 4..6   the lowest byte of the records, 4,096 where there is none
--   from 16 on   the slots, each the offset of its record and the record's length, two bytes each;
--                both are 0 where the slot is empty
-- Each record lies in the page, from that byte on; no byte is of two records. A record may have no
-- bytes at all. All other bytes are zero. A page where one of them is not, or where bytes 4..6 name a
-- lower place, is read all the same: each call leaves at zero what was, and each insertion and removal
-- makes bytes 4..6 exact.
use Rattle.std.specs.Prelude.{◌≡◌, ◌≢◌, ℕ, ◌+◌, ◌-◌, ◌*◌, ◌<◌, ◌≤◌, ◌==◌, ◌&&◌, ◌⊎◌, nat_lt, not, zero, suc, Bool, true, false, List, length, take, drop, slice_index, slice_index_or, Option, None, Some, if◌then◌else◌}
use Rattle.std.specs.Int.{w16, from_le_bytes}

-- the number that the two bytes from the place `at` on spell, the least byte first
unfoldable pub number : List ℕ → ℕ → ℕ
number page at = from_le_bytes w16 (take 2 (drop at page))

-- how many slots the page has, empty ones among them
abbrev pub slots : List ℕ → ℕ
slots page = number page 2

-- the place behind the slots below which no record begins
abbrev pub lowest : List ℕ → ℕ
lowest page = number page 4

-- what the slot k says of its record: where it begins, and how many bytes it has
abbrev pub offset : List ℕ → ℕ → ℕ
offset page k = number page (16 + 4 * k)

abbrev pub size : List ℕ → ℕ → ℕ
size page k = number page (18 + 4 * k)

abbrev pub body : List ℕ → ℕ → List ℕ
body page k = take (size page k) (drop (offset page k) page)

-- What the page shows at the slot k: a record, or none where the slot is empty or is no slot.
unfoldable pub record_at : List ℕ → ℕ → Option (List ℕ)
record_at page k = if nat_lt k (slots page) && not (offset page k == 0) then Some (body page k) else None

-- the byte at the place x is one of the record of the slot k
pub record IsOf (page : List ℕ) (k x : ℕ) : Type 0 where
  pub from : offset page k ≤ x
  pub to : x < offset page k + size page k

-- the slot k is empty, or its record lies among the records
abbrev pub IsPlaced : List ℕ → ℕ → Type 0
IsPlaced page k =
    ((offset page k ≡ 0) × (size page k ≡ 0))
    ⊎ ((lowest page ≤ offset page k) × (offset page k + size page k ≤ 4096))

-- Which bytes are a slotted page.
pub record IsSlotted (page : List ℕ) : Type 0 where
  pub whole : length page ≡ 4096
  pub kind : slice_index page 0 ≡ 83
  pub few : slots page ≤ 128
  pub behind : 16 + 4 * slots page ≤ lowest page
  pub ends : lowest page ≤ 4096
  pub placed : (k : ℕ) → k < slots page → IsPlaced page k
  pub apart : (j k x : ℕ) → j < slots page → k < slots page → j ≢ k → IsOf page j x → IsOf page k x → ⊥

-- the byte at the place x is none of the head, of a slot or of a record
pub record IsUnused (page : List ℕ) (x : ℕ) : Type 0 where
  pub no_head : (x ≡ 1) ⊎ (6 ≤ x)
  pub no_slot : (x < 16) ⊎ (16 + 4 * slots page ≤ x)
  pub no_record : (k : ℕ) → k < slots page → IsOf page k x → ⊥

-- all bytes that have no meaning are zero
pub record IsClean (page : List ℕ) : Type 0 where
  pub zero : (x : ℕ) → IsUnused page x → slice_index page x ≡ 0

-- how many bytes a slot's record has, none where the slot shows no record
abbrev pub length_of : Option (List ℕ) → ℕ
length_of None = 0
length_of (Some record_bytes) = length record_bytes

-- the lengths of the records of the first n slots together
unfoldable pub lengths : List ℕ → ℕ → ℕ
lengths page zero = 0
lengths page (suc n) = lengths page n + length_of (record_at page n)

-- the bytes that the head of the page, its slots and its records take
abbrev pub used : List ℕ → ℕ
used page = 16 + 4 * slots page + lengths page (slots page)

-- A record begins at the place x.
pub record BeginsAt (page : List ℕ) (x : ℕ) : Type 0 where
  pub slot : ℕ
  pub is_slot : slot < slots page
  pub full : 0 < offset page slot
  pub here : offset page slot ≡ x

-- The head names the lowest byte of the records: a record begins there, or it is the end of the page.
-- That no record begins below it is part of what a slotted page is.
abbrev pub HasExactLowest : List ℕ → Type 0
HasExactLowest page = (lowest page ≡ 4096) ⊎ BeginsAt page (lowest page)

pub record HasEmptySlot (page : List ℕ) : Type 0 where
  pub slot : ℕ
  pub is_slot : slot < slots page
  pub empty : record_at page slot ≡ None

-- A record of n bytes fits: into a slot that is empty, or with four bytes more into a new one.
abbrev pub Fits : List ℕ → ℕ → Type 0
Fits page n = (HasEmptySlot page × (used page + n ≤ 4096)) ⊎ ((slots page < 128) × (used page + 4 + n ≤ 4096))

-- A record of n bytes fits with a new slot between the slots and the records.
pub record HasGap (page : List ℕ) (n : ℕ) : Type 0 where
  pub few : slots page < 128
  pub room : 20 + 4 * slots page + n ≤ lowest page

-- where the record of a slot begins, and how many bytes it has
pub record IsRecord (page : List ℕ) (k from n : ℕ) : Type 0 where
  pub is_slot : k < slots page
  pub from_is : from ≡ offset page k
  pub size_is : n ≡ size page k
  pub inside : from + n ≤ 4096
  pub shown : record_at page k ≡ Some (take n (drop from page))

-- where the record of a slot begins and ends; it begins at 0 where there is none
pub record IsPlace (page : List ℕ) (k from to : ℕ) : Type 0 where
  pub none : from ≡ 0 → record_at page k ≡ None
  pub order : from ≤ to
  pub some : 0 < from → IsRecord page k from (to - from)

-- the record of the slot k has no byte in common with those of the first n slots
pub record IsApart (page : List ℕ) (k n : ℕ) : Type 0 where
  pub no_byte : (j x : ℕ) → j < n → IsOf page j x → IsOf page k x → ⊥

-- the records of the first n slots have no byte below this place
pub record AreFrom (page : List ℕ) (n below : ℕ) : Type 0 where
  pub from : (k x : ℕ) → k < n → IsOf page k x → below ≤ x

-- the first n slots are right
pub record AreRight (page : List ℕ) (n : ℕ) : Type 0 where
  pub placed : (k : ℕ) → k < n → IsPlaced page k
  pub apart : (k : ℕ) → k < n → IsApart page k k

-- the head is right
pub record HasRightHead (page : List ℕ) : Type 0 where
  pub few : slots page ≤ 128
  pub behind : 16 + 4 * slots page ≤ lowest page
  pub ends : lowest page ≤ 4096

-- Bytes that begin as a slotted page does: their kind and their head are right. What the slots say may
-- be anything. It is known in constant time.
pub record IsUsable (page : List ℕ) : Type 0 where
  pub whole : length page ≡ 4096
  pub kind : slice_index page 0 ≡ 83
  pub head : HasRightHead page

-- a place that is at or below each record, and the lowest one or the end of the page
pub record IsLowestRecord (page : List ℕ) (n x : ℕ) : Type 0 where
  pub below : (k : ℕ) → k < n → 0 < offset page k → x ≤ offset page k
  pub begins : (x ≡ 4096) ⊎ BeginsAt page x

-- the byte x is marked exactly where it is of a record of the first n slots
pub record AreMarked (page : List ℕ) (n : ℕ) (marks : List Bool) : Type 0 where
  pub long : length marks ≡ 4096
  pub marked : (k x : ℕ) → k < n → IsOf page k x → slice_index_or marks x false ≡ true
  pub unmarked : (x : ℕ) → slice_index_or marks x false ≡ true → (k : ℕ) × (k < n) × IsOf page k x
