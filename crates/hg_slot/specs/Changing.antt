-- What the calls do to a slotted page, in the words of its slots. Our own rule.
use Rattle.std.specs.Prelude.{◌≡◌, ◌≢◌, ℕ, ◌+◌, ◌*◌, ◌<◌, ◌≤◌, ◌==◌, ◌&&◌, ◌||◌, ◌⊎◌, nat_lt, not, Bool, true, false, max, List, length, take, drop, Option, None, Some, MatchOption, ⊤, Result, Ok, Err, slice_index, if◌then◌else◌}
use Rattle.hg_slot.specs.Slotted.{slots, lowest, offset, size, record_at, lengths, HasExactLowest, HasGap, HasRightHead, Fits, IsSlotted, IsUsable, IsClean}
use borrow.Rule.Slice.PartMut.{put_mid}
use Rattle.hg_base.specs.declared.Check.{Check}
use Rattle.hg_base.specs.declared.Check.TheVariants.{Kind, Size, Frame, Link, Level, Order, RowBytes}

-- every slot but this one shows what it showed
abbrev pub KeepsOthers : List ℕ → List ℕ → ℕ → Type 0
KeepsOthers old new slot = (k : ℕ) → k ≢ slot → record_at new k ≡ record_at old k

-- The record was put into a slot that was empty: into a new one where it fits with it between the slots
-- and the records, and else into the first that is empty, or into a new one where none is.
pub record IsInserted (old new : List ℕ) (slot : ℕ) (bytes : List ℕ) : Type 0 where
  pub slotted : IsSlotted new
  pub clean : IsClean old → IsClean new
  pub was_empty : record_at old slot ≡ None
  pub first : (HasGap old (length bytes) → ⊥) → (k : ℕ) → k < slot → record_at old k ≢ None
  pub here : record_at new slot ≡ Some bytes
  pub others : KeepsOthers old new slot
  pub count : slots new ≡ max (slots old) (slot + 1)
  pub lowest : HasExactLowest new

-- The record was put right below the place that the head named, which then is where it begins, and its
-- slot says so. Every part of the page without a byte of the head's numbers, of this slot or of the
-- record is as it was: no other record was moved. It is said of any bytes.
pub record Lands (old new : List ℕ) (slot : ℕ) (bytes : List ℕ) : Type 0 where
  pub same_length : length new ≡ length old
  pub count : slots new ≡ max (slots old) (slot + 1)
  pub low : lowest new + length bytes ≡ lowest old
  pub begins : offset new slot ≡ lowest new
  pub long : size new slot ≡ length bytes
  pub here : take (length bytes) (drop (lowest new) new) ≡ bytes
  pub beside : (m n : ℕ) → (m + n ≤ 2) ⊎ (6 ≤ m) → (m + n ≤ 16 + 4 * slot) ⊎ (20 + 4 * slot ≤ m)
      → (m + n ≤ lowest new) ⊎ (lowest old ≤ m) → take n (drop m new) ≡ take n (drop m old)

-- where the slots end once there is a slot of this number
abbrev pub slots_end : List ℕ → ℕ → ℕ
slots_end page slot = 16 + 4 * max (slots page) (slot + 1)

-- A record was put into bytes whose head is right. Where there is a gap it went into a new slot. Where
-- it fits between the slots and the records, nothing else was touched: the page is closed up only where
-- that is needed. A slotted page stays one.
pub record IsPut (old new : List ℕ) (slot : ℕ) (bytes : List ℕ) : Type 0 where
  pub usable : IsUsable new
  pub here : record_at new slot ≡ Some bytes
  pub new_slot : HasGap old (length bytes) → slot ≡ slots old
  pub in_place : slots_end old slot + length bytes ≤ lowest old → Lands old new slot bytes
  pub inserted : IsSlotted old → IsInserted old new slot bytes
  pub fits : IsSlotted old → Fits old (length bytes)

-- The page was looked at whole, and a record of n bytes does not fit.
pub record IsFullFor (old new : List ℕ) (n : ℕ) : Type 0 where
  pub same : new ≡ old
  pub slotted : IsSlotted old
  pub full : Fits old n → ⊥

-- What is wrong with a page that may be damaged: its kind where its first byte is another one; all
-- else is a matter of size, and comes only where the page is no slotted page.
abbrev pub IsWrong : List ℕ → Check → Type 0
IsWrong page Kind = slice_index page 0 ≢ 83
IsWrong page Size = (slice_index page 0 ≡ 83) × (IsSlotted page → ⊥)
IsWrong page Frame = ⊥
IsWrong page Link = ⊥
IsWrong page Level = ⊥
IsWrong page Order = ⊥
IsWrong page RowBytes = ⊥

-- The answer of a reading of a page that may be damaged: it is taken exactly where it is a slotted
-- page.
abbrev pub Verified : List ℕ → Result (Unit {0}) Check → Type 0
Verified page (Ok u) = IsSlotted page
Verified page (Err e) = IsWrong page e

-- The answer of a look at the kind and the head of bytes that may be any: the number of slots exactly
-- where both are right.
abbrev pub HeadChecked : List ℕ → Result ℕ Check → Type 0
HeadChecked page (Ok n) = IsUsable page × (n ≡ slots page)
HeadChecked page (Err Kind) = slice_index page 0 ≢ 83
HeadChecked page (Err Size) = (slice_index page 0 ≡ 83) × (HasRightHead page → ⊥)
HeadChecked page (Err Frame) = ⊥
HeadChecked page (Err Link) = ⊥
HeadChecked page (Err Level) = ⊥
HeadChecked page (Err Order) = ⊥
HeadChecked page (Err RowBytes) = ⊥

-- The answer of an insertion of n bytes into bytes that may be any. It is taken exactly where kind and
-- head are right and there is a gap for the record, or the page is a slotted page: where there is no
-- gap, all slots count, and the page is looked at whole.
abbrev pub InsertChecked : {T : Type 0} → List ℕ → ℕ → Result T Check → Type 0
InsertChecked page n (Ok x) = IsUsable page × (HasGap page n ⊎ IsSlotted page)
InsertChecked page n (Err Kind) = slice_index page 0 ≢ 83
InsertChecked page n (Err Size) = (slice_index page 0 ≡ 83) × (IsUsable page → HasGap page n → ⊥) × (IsSlotted page → ⊥)
InsertChecked page n (Err Frame) = ⊥
InsertChecked page n (Err Link) = ⊥
InsertChecked page n (Err Level) = ⊥
InsertChecked page n (Err Order) = ⊥
InsertChecked page n (Err RowBytes) = ⊥

-- there is a slot k, it is not empty, and the record that its entry names would end behind the page
abbrev pub reaches_past : List ℕ → ℕ → Bool
reaches_past page k = nat_lt k (slots page) && not (offset page k == 0) && nat_lt 4096 (offset page k + size page k)

-- What is wrong with 4,096 bytes, which may be any, for a reader of the slot k alone: their kind where
-- byte 0 is another one; else a size where they have more than 128 slots, or the record of the slot k
-- would end behind the page; else nothing.
unfoldable pub fault_at : List ℕ → ℕ → Option Check
fault_at page k =
    if slice_index page 0 == 83 then (if nat_lt 128 (slots page) || reaches_past page k then Some Size else None)
    else Some Kind

-- A slot shows no record any more; the head names the lowest byte of those that are left. Every part of the
-- page without a byte of that number, of the slot or of the record that it showed is as it was: no other
-- record was moved.
pub record Empties (old new : List ℕ) (slot : ℕ) : Type 0 where
  pub clean : IsClean old → IsClean new
  pub slotted : IsSlotted new
  pub here : record_at new slot ≡ None
  pub others : KeepsOthers old new slot
  pub count : slots new ≡ slots old
  pub lowest : HasExactLowest new
  pub beside : (m n : ℕ) → (m + n ≤ 4) ⊎ (6 ≤ m) → (m + n ≤ 16 + 4 * slot) ⊎ (20 + 4 * slot ≤ m)
      → (m + n ≤ offset old slot) ⊎ (offset old slot + size old slot ≤ m) → take n (drop m new) ≡ take n (drop m old)

-- A slot's entry was emptied and its bytes made zero; the head is as it was, and so is every other part of
-- the page.
pub record Erases (old new : List ℕ) (slot : ℕ) : Type 0 where
  pub clean : IsClean old → IsClean new
  pub slotted : IsSlotted new
  pub here : record_at new slot ≡ None
  pub others : KeepsOthers old new slot
  pub count : slots new ≡ slots old
  pub beside : (m n : ℕ) → (m + n ≤ 16 + 4 * slot) ⊎ (20 + 4 * slot ≤ m)
      → (m + n ≤ offset old slot) ⊎ (offset old slot + size old slot ≤ m) → take n (drop m new) ≡ take n (drop m old)

-- A new slot stands behind the others, and is empty.
pub record AddsSlot (old new : List ℕ) : Type 0 where
  pub clean : IsClean old → IsClean new
  pub slotted : IsSlotted new
  pub all : (k : ℕ) → record_at new k ≡ record_at old k
  pub count : slots new ≡ slots old + 1
  pub low : lowest new ≡ lowest old

-- The page shows the same at every slot, and its records stand close together at its end.
pub record ClosesUp (old new : List ℕ) : Type 0 where
  pub clean : IsClean new
  pub slotted : IsSlotted new
  pub all : (k : ℕ) → record_at new k ≡ record_at old k
  pub count : slots new ≡ slots old
  pub low : lowest new + lengths old (slots old) ≡ 4096

-- The first n slots of a page are there again, their records close together at the end.
pub record Rebuilds (old built : List ℕ) (n : ℕ) : Type 0 where
  pub clean : IsClean built
  pub slotted : IsSlotted built
  pub count : slots built ≡ n
  pub same : (k : ℕ) → k < n → record_at built k ≡ record_at old k
  pub low : lowest built + lengths old n ≡ 4096

-- An empty page: no slot, and all bytes behind the head are free.
pub record Starts (new : List ℕ) : Type 0 where
  pub clean : IsClean new
  pub slotted : IsSlotted new
  pub none : slots new ≡ 0
  pub low : lowest new ≡ 4096

-- The page shows the same at every slot, and there are `need` bytes before the records.
pub record MakesRoom (old new : List ℕ) (need : ℕ) : Type 0 where
  pub clean : IsClean old → IsClean new
  pub slotted : IsSlotted new
  pub all : (k : ℕ) → record_at new k ≡ record_at old k
  pub count : slots new ≡ slots old
  pub room : need ≤ lowest new
  pub same : need ≤ lowest old → new ≡ old

-- the first slot that is empty, or the one behind all where none is
pub record IsFirstEmpty (page : List ℕ) (slot : ℕ) : Type 0 where
  pub is_near : slot ≤ slots page
  pub first : (k : ℕ) → k < slot → record_at page k ≢ None
  pub empty : record_at page slot ≡ None

-- Bytes were written over a part of a record, from its byte `at` on.
pub record Overwrites (old new : List ℕ) (slot at : ℕ) (bytes : List ℕ) : Type 0 where
  pub clean : IsClean old → IsClean new
  pub slotted : IsSlotted new
  pub here : (r : List ℕ) → record_at old slot ≡ Some r → record_at new slot ≡ Some (put_mid at (length bytes) r bytes)
  pub others : KeepsOthers old new slot
  pub count : slots new ≡ slots old
  pub lowest : HasExactLowest old → HasExactLowest new

-- a slot shows a record that has n bytes from its byte `at` on, or it does not
abbrev pub HasPart : List ℕ → ℕ → ℕ → ℕ → Bool → Type 0
HasPart page slot at n true = MatchOption (record_at page slot) ⊥ (λ r. at + n ≤ length r)
HasPart page slot at n false = MatchOption (record_at page slot) ⊤ (λ r. at + n ≤ length r → ⊥)

-- Bytes were written from the byte `at` on of where a slot's entry says that its record begins, and
-- every part of the page beside them is as it was. It is said of any bytes.
pub record WritesPart (old new : List ℕ) (slot at : ℕ) (bytes : List ℕ) : Type 0 where
  pub same_length : length new ≡ length old
  pub here : take (length bytes) (drop (offset old slot + at) new) ≡ bytes
  pub beside : (m n : ℕ) → (m + n ≤ offset old slot + at) ⊎ (offset old slot + at + length bytes ≤ m)
      → take n (drop m new) ≡ take n (drop m old)

-- the page with other bytes where the record of a slot lies
abbrev pub with_record : List ℕ → ℕ → List ℕ → List ℕ
with_record page slot bytes = put_mid (offset page slot) (size page slot) page bytes

-- The slot shows other bytes, as many as it showed.
pub record Replaces (old new : List ℕ) (slot : ℕ) (bytes : List ℕ) : Type 0 where
  pub clean : IsClean old → IsClean new
  pub slotted : IsSlotted new
  pub here : record_at new slot ≡ Some bytes
  pub others : KeepsOthers old new slot
  pub count : slots new ≡ slots old
  pub lowest : HasExactLowest old → HasExactLowest new
