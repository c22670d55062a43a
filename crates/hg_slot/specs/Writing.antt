-- What a write into the bytes of a page leaves as it was, and what stands there after it.
use Rattle.std.specs.Prelude.{◌≡◌, ℕ, ◌+◌, ◌*◌, ◌<◌, ◌≤◌, ◌⊎◌, Bool, true, false, List, length, take, drop, slice_index, slice_index_or}
use Rattle.hg_slot.specs.Slotted.{number}

-- only the n bytes from the place `at` on may differ
pub record Written (a b : List ℕ) (at n : ℕ) : Type 0 where
  pub same_length : length b ≡ length a
  pub before : (m k : ℕ) → m + k ≤ at → take k (drop m b) ≡ take k (drop m a)
  pub behind : (m k : ℕ) → at + n ≤ m → take k (drop m b) ≡ take k (drop m a)

-- a number was written
pub record WritesNumber (a b : List ℕ) (at v : ℕ) : Type 0 where
  pub only : Written a b at 2
  pub here : number b at ≡ v

-- a slot was written
pub record WritesSlot (a b : List ℕ) (k from n : ℕ) : Type 0 where
  pub only : Written a b (16 + 4 * k) 4
  pub offset : number b (16 + 4 * k) ≡ from
  pub size : number b (18 + 4 * k) ≡ n

-- bytes were written
pub record WritesBytes (a b : List ℕ) (at : ℕ) (x : List ℕ) : Type 0 where
  pub only : Written a b at (length x)
  pub here : take (length x) (drop at b) ≡ x
  pub none : length x ≡ 0 → b ≡ a

-- zeros were written
pub record WritesZeros (a b : List ℕ) (at n : ℕ) : Type 0 where
  pub zeros : List ℕ
  pub long : length zeros ≡ n
  pub all : (k : ℕ) → slice_index zeros k ≡ 0
  pub write : WritesBytes a b at zeros

-- one of n bytes from the place `from` on is marked
pub record MarksOne (marks : List Bool) (from n : ℕ) : Type 0 where
  pub byte : ℕ
  pub behind : from ≤ byte
  pub before : byte < from + n
  pub marked : slice_index_or marks byte false ≡ true

-- n bytes from the place `from` on, none of which was marked, are marked, and no other
pub record MarksAll (a b : List Bool) (from n : ℕ) : Type 0 where
  pub long : length b ≡ length a
  pub were_not : (x : ℕ) → from ≤ x → x < from + n → slice_index_or a x false ≡ false
  pub here : (x : ℕ) → from ≤ x → x < from + n → slice_index_or b x false ≡ true
  pub beside : (x : ℕ) → (x < from) ⊎ (from + n ≤ x) → slice_index_or b x false ≡ slice_index_or a x false

-- the bytes were marked, or one of them was marked before
abbrev pub MarksBytes : List Bool → List Bool → ℕ → ℕ → Bool → Type 0
MarksBytes a b from n true = MarksAll a b from n
MarksBytes a b from n false = MarksOne a from n
