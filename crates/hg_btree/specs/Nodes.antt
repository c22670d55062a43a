-- The pages of an ordered tree: 4,096 bytes, and the entries that they stand for. Our own rule.
--   byte 0       76, the letter L, of a leaf; 78, the letter N, of an inner page
--   byte 1       the page's level: 0 of a leaf
--   bytes 2..4   the number of entries
--   bytes 4..6   the offset of the first free byte
--   bytes 8..12  in a leaf the number of the next leaf, 2^32 - 1 where there is none
--   bytes 12..16 in an inner page the number of its first child
--   from 16 on   the entries one behind the other: two bytes length of the key, eight bytes place, the
--                key, and in an inner page four bytes number of the child
-- All numbers have their least byte first. All other bytes are zero.
use Rattle.std.specs.Prelude.{◌≡◌, ℕ, ◌+◌, ◌^◌, ◌<◌, ◌≤◌, nat_lt, Bool, true, false, List, [], ◌∷◌, ◌++◌, length, take, drop, slice_index, Option, Some, None, ⊤, ◌⊎◌}
use Rattle.std.specs.Int.{w16, w32, w64, from_le_bytes, to_le_bytes}
use Rattle.hg_btree.specs.Entries.{Entry, AllBy, Before, NotBehind, IsSame}

-- the numbers that the two, four and eight bytes from the place `at` on spell
unfoldable pub number : List ℕ → ℕ → ℕ
number page at = from_le_bytes w16 (take 2 (drop at page))

unfoldable pub page_number : List ℕ → ℕ → ℕ
page_number page at = from_le_bytes w32 (take 4 (drop at page))

unfoldable pub place_at : List ℕ → ℕ → ℕ
place_at page at = from_le_bytes w64 (take 8 (drop at page))

-- how many bytes a child takes in an entry, where the page is an inner one and where it is a leaf
abbrev pub width : Bool → ℕ
width true = 4
width false = 0

abbrev pub child_bytes : Bool → ℕ → List ℕ
child_bytes true child = to_le_bytes w32 child
child_bytes false child = []

-- the bytes of an entry
unfoldable pub spelled : Bool → Entry → List ℕ
spelled inner e = to_le_bytes w16 (length e.key) ++ (to_le_bytes w64 e.place ++ (e.key ++ child_bytes inner e.child))

-- the bytes of the entries, one behind the other
unfoldable pub spelling : Bool → List Entry → List ℕ
spelling inner [] = []
spelling inner (e ∷ es) = spelled inner e ++ spelling inner es

-- an entry that a page can hold
pub record IsProper (e : Entry) : Type 0 where
  pub key : length e.key ≤ 512
  pub place : e.place < 2 ^ 64
  pub child : e.child < 2 ^ 32

abbrev pub kind_of : Bool → ℕ
kind_of true = 78
kind_of false = 76

abbrev pub link_at : Bool → ℕ
link_at true = 12
link_at false = 8

-- the place of the four bytes that only the other kind of page uses
abbrev pub unused_at : Bool → ℕ
unused_at true = 8
unused_at false = 12

-- A byte of a page that has no meaning, where the entries end at `end`.
abbrev pub IsUnused : Bool → ℕ → ℕ → Type 0
IsUnused inner end m = ((6 ≤ m) × (m < 8)) ⊎ (((unused_at inner ≤ m) × (m < unused_at inner + 4)) ⊎ ((end ≤ m) × (m < 4096)))

-- Which bytes are a page with these entries. Its link is the next leaf, or the first child.
pub record IsNode (inner : Bool) (page : List ℕ) (level link : ℕ) (es : List Entry) : Type 0 where
  pub whole : length page ≡ 4096
  pub kind : slice_index page 0 ≡ kind_of inner
  pub level_is : slice_index page 1 ≡ level
  pub count : number page 2 ≡ length es
  pub link_is : page_number page (link_at inner) ≡ link
  pub free : number page 4 ≡ 16 + length (spelling inner es)
  pub fits : 16 + length (spelling inner es) ≤ 4096
  pub text : take (length (spelling inner es)) (drop 16 page) ≡ spelling inner es
  pub proper : AllBy IsProper es
  pub zeros : (m : ℕ) → IsUnused inner (16 + length (spelling inner es)) m → slice_index page m ≡ 0

-- fewer bytes are free on a page than the longest entry takes
abbrev pub crowded_page : List ℕ → Bool
crowded_page page = nat_lt 4096 (number page 4 + 526)

-- what the bytes from the place `at` on say of the entry that stands there
pub record Reads (inner : Bool) (page : List ℕ) (at : ℕ) (e : Entry) : Type 0 where
  pub size : number page at ≡ length e.key
  pub place : place_at page (at + 2) ≡ e.place
  pub key : take (length e.key) (drop (at + 10) page) ≡ e.key
  pub child : inner ≡ true → page_number page (at + 10 + length e.key) ≡ e.child
  pub proper : IsProper e
  pub inside : at + 10 + length e.key + width inner ≤ number page 4

-- the entries before the place `at` of a page are all so
pub record Passed (inner : Bool) (es : List Entry) (R : Entry → Type 0) (at : ℕ) : Type 0 where
  pub done : List Entry
  pub todo : List Entry
  pub all : es ≡ done ++ todo
  pub place : at ≡ 16 + length (spelling inner done)
  pub are : AllBy R done

-- the first of these has the key and place of t, and ends there
abbrev pub IsThere : Bool → List Entry → Entry → ℕ → ℕ → Type 0
IsThere inner [] t at after = ⊥
IsThere inner (x ∷ xs) t at after = IsSame x t × (after ≡ at + length (spelled inner x))

-- the first of these is behind t, or there is none
abbrev pub IsBehind : List Entry → Entry → Type 0
IsBehind [] t = ⊤
IsBehind (x ∷ xs) t = Before t x

-- Where t stands on a page, or would stand. `after` is where its entry ends, or where it would begin.
pub record IsSpot (inner : Bool) (es : List Entry) (t : Entry) (at after : ℕ) (there : Bool) : Type 0 where
  pub passed : Passed inner es (λ e. Before e t) at
  pub here : there ≡ true → IsThere inner passed.todo t at after
  pub not_here : there ≡ false → (after ≡ at) × IsBehind passed.todo t

-- the last child of an inner page with these entries
abbrev pub last_child : ℕ → List Entry → ℕ
last_child first [] = first
last_child first (x ∷ xs) = last_child x.child xs

-- Where the way to t leads on from an inner page: to the child of the last entry that is not behind t.
-- That entry ends at `at`.
pub record IsWay (first : ℕ) (es : List Entry) (t : Entry) (at child : ℕ) : Type 0 where
  pub passed : Passed true es (λ e. NotBehind e t) at
  pub behind : IsBehind passed.todo t
  pub child_is : child ≡ last_child first passed.done

-- the first entry that is not before t is this one
pub record IsFirstAt (es : List Entry) (t : Entry) (place : ℕ) (key : List ℕ) : Type 0 where
  pub before : List Entry
  pub x : Entry
  pub after : List Entry
  pub all : es ≡ before ++ x ∷ after
  pub below : AllBy (λ e. Before e t) before
  pub from : NotBehind t x
  pub place_is : place ≡ x.place
  pub key_is : key ≡ x.key

-- The first entry that is not before t: its place, and its key; none where all are before t.
abbrev pub IsFirst : List Entry → Entry → Option ℕ → List ℕ → Type 0
IsFirst es t None key = AllBy (λ e. Before e t) es
IsFirst es t (Some place) key = IsFirstAt es t place key
