-- The objects of a heap of a plain space: which frames its pages stand in, and where an object is found.
use Rattle.std.specs.Prelude.{◌≡◌, ℕ, ◌+◌, ◌-◌, ◌%◌, ◌<◌, ◌≤◌, ◌⊎◌, zero, suc, List, [], ◌∷◌, length, Option, None, Some, IsSome, option_map, option_and_then, nat_lt, if◌then◌else◌, slice_index_or}
use Rattle.std.specs.Vec.{with_item}
use Rattle.hg_base.specs.Content.{Object, Objects, addresses_in, address_of}
use Rattle.hg_base.specs.HeapContent.{place_in, named_by, object_at, payload_of, row_link, links_of, words_of}
use Rattle.hg_base.specs.HeapFacts.{AreWellPlaced}
use Rattle.hg_base.specs.HeapPage.{link_word}
use Rattle.hg_base.specs.PlainEntries.{spilled}
use Rattle.hg_base.specs.declared.plain_objects.HeapObjects.{HeapObjects}

-- as many frames one behind the other, from this number on; behind the last of 65,536 comes frame 0
abbrev pub frames_from : ℕ → ℕ → List ℕ
frames_from first zero = []
frames_from first (suc n) = first % 65536 ∷ frames_from (first + 1) n

abbrev pub objects_in : HeapObjects → Objects
objects_in s = record { layout = s.layout.items; roots = s.roots }

abbrev pub frames_in : HeapObjects → List ℕ
frames_in s = frames_from s.first (length s.layout.items)

-- the object under an address, by its place in order of placing
abbrev pub found_in : ℕ → ℕ → List (List Object) → Option ℕ
found_in first a layout = place_in (addresses_in layout (frames_from first (length layout))) a

-- the n-th object of all stands on this page, at this place
abbrev pub IsPlace : List (List Object) → ℕ → ℕ → ℕ → Type 0
IsPlace [] page index n = ⊥
IsPlace (p ∷ layout) zero index n = (index ≡ n) × (n < length p)
IsPlace (p ∷ layout) (suc page) index n = (length p ≤ n) × IsPlace layout page index (n - length p)

-- the addresses of the objects of pages that stand one behind the other from this frame on
abbrev pub addresses_from : ℕ → List (List Object) → List ℕ
addresses_from first layout = addresses_in layout (frames_from first (length layout))

-- what is under an address
abbrev pub object_under : HeapObjects → ℕ → Option Object
object_under s a = object_at (objects_in s) (frames_in s) a

abbrev pub payload_under : HeapObjects → ℕ → Option (List ℕ)
payload_under s a = option_and_then payload_of (object_under s a)

abbrev pub links_under : HeapObjects → ℕ → Option (List (Option ℕ))
links_under s a = option_and_then links_of (object_under s a)

-- links as addresses
abbrev pub word_of : HeapObjects → Option ℕ → ℕ
word_of s link = link_word (address_of (objects_in s) (frames_in s)) link

abbrev pub link_under : HeapObjects → ℕ → Option ℕ
link_under s a = option_map (link_word (address_of (objects_in s) (frames_in s))) (option_and_then row_link (object_under s a))

abbrev pub words_under : HeapObjects → ℕ → Option (List ℕ)
words_under s a = option_map (words_of (objects_in s) (frames_in s)) (links_under s a)

-- a word that may be a link
abbrev pub IsTargetOf : HeapObjects → ℕ → Type 0
IsTargetOf s word = (word ≡ 0) ⊎ IsSome (object_under s word)

-- objects that a heap may hold, on pages that find frames beside each other
pub record IsSound (s : HeapObjects) : Type 0 where
  pub well : AreWellPlaced (objects_in s)
  pub few : length s.layout.items ≤ 65528

-- the object under an address stands on this page, at this place, and is the one of this number
pub record Stands (s : HeapObjects) (a page index number : ℕ) : Type 0 where
  pub named : named_by (objects_in s) (frames_in s) a ≡ Some number
  pub place : IsPlace s.layout.items page index number
  pub page_in : page < length s.layout.items

-- on which page the n-th object of all stands, and at which place there
abbrev pub page_of : List (List Object) → ℕ → ℕ
page_of [] n = 0
page_of (p ∷ layout) n = if nat_lt n (length p) then 0 else suc (page_of layout (n - length p))

abbrev pub index_of : List (List Object) → ℕ → ℕ
index_of [] n = n
index_of (p ∷ layout) n = if nat_lt n (length p) then n else index_of layout (n - length p)

-- the objects once the last bytes behind a loan of a row's payload are known
abbrev pub loaned : HeapObjects → Option ℕ → List ℕ → HeapObjects
loaned s None bytes = s
loaned s (Some n) bytes = record s {
  layout = with_item s.layout (page_of s.layout.items n)
      (spilled (slice_index_or s.layout.items (page_of s.layout.items n) []) (index_of s.layout.items n) bytes);
}

abbrev pub after_loan : HeapObjects → ℕ → List ℕ → HeapObjects
after_loan s a bytes = loaned s (named_by (objects_in s) (frames_in s) a) bytes
