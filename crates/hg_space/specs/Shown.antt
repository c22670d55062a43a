-- What callers see of a space: the map of its pages. Our own rule.
use Rattle.std.specs.Prelude.{◌≡◌, ℕ, ◌+◌, ◌/◌, ◌<◌, ◌≤◌, ◌^◌, ◌&&◌, nat_lt, not, false, Bool, List, length, Option, None, Some, if◌then◌else◌, slice_index}
use Rattle.hg_space.specs.Bits.{is_set}
use Rattle.hg_space.specs.Summary.{level_start, IsSummary}
use Rattle.hg_space.specs.PageMap.{PageMap, used_count}

-- What a space keeps: how many pages there are; bits, of which those from `first` on say of each page that it is free;
-- of which pages the successor counts; and the successors, one for each page up to the highest that was ever taken.
pub record Kept : Type 0 where
  pub limit : ℕ
  pub free : List ℕ
  pub first : ℕ
  pub linked : List ℕ
  pub links : List ℕ

-- how many pages were ever taken; the pages from that number on are free, and have no bit
abbrev pub reached : Kept → ℕ
reached s = length s.links

-- a page that was ever taken and is not free is used
abbrev pub is_used : Kept → ℕ → Bool
is_used s n = nat_lt n (reached s) && not (is_set s.free (s.first + n))

abbrev pub next_of : Kept → ℕ → Option ℕ
next_of s n = if is_used s n && is_set s.linked n then Some (slice_index s.links n) else None

-- the map of a space's pages
unfoldable pub pages_of : Kept → PageMap
pages_of s = record { limit = s.limit; used = is_used s; next = next_of s }

-- What holds of what a space keeps: the bits above those of the pages are a summary of them, of the pages that were
-- never taken none has a bit, and the count is right.
pub record IsKept (s : Kept) (above used : ℕ) : Type 0 where
  pub start : s.first ≡ level_start above
  pub few : s.first < 2 ^ 34
  pub enough : (s.first + s.limit) / 64 ≤ s.first
  pub within : reached s ≤ s.limit
  pub room : length s.free ≡ (s.first + reached s) / 64 + 1
  pub summary : IsSummary s.free s.first
  pub behind : (n : ℕ) → reached s ≤ n → is_set s.free (s.first + n) ≡ false
  pub linked_room : length s.linked ≡ reached s / 64 + 1
  pub count : used ≡ used_count (pages_of s)

-- memory for each page was taken when the map was made
pub record HasRoom (limit first free linked links : ℕ) : Type 0 where
  pub for_free : (first + limit) / 64 + 1 ≤ free
  pub for_linked : limit / 64 + 1 ≤ linked
  pub for_links : limit ≤ links
