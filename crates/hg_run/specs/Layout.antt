-- Which page of a run each record stands on, and how many pages records take. Our own rule: each page
-- holds what fits, one record behind the other.
use Rattle.std.specs.Prelude.{ℕ, ◌+◌, ◌-◌, Bool, nat_le, List, [], ◌∷◌, ◌++◌, length, if◌then◌else◌}

-- how many bytes records take on a page, each with its two bytes of length
abbrev pub used : List (List ℕ) → ℕ
used [] = 0
used (r ∷ rs) = 2 + length r + used rs

-- one record more fits a page: there are 4,080 bytes behind its head
abbrev pub fits : List (List ℕ) → List ℕ → Bool
fits page r = nat_le (used page + (2 + length r)) 4080

-- a record goes to the last page where it fits there, and else to a new page
abbrev pub with_record : List (List (List ℕ)) → List ℕ → List (List (List ℕ))
with_record [] r = (r ∷ []) ∷ []
with_record (page ∷ []) r = if fits page r then (page ++ r ∷ []) ∷ [] else page ∷ (r ∷ []) ∷ []
with_record (page ∷ next ∷ pages) r = page ∷ with_record (next ∷ pages) r

-- the records of each page, one record put behind the other
abbrev pub layout_behind : List (List (List ℕ)) → List (List ℕ) → List (List (List ℕ))
layout_behind pages [] = pages
layout_behind pages (r ∷ rs) = layout_behind (with_record pages r) rs

abbrev pub layout : List (List ℕ) → List (List (List ℕ))
layout rs = layout_behind [] rs

-- how many pages more records of these lengths take where so many bytes are free on the last page
abbrev pub pages_more : ℕ → List ℕ → ℕ
pages_more free [] = 0
pages_more free (n ∷ ns) = if nat_le (2 + n) free then pages_more (free - (2 + n)) ns else 1 + pages_more (4080 - (2 + n)) ns

-- how many pages a run of records of these lengths has
abbrev pub pages_for : List ℕ → ℕ
pages_for ns = pages_more 0 ns
