-- A map of the pages of one file: which of them are used, and a successor for each that is. Our own rule.
use Rattle.std.specs.Prelude.{◌≡◌, ℕ, ◌+◌, ◌<◌, zero, suc, Bool, true, false, Option, None, if◌then◌else◌}
use Rattle.hg_base.specs.Space.{at}

pub record PageMap : Type 0 where
  -- the numbers of pages are below it; it never changes
  pub limit : ℕ
  pub used : ℕ → Bool
  -- the number of a page's successor; None for a page that is not used
  pub next : ℕ → Option ℕ

-- what holds of every map: used pages are below the limit, and a page that is not used has no successor
pub record IsSound (m : PageMap) : Type 0 where
  pub within : (no : ℕ) → m.used no ≡ true → no < m.limit
  pub no_next : (no : ℕ) → m.used no ≡ false → m.next no ≡ None

-- the map of so many pages, none of them used
abbrev pub unused_pages : ℕ → PageMap
unused_pages limit = record { limit = limit; used = λ _. false; next = λ _. None }

-- how many pages below a number are used
abbrev pub count_below : PageMap → ℕ → ℕ
count_below m zero = 0
count_below m (suc n) = (if m.used n then 1 else 0) + count_below m n

abbrev pub used_count : PageMap → ℕ
used_count m = count_below m m.limit

abbrev pub IsUnused : PageMap → Type 0
IsUnused m = (no : ℕ) → m.used no ≡ false

abbrev pub IsFull : PageMap → Type 0
IsFull m = (no : ℕ) → no < m.limit → m.used no ≡ true

-- the lowest page that is not used
pub record IsLowestFree (m : PageMap) (no : ℕ) : Type 0 where
  pub below : no < m.limit
  pub free : m.used no ≡ false
  pub lower : (k : ℕ) → k < no → m.used k ≡ true

-- The changes of a map, each as the whole map after it.

-- a page is used from now on, with no successor
abbrev pub with_page : PageMap → ℕ → PageMap
with_page m page = record m { used = at m.used page true; next = at m.next page None }

abbrev pub without_page : PageMap → ℕ → PageMap
without_page m page = record m { used = at m.used page false; next = at m.next page None }

abbrev pub with_next : PageMap → ℕ → Option ℕ → PageMap
with_next m page to = record m { next = at m.next page to }
