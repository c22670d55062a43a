-- What a device of pages tells. Our own rule. The number of a page is any number here, and a page
-- that was never written is zeros.
use Rattle.std.specs.Prelude.{◌≡◌, ◌≢◌, ℕ, List, Bool, true, unwrap_or, replicate, slice_index_or}
use Rattle.std.specs.Ordering.{nat_cmp}
use Rattle.std.specs.BTreeMap.{BTreeMap, get}

-- a page of zeros
unfoldable pub zeros : List ℕ
zeros = replicate 4096 0

-- the page in a map from numbers to pages
abbrev pub page_at : BTreeMap ℕ (List ℕ) → ℕ → List ℕ
page_at pages q = unwrap_or (get nat_cmp pages q) zeros

-- the page in a list of pages
abbrev pub page_of : List (List ℕ) → ℕ → List ℕ
page_of pages q = slice_index_or pages q zeros

-- these bytes stand in the page
pub record GivesPage (told : Bool) (page : ℕ → List ℕ) (no : ℕ) (bytes : List ℕ) : Type 0 where
  pub same : told ≡ true → bytes ≡ page no

-- each page stays as it was
pub record SamePages (told : Bool) (old new : ℕ → List ℕ) : Type 0 where
  pub page : told ≡ true → (q : ℕ) → new q ≡ old q

-- each page but one stays as it was
pub record SameButOne (told : Bool) (old new : ℕ → List ℕ) (no : ℕ) : Type 0 where
  pub others : told ≡ true → (q : ℕ) → q ≢ no → new q ≡ old q
