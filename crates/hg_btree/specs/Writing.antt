-- What a write into a page leaves as it was, and what stands there after it.
use Rattle.std.specs.Prelude.{◌≡◌, ℕ, ◌+◌, ◌≤◌, List, length, take, drop}
use Rattle.hg_btree.specs.Nodes.{number}

-- of the first 16 bytes only the number of entries and the offset of the first free byte may differ
pub record KeepsHead (a b : List ℕ) : Type 0 where
  pub same_length : length b ≡ length a
  pub front : (m k : ℕ) → m + k ≤ 2 → take k (drop m b) ≡ take k (drop m a)
  pub back : (m k : ℕ) → 6 ≤ m → m + k ≤ 16 → take k (drop m b) ≡ take k (drop m a)

-- these two numbers were set
pub record SetsHead (a b : List ℕ) (count free : ℕ) : Type 0 where
  pub head : KeepsHead a b
  pub count_is : number b 2 ≡ count
  pub free_is : number b 4 ≡ free
  pub body : (m k : ℕ) → 6 ≤ m → take k (drop m b) ≡ take k (drop m a)
