-- Entries of an ordered tree, and their order. Our own rule.
use Rattle.std.specs.Prelude.{◌≡◌, ℕ, Bool, true, false, List, [], ◌∷◌, ⊤}
use Rattle.std.specs.Ordering.{nat_cmp, ordering_then, is_lt}
use Rattle.std.specs.Cmp.Lexicographic.{slice_cmp}
use Rattle.std.specs.declared.cmp.Ordering.{Ordering}

-- An entry: the bytes of its key, and a place. One of an inner page has the number of a page too, its
-- child; in a leaf that number is 0.
pub record Entry : Type 0 where
  pub key : List ℕ
  pub place : ℕ
  pub child : ℕ

-- entries are compared by the bytes of their keys, and then by their places
abbrev pub order : List ℕ → ℕ → List ℕ → ℕ → Ordering
order k p l q = ordering_then (slice_cmp nat_cmp k l) (nat_cmp p q)

-- the first stands before the second
unfoldable pub is_below : Entry → Entry → Bool
is_below x y = is_lt (order x.key x.place y.key y.place)

-- x is before y; x is not behind y; the key and the place are the same
abbrev pub Before : Entry → Entry → Type 0
Before x y = is_below x y ≡ true

abbrev pub NotBehind : Entry → Entry → Type 0
NotBehind x y = is_below y x ≡ false

pub record IsSame (x y : Entry) : Type 0 where
  pub key : x.key ≡ y.key
  pub place : x.place ≡ y.place

-- each entry is so
abbrev pub AllBy : (Entry → Type 0) → List Entry → Type 0
AllBy P [] = ⊤
AllBy P (x ∷ xs) = P x × AllBy P xs

-- each one stands so to all behind it
abbrev pub Ordered : (Entry → Entry → Type 0) → List Entry → Type 0
Ordered R [] = ⊤
Ordered R (x ∷ xs) = AllBy (R x) xs × Ordered R xs
