-- Keys compare as their values do.
use Rattle.std.proofs.Common.{◌≡◌, ℕ, ℤ, pos, negsuc, zero, suc, ◌+◌, ◌*◌, ◌/◌, ◌%◌, ◌^◌, ◌<◌, ◌≤◌, true, List, [], ◌∷◌, ◌++◌, refl, sym, ap, ◌∙◌, arith, inl, inr, append_assoc}
use Rattle.std.specs.declared.cmp.Ordering.{Ordering}
use Rattle.std.specs.declared.cmp.Ordering.TheVariants.{Less, Equal, Greater}
use Rattle.std.specs.Cmp.Lexicographic.{slice_cmp}
use Rattle.std.specs.Int.{byte_at, bytes_high_first}
use Rattle.std.specs.Ordering.{nat_cmp, int_cmp, ordering_then}
use Rattle.std.proofs.Math.Nat.{mul-le-mul_right, one-le-pow, pow-suc}
use Rattle.std.proofs.lemmas.Bool.{cases_order, and_parts}
use Rattle.std.proofs.lemmas.Bool.Decides.{nat_tests}
use Rattle.std.proofs.lemmas.Int.{ints}
use Rattle.std.proofs.lemmas.Nat.{mod_below}
use Rattle.std.specs.Prelude.{nat_abs, IsTrue, FitsSigned}
use Rattle.std.specs.Int.{w128}
use Rattle.std.specs.List.{list_all}
use Rattle.std.proofs.lemmas.Cmp.{ranked, int_ranked, tied_itself, nat_list_cmp_total}
use Rattle.hg_model.specs.Order.{value_cmp}
use Rattle.hg_model.specs.Tables.{fits_integer}
use Rattle.hg_model.specs.Value.{is_printable, is_chars}
use Rattle.hg_model.specs.declared.values.Value.{Value}
use Rattle.hg_model.specs.declared.values.Value.TheVariants.{Null, Int, Text}
use Rattle.hg_value.specs.Coding.{IsHeld}
use Rattle.hg_value.specs.Laws.{KeysCompare, ColumnsCompare, KeysTell, IsIndexed}
use lib.Arith.{mod-mul}
use Rattle.hg_value.specs.Keys.{raised, narrow_raised, wide_raised, index_key, working_key, key_of_columns}

pub then_assoc : (a b c : Ordering) → ordering_then (ordering_then a b) c ≡ ordering_then a (ordering_then b c)
then_assoc Less b c = refl
then_assoc Equal b c = refl
then_assoc Greater b c = refl

less_is : (a b : ℕ) → a < b → nat_cmp a b ≡ Less
less_is a b h = grind (arith, nat_tests)

greater_is : (a b : ℕ) → b < a → nat_cmp a b ≡ Greater
greater_is a b h = grind (arith, nat_tests)

pub equal_is : (a : ℕ) → nat_cmp a a ≡ Equal
equal_is a = grind (arith, nat_tests)

-- two numbers of a high and a low part
place_cmp : (a b r s n : ℕ) → r < n → s < n → nat_cmp (a * n + r) (b * n + s) ≡ ordering_then (nat_cmp a b) (nat_cmp r s)
place_cmp a b r s n p q = elim (cases_order a b) [
  | inl e ↦ (let low : nat_cmp (a * n + r) (a * n + s) ≡ nat_cmp r s = grind (arith, nat_tests) in
      ap (λ m. nat_cmp (a * n + r) (m * n + s)) (sym e) ∙ low ∙ ap (λ o. ordering_then o (nat_cmp r s)) (sym (equal_is a) ∙ ap (nat_cmp a) e))
  | inr (inl l) ↦ less_is (a * n + r) (b * n + s) (omega (arith, mul-le-mul_right n l)) ∙ ap (λ o. ordering_then o (nat_cmp r s)) (sym (less_is a b l))
  | inr (inr g) ↦ greater_is (a * n + r) (b * n + s) (omega (arith, mul-le-mul_right n g)) ∙ ap (λ o. ordering_then o (nat_cmp r s)) (sym (greater_is a b g))
]

byte_at_is : (k n : ℕ) → byte_at k n ≡ n / 256 ^ k % 256
byte_at_is zero n = omega arith
byte_at_is (suc k) n = refl

-- a number's lowest bytes: the highest of them, and the others
lowest : (k n : ℕ) → n % 256 ^ suc k ≡ byte_at k n * 256 ^ k + n % 256 ^ k
lowest k n =
    let p : 0 < 256 ^ k = one-le-pow k 256 (omega arith) in
    ap (λ m. n % m) (omega (arith, pow-suc 256 k)) ∙ mod-mul n {m = 256} {c = 256 ^ k} (omega arith) p
    ∙ ap (λ b. b * 256 ^ k + n % 256 ^ k) (sym (byte_at_is k n))

-- bytes, the highest first, compare as the numbers
pub high_first_cmp : (k m n : ℕ) (xs ys : List ℕ) → slice_cmp nat_cmp (bytes_high_first k m ++ xs) (bytes_high_first k n ++ ys)
    ≡ ordering_then (nat_cmp (m % 256 ^ k) (n % 256 ^ k)) (slice_cmp nat_cmp xs ys)
high_first_cmp zero m n xs ys =
    let p : m % 1 ≡ n % 1 = omega arith in
    ap (λ o. ordering_then o (slice_cmp nat_cmp xs ys)) (sym (equal_is (m % 1)) ∙ ap (nat_cmp (m % 1)) p)
high_first_cmp (suc k) m n xs ys =
    let p : 0 < 256 ^ k = one-le-pow k 256 (omega arith) in
    let q : m % 256 ^ k < 256 ^ k = mod_below m (256 ^ k) p in
    let r : n % 256 ^ k < 256 ^ k = mod_below n (256 ^ k) p in
    let whole : nat_cmp (m % 256 ^ suc k) (n % 256 ^ suc k) ≡ ordering_then (nat_cmp (byte_at k m) (byte_at k n)) (nat_cmp (m % 256 ^ k) (n % 256 ^ k)) =
    (λ i. nat_cmp (lowest k m i) (lowest k n i)) ∙ place_cmp (byte_at k m) (byte_at k n) (m % 256 ^ k) (n % 256 ^ k) (256 ^ k) q r in
    ap (ordering_then (nat_cmp (byte_at k m) (byte_at k n))) (high_first_cmp k m n xs ys)
    ∙ sym (then_assoc (nat_cmp (byte_at k m) (byte_at k n)) (nat_cmp (m % 256 ^ k) (n % 256 ^ k)) (slice_cmp nat_cmp xs ys))
    ∙ ap (λ o. ordering_then o (slice_cmp nat_cmp xs ys)) (sym whole)

-- numbers that are moved up compare as they did
raised_cmp : (k : ℕ) (x y : ℤ) → nat_abs x ≤ 2 ^ k → nat_abs y ≤ 2 ^ k → nat_cmp (raised k x) (raised k y) ≡ int_cmp x y
raised_cmp k (pos a) (pos b) p q = grind (arith, nat_tests, ints)
raised_cmp k (pos a) (negsuc b) p q = grind (arith, nat_tests, ints)
raised_cmp k (negsuc a) (pos b) p q = grind (arith, nat_tests, ints)
raised_cmp k (negsuc a) (negsuc b) p q = grind (arith, nat_tests, ints)

narrow_bound : (x : ℤ) → IsTrue (fits_integer x) → nat_abs x ≤ 2 ^ 31
narrow_bound (pos n) h = grind (arith, nat_tests)
narrow_bound (negsuc n) h = grind (arith, nat_tests)

raised_narrow : (x : ℤ) → IsTrue (fits_integer x) → raised 31 x % 256 ^ 4 ≡ raised 31 x
raised_narrow (pos n) h = grind (arith, nat_tests)
raised_narrow (negsuc n) h = grind (arith, nat_tests)

wide_bound : (x : ℤ) → FitsSigned w128 x → nat_abs x ≤ 2 ^ 127
wide_bound (pos n) h = omega (arith, h.sfits)
wide_bound (negsuc n) h = omega (arith, h.sfits)

raised_wide : (x : ℤ) → FitsSigned w128 x → raised 127 x % 256 ^ 16 ≡ raised 127 x
raised_wide (pos n) h = omega (arith, h.sfits)
raised_wide (negsuc n) h = omega (arith, h.sfits)

narrow_raised_cmp : (x y : ℤ) (xs ys : List ℕ) → IsTrue (fits_integer x) → IsTrue (fits_integer y)
    → slice_cmp nat_cmp (narrow_raised x ++ xs) (narrow_raised y ++ ys) ≡ ordering_then (int_cmp x y) (slice_cmp nat_cmp xs ys)
unfolding narrow_raised
narrow_raised_cmp x y xs ys p q =
    high_first_cmp 4 (raised 31 x) (raised 31 y) xs ys
    ∙ ap (λ o. ordering_then o (slice_cmp nat_cmp xs ys))
    ((λ i. nat_cmp (raised_narrow x p i) (raised_narrow y q i)) ∙ raised_cmp 31 x y (narrow_bound x p) (narrow_bound y q))

wide_raised_cmp : (x y : ℤ) (xs ys : List ℕ) → FitsSigned w128 x → FitsSigned w128 y
    → slice_cmp nat_cmp (wide_raised x ++ xs) (wide_raised y ++ ys) ≡ ordering_then (int_cmp x y) (slice_cmp nat_cmp xs ys)
unfolding wide_raised
wide_raised_cmp x y xs ys p q =
    high_first_cmp 16 (raised 127 x) (raised 127 y) xs ys
    ∙ ap (λ o. ordering_then o (slice_cmp nat_cmp xs ys))
    ((λ i. nat_cmp (raised_wide x p i) (raised_wide y q i)) ∙ raised_cmp 127 x y (wide_bound x p) (wide_bound y q))

-- texts that end in a byte below their own bytes
ended_cmp : (s t xs ys : List ℕ) → list_all is_printable s ≡ true → list_all is_printable t ≡ true
    → slice_cmp nat_cmp ((s ++ 0 ∷ []) ++ xs) ((t ++ 0 ∷ []) ++ ys) ≡ ordering_then (slice_cmp nat_cmp s t) (slice_cmp nat_cmp xs ys)
ended_cmp [] [] xs ys p q = refl
ended_cmp [] (b ∷ t) xs ys p q = ap (λ o. ordering_then o (slice_cmp nat_cmp xs ((t ++ 0 ∷ []) ++ ys))) (less_is 0 b (grind (arith, nat_tests)))
ended_cmp (a ∷ s) [] xs ys p q = ap (λ o. ordering_then o (slice_cmp nat_cmp ((s ++ 0 ∷ []) ++ xs) ys)) (greater_is a 0 (grind (arith, nat_tests)))
ended_cmp (a ∷ s) (b ∷ t) xs ys p q =
    ap (ordering_then (nat_cmp a b)) (ended_cmp s t xs ys (and_parts _ _ p).1 (and_parts _ _ q).1)
    ∙ sym (then_assoc (nat_cmp a b) (slice_cmp nat_cmp s t) (slice_cmp nat_cmp xs ys))

chars_printable : (t : List ℕ) → IsTrue (is_chars t) → list_all is_printable t ≡ true
chars_printable t h = (and_parts _ _ h).0

pub index_key_cmp : KeysCompare index_key IsIndexed
index_key_cmp Null Null xs ys p q o = refl
index_key_cmp Null (Int y) xs ys p q o = refl
index_key_cmp Null (Text t) xs ys p q o = refl
index_key_cmp (Int x) Null xs ys p q o = refl
index_key_cmp (Text s) Null xs ys p q o = refl
index_key_cmp (Int x) (Int y) xs ys p q o = narrow_raised_cmp x y xs ys p.1 q.1
index_key_cmp (Text s) (Text t) xs ys p q o = ended_cmp s t xs ys (chars_printable s p.0) (chars_printable t q.0)
index_key_cmp (Int x) (Text t) xs ys p q o = absurd o
index_key_cmp (Text s) (Int y) xs ys p q o = absurd o

pub working_key_cmp : KeysCompare working_key IsHeld
working_key_cmp Null Null xs ys p q o = refl
working_key_cmp Null (Int y) xs ys p q o = refl
working_key_cmp Null (Text t) xs ys p q o = refl
working_key_cmp (Int x) Null xs ys p q o = refl
working_key_cmp (Text s) Null xs ys p q o = refl
working_key_cmp (Int x) (Int y) xs ys p q o = wide_raised_cmp x y xs ys p q
working_key_cmp (Text s) (Text t) xs ys p q o = ended_cmp s t xs ys (chars_printable s p) (chars_printable t q)
working_key_cmp (Int x) (Text t) xs ys p q o = absurd o
working_key_cmp (Text s) (Int y) xs ys p q o = absurd o

-- ---- what is equal

pub then_equal : (a b : Ordering) → ordering_then a b ≡ Equal → (a ≡ Equal) × (b ≡ Equal)
then_equal Less b e = absurd cc
then_equal Equal b e = (refl, e)
then_equal Greater b e = absurd cc

same_number : (a b : ℕ) → nat_cmp a b ≡ Equal → a ≡ b
same_number a b e = let r = ranked a b Equal (sym e) in r

pub same_bytes : (xs ys : List ℕ) → slice_cmp nat_cmp xs ys ≡ Equal → xs ≡ ys
same_bytes [] [] e = refl
same_bytes [] (y ∷ ys) e = absurd cc
same_bytes (x ∷ xs) [] e = absurd cc
same_bytes (x ∷ xs) (y ∷ ys) e =
    let both = then_equal (nat_cmp x y) (slice_cmp nat_cmp xs ys) e in
    λ i. same_number x y both.0 i ∷ same_bytes xs ys both.1 i

same_value : (v w : Value) → value_cmp v w ≡ Equal → v ≡ w
same_value Null Null e = refl
same_value Null (Int y) e = absurd cc
same_value Null (Text t) e = absurd cc
same_value (Int x) Null e = absurd cc
same_value (Int x) (Int y) e = let r : x ≡ y = int_ranked x y Equal (sym e) in ap Int r
same_value (Int x) (Text t) e = absurd cc
same_value (Text s) Null e = absurd cc
same_value (Text s) (Int y) e = absurd cc
same_value (Text s) (Text t) e = ap Text (same_bytes s t e)

same_rows : (vs ws : List Value) → slice_cmp value_cmp vs ws ≡ Equal → vs ≡ ws
same_rows [] [] e = refl
same_rows [] (w ∷ ws) e = absurd cc
same_rows (v ∷ vs) [] e = absurd cc
same_rows (v ∷ vs) (w ∷ ws) e =
    let both = then_equal (value_cmp v w) (slice_cmp value_cmp vs ws) e in
    λ i. same_value v w both.0 i ∷ same_rows vs ws both.1 i

-- ---- several columns

module _ (key : Value → List ℕ) (Fits : Value → Type 0) (one : KeysCompare key Fits) where
  pub columns_cmp : ColumnsCompare key Fits
  columns_cmp [] [] xs ys p q o = refl
  columns_cmp [] (w ∷ ws) xs ys p q o = absurd o
  columns_cmp (v ∷ vs) [] xs ys p q o = absurd o
  columns_cmp (v ∷ vs) (w ∷ ws) xs ys p q o =
      (λ i. slice_cmp nat_cmp (append_assoc (key v) (key_of_columns key vs) xs i) (append_assoc (key w) (key_of_columns key ws) ys i))
      ∙ one v w (key_of_columns key vs ++ xs) (key_of_columns key ws ++ ys) p.0 q.0 o.0
      ∙ ap (ordering_then (value_cmp v w)) (columns_cmp vs ws xs ys p.1 q.1 o.1)
      ∙ sym (then_assoc (value_cmp v w) (slice_cmp value_cmp vs ws) (slice_cmp nat_cmp xs ys))

  pub columns_tell : KeysTell key Fits
  columns_tell vs ws xs ys p q o e =
      let all : ordering_then (slice_cmp value_cmp vs ws) (slice_cmp nat_cmp xs ys) ≡ Equal =
      sym (columns_cmp vs ws xs ys p q o) ∙ ap (slice_cmp nat_cmp (key_of_columns key vs ++ xs)) (sym e) ∙ tied_itself nat_list_cmp_total (key_of_columns key vs ++ xs) in
      let both = then_equal (slice_cmp value_cmp vs ws) (slice_cmp nat_cmp xs ys) all in
      (same_rows vs ws both.0, same_bytes xs ys both.1)
