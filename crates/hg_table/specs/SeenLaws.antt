-- Laws of the rows that a snapshot sees.
use Rattle.std.specs.Prelude.{◌≡◌, ℕ, ◌<◌, ◌≤◌, ◌&&◌, nat_lt, nat_le, Bool, true, false, List, [], ◌∷◌, ◌++◌, Option, Some, None, MatchOption, ⊤, map, if◌then◌else◌}
use Rattle.std.specs.List.{filter, AllByRecursion}
use Rattle.std.specs.List.Sorted.{IsPermutation}
use Rattle.std.proofs.Common.{sym, ◌∙◌, ap, subst, refl, arith, inl, inr}
use Rattle.std.proofs.lemmas.Bool.Decides.{nat_tests}
use Rattle.std.proofs.lemmas.List.{map-append}
use Rattle.std.proofs.lemmas.List.Elements.{filter-append}
use Rattle.std.proofs.lemmas.List.Sorted.{IsPermutation-trans, IsPermutation-sym, IsPermutation-middle, IsPermutation-to_front}
use Rattle.hg_base.specs.declared.Place.{Place}
use Rattle.hg_model.specs.Visible.{is_alive}
use Rattle.hg_model.specs.declared.values.Value.{Value}
use Rattle.hg_table.specs.Versions.{Placed}
use Rattle.hg_table.specs.Calls.{newborn}
use Rattle.hg_table.specs.Seen.{is_seen, row_of, seen_rows, IsPast, Misses}

pub lt-yes : (a b : ℕ) → a < b → nat_lt a b ≡ true
lt-yes a b h = grind (arith, nat_tests)

pub lt-no : (a b : ℕ) → b ≤ a → nat_lt a b ≡ false
lt-no a b h = grind (arith, nat_tests)

le-yes : (a b : ℕ) → a ≤ b → nat_le a b ≡ true
le-yes a b h = grind (arith, nat_tests)

-- a later snapshot sees a past version as an earlier one does
alive-later : (c d : ℕ → Bool) (n m : ℕ) (died : Option ℕ) → ((k : ℕ) → k ≤ n → d k ≡ c k) → n ≤ m
    → MatchOption died ⊤ (λ k. k ≤ n) → is_alive d m died ≡ is_alive c n died
alive-later c d n m None agree later past = refl
alive-later c d n m (Some k) agree later past = rw (agree k past, lt-no n k past, lt-no m k (omega arith)) refl

pub seen-later : (c d : ℕ → Bool) (n m : ℕ) (v : Placed) → ((k : ℕ) → k ≤ n → d k ≡ c k) → n ≤ m → IsPast n v → is_seen d m v ≡ is_seen c n v
seen-later c d n m v agree later past =
    rw (
      agree v.version.born past.born,
      alive-later c d n m v.version.died agree later past.died,
      le-yes v.version.born n past.born,
      le-yes v.version.born m (let b = past.born in omega arith),
    ) refl

pub seen_rows-cons : (c : ℕ → Bool) (n : ℕ) (v : Placed) (vs : List Placed)
    → seen_rows c n (v ∷ vs) ≡ (if is_seen c n v then row_of v ∷ seen_rows c n vs else seen_rows c n vs)
seen_rows-cons c n v vs = elim (is_seen c n v) as (λ b. map row_of (if b then v ∷ filter (is_seen c n) vs else filter (is_seen c n) vs) ≡ (if b then row_of v ∷ seen_rows c n vs else seen_rows c n vs)) [
  | true ↦ refl
  | false ↦ refl
]

pub seen_rows-later : (c d : ℕ → Bool) (n m : ℕ) (vs : List Placed) → ((k : ℕ) → k ≤ n → d k ≡ c k) → n ≤ m
    → AllByRecursion (IsPast n) vs → seen_rows d m vs ≡ seen_rows c n vs
seen_rows-later c d n m [] agree later past = refl
seen_rows-later c d n m (v ∷ vs) agree later past =
    seen_rows-cons d m v vs
    ∙ ap (λ b. if b then row_of v ∷ seen_rows d m vs else seen_rows d m vs) (seen-later c d n m v agree later past.0)
    ∙ ap (λ rs. if is_seen c n v then row_of v ∷ rs else rs) (seen_rows-later c d n m vs agree later past.1)
    ∙ sym (seen_rows-cons c n v vs)

pub past-later : (n m : ℕ) (vs : List Placed) → n ≤ m → AllByRecursion (IsPast n) vs → AllByRecursion (IsPast m) vs
past-later n m [] later past = tt
past-later n m (v ∷ vs) later past = (past-one n m v later past.0, past-later n m vs later past.1)
  where
    died-later : (n m : ℕ) (died : Option ℕ) → n ≤ m → MatchOption died ⊤ (λ k. k ≤ n) → MatchOption died ⊤ (λ k. k ≤ m)
    died-later n m None later past = tt
    died-later n m (Some k) later past = omega arith

    past-one : (n m : ℕ) (v : Placed) → n ≤ m → IsPast n v → IsPast m v
    past-one n m v later past = record { born = let b = past.born in omega arith; died = died-later n m v.version.died later past.died }

pub seen_rows-append : (c : ℕ → Bool) (n : ℕ) (xs ys : List Placed) → seen_rows c n (xs ++ ys) ≡ seen_rows c n xs ++ seen_rows c n ys
seen_rows-append c n xs ys =
    ap (map row_of) (filter-append (is_seen c n) xs ys) ∙ map-append row_of (filter (is_seen c n) xs) (filter (is_seen c n) ys)

pub past-middle : (n : ℕ) (xs : List Placed) (v : Placed) (ys : List Placed) → IsPast n v → AllByRecursion (IsPast n) (xs ++ ys)
    → AllByRecursion (IsPast n) (xs ++ v ∷ ys)
past-middle n [] v ys here past = (here, past)
past-middle n (x ∷ xs) v ys here past = (past.0, past-middle n xs v ys here past.1)

le-no : (a b : ℕ) → b < a → nat_le a b ≡ false
le-no a b h = grind (arith, nat_tests)

and-none : (a b : Bool) → b ≡ false → (a && b) ≡ false
and-none true b h = h
and-none false b h = refl

-- who misses the stamp sees no change
pub newborn-unseen : (c : ℕ → Bool) (n stamp : ℕ) (row : List Value) (p : Place) (xs ys : List Placed) → Misses c n stamp
    → seen_rows c n (xs ++ newborn row stamp p ∷ ys) ≡ seen_rows c n (xs ++ ys)
newborn-unseen c n stamp row p xs ys missed =
    let v : Placed = newborn row stamp p in
    let none : is_seen c n v ≡ false = elim missed [
      | inl hidden ↦ rw hidden refl
      | inr earlier ↦ and-none (c stamp) (nat_le stamp n && true) (rw (le-no stamp n earlier) refl)
    ] in
    seen_rows-append c n xs (v ∷ ys)
    ∙ ap (λ rs. seen_rows c n xs ++ rs) (seen_rows-cons c n v ys ∙ ap (λ b. if b then row_of v ∷ seen_rows c n ys else seen_rows c n ys) none)
    ∙ sym (seen_rows-append c n xs ys)

-- who sees the stamp sees one row more
pub newborn-seen : (c : ℕ → Bool) (n stamp : ℕ) (row : List Value) (p : Place) (xs ys : List Placed) → c stamp ≡ true → stamp ≤ n
    → IsPermutation (seen_rows c n (xs ++ newborn row stamp p ∷ ys)) (seen_rows c n (xs ++ ys) ++ row ∷ [])
newborn-seen c n stamp row p xs ys shown later =
    let v : Placed = newborn row stamp p in
    let one : is_seen c n v ≡ true = rw (shown, le-yes stamp n later) refl in
    let us : List (List Value) = seen_rows c n xs in
    let ws : List (List Value) = seen_rows c n ys in
    let is : seen_rows c n (xs ++ v ∷ ys) ≡ us ++ row ∷ ws =
    seen_rows-append c n xs (v ∷ ys) ∙ ap (λ rs. us ++ rs) (seen_rows-cons c n v ys ∙ ap (λ b. if b then row ∷ ws else ws) one) in
    let P : List (List Value) → Type 0 = λ rs. IsPermutation rs ((us ++ ws) ++ row ∷ []) in
    let moved : P (us ++ row ∷ ws) = IsPermutation-trans (us ++ row ∷ ws) (row ∷ (us ++ ws)) ((us ++ ws) ++ row ∷ [])
    (IsPermutation-middle us row ws) (IsPermutation-sym ((us ++ ws) ++ row ∷ []) (row ∷ (us ++ ws)) (IsPermutation-to_front (us ++ ws) row)) in
    let Q : List (List Value) → Type 0 = λ rs. IsPermutation (seen_rows c n (xs ++ v ∷ ys)) (rs ++ row ∷ []) in
    subst Q (sym (seen_rows-append c n xs ys)) (subst P (sym is) moved)
