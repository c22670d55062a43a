-- Lists in another order: what is made of each element, what is kept, and the cross product.
use Rattle.std.specs.Prelude.{◌≡◌, ℕ, zero, suc, ◌<◌, Bool, true, false, List, [], ◌∷◌, ◌++◌, length, map, IsTrue, if◌then◌else◌}
use Rattle.std.specs.List.{AllByRecursion, filter, flat_map, list_all, swap}
use Rattle.std.specs.List.Sorted.{IsPermutation}
use Rattle.std.proofs.Common.{ap, subst, refl, append_assoc, arith, get_or}
use Rattle.std.proofs.Math.ListN.{set}
use Rattle.std.proofs.lemmas.List.Edits.{swap_is}
use Rattle.std.proofs.lemmas.List.Sorted.{All-permutation, IsPermutation-append, IsPermutation-append_comm, IsPermutation-append_left, IsPermutation-append_right, IsPermutation-keeps, IsPermutation-map, IsPermutation-refl, IsPermutation-sym, IsPermutation-trans}
use Rattle.std.proofs.lemmas.List.Sums.{AllPass-from_list_all, list_all-from_AllPass}
use Rattle.hg_model.specs.Tables.{cross}
use Rattle.hg_model.specs.declared.values.Value.{Value}

-- two parts change places in front of a third
turned : {X : Type 0} (xs ys zs : List X) → IsPermutation (xs ++ (ys ++ zs)) (ys ++ (xs ++ zs))
turned xs ys zs =
    subst (λ r. IsPermutation r (ys ++ (xs ++ zs))) (append_assoc xs ys zs)
    (subst (λ r. IsPermutation ((xs ++ ys) ++ zs) r) (append_assoc ys xs zs) (IsPermutation-append_left zs (xs ++ ys) (ys ++ xs) (IsPermutation-append_comm xs ys)))

-- ---- what is made of each element

module _ {X Y : Type 0} (f : X → List Y) where
  -- one element in the place of another
  placed : (xs : List X) (i : ℕ) (y d : X) → i < length xs → IsPermutation (f (get_or xs i d) ++ flat_map f (set xs i y)) (f y ++ flat_map f xs)
  placed [] i y d lt = absurd (omega arith)
  placed (x ∷ xs) zero y d lt = turned (f x) (f y) (flat_map f xs)
  placed (x ∷ xs) (suc i) y d lt =
      let inner = IsPermutation-append_right (f x) (f (get_or xs i d) ++ flat_map f (set xs i y)) (f y ++ flat_map f xs) (placed xs i y d (omega arith)) in
      IsPermutation-trans _ _ _ (turned (f (get_or xs i d)) (f x) (flat_map f (set xs i y))) (IsPermutation-trans _ _ _ inner (turned (f x) (f y) (flat_map f xs)))

  exchanged : (xs : List X) (i j : ℕ) (d : X) → i < length xs → j < length xs → IsPermutation (flat_map f xs) (flat_map f (set (set xs i (get_or xs j d)) j (get_or xs i d)))
  exchanged [] i j d p q = absurd (omega arith)
  exchanged (x ∷ xs) zero zero d p q = IsPermutation-refl (flat_map f (x ∷ xs))
  exchanged (x ∷ xs) zero (suc j) d p q = IsPermutation-sym _ _ (placed xs j x d (omega arith))
  exchanged (x ∷ xs) (suc i) zero d p q = IsPermutation-sym _ _ (placed xs i x d (omega arith))
  exchanged (x ∷ xs) (suc i) (suc j) d p q = IsPermutation-append_right (f x) _ _ (exchanged xs i j d (omega arith) (omega arith))

  exchanged-more : (first xs : List X) (i j : ℕ) → i < length xs → j < length xs → IsPermutation (flat_map f first) (flat_map f xs)
      → IsPermutation (flat_map f first) (flat_map f (swap xs i j))
  exchanged-more first [] i j p q h = absurd (omega arith)
  exchanged-more first (x ∷ xs) i j p q h =
      IsPermutation-trans _ _ _ h
      (subst (λ r. IsPermutation (flat_map f (x ∷ xs)) (flat_map f r)) (swap_is (x ∷ xs) i j x p q) (exchanged (x ∷ xs) i j x p q))

  pub flat_map-moved : (xs ys : List X) → IsPermutation xs ys → IsPermutation (flat_map f xs) (flat_map f ys)
  flat_map-moved xs ys s =
      IsPermutation-keeps xs (λ l. IsPermutation (flat_map f xs) (flat_map f l)) (IsPermutation-refl (flat_map f xs)) (exchanged-more xs) ys s

flat_map-each : {X Y : Type 0} (f g : X → List Y) (xs : List X) → ((x : X) → IsPermutation (f x) (g x)) → IsPermutation (flat_map f xs) (flat_map g xs)
flat_map-each f g [] h = IsPermutation-refl []
flat_map-each f g (x ∷ xs) h = IsPermutation-append (f x) (g x) (flat_map f xs) (flat_map g xs) (h x) (flat_map-each f g xs h)

-- ---- what is kept

module _ {X : Type 0} (p : X → Bool) where
  abbrev kept : X → List X
  kept x = if p x then x ∷ [] else []

  filter-flat_map : (xs : List X) → flat_map kept xs ≡ filter p xs
  filter-flat_map [] = refl
  filter-flat_map (x ∷ xs) = by (p x) (filter-flat_map xs)
    where
      by : (b : Bool) → flat_map kept xs ≡ filter p xs → (if b then x ∷ [] else []) ++ flat_map kept xs ≡ (if b then x ∷ filter p xs else filter p xs)
      by true h = ap (λ r. x ∷ r) h
      by false h = h

  pub filter-moved : (xs ys : List X) → IsPermutation xs ys → IsPermutation (filter p xs) (filter p ys)
  filter-moved xs ys s =
      subst (λ r. IsPermutation r (filter p ys)) (filter-flat_map xs)
      (subst (λ r. IsPermutation (flat_map kept xs) r) (filter-flat_map ys) (flat_map-moved kept xs ys s))

  pub list_all-moved : (xs ys : List X) → IsPermutation xs ys → IsTrue (list_all p xs) → IsTrue (list_all p ys)
  list_all-moved xs ys s h = list_all-from_AllPass p ys (All-permutation (λ x. p x ≡ true) xs ys s (AllPass-from_list_all p xs h))

-- ---- the cross product

pub cross-moved : (g h : ℕ → List (List Value)) (ns : List ℕ) → AllByRecursion (λ n. IsPermutation (g n) (h n)) ns → IsPermutation (cross (map g ns)) (cross (map h ns))
cross-moved g h [] each = IsPermutation-refl (cross [])
cross-moved g h (n ∷ ns) each =
    IsPermutation-trans _ _ _
    (flat_map-each (λ row. map (λ rest. row ++ rest) (cross (map g ns))) (λ row. map (λ rest. row ++ rest) (cross (map h ns))) (g n)
    (λ row. IsPermutation-map (λ rest. row ++ rest) (cross (map g ns)) (cross (map h ns)) (cross-moved g h ns each.1)))
    (flat_map-moved (λ row. map (λ rest. row ++ rest) (cross (map h ns))) (g n) (h n) each.0)
