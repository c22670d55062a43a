-- Laws of the order of entries.
use Rattle.std.specs.Prelude.{◌≡◌, ℕ, ◌<◌, ◌≤◌, Bool, true, false, List, [], ◌∷◌, ◌++◌}
use Rattle.std.specs.Ordering.{nat_cmp, ordering_then, ordering_reverse, is_lt, is_gt}
use Rattle.std.specs.Cmp.{IsTotalOrder}
use Rattle.std.specs.Cmp.Lexicographic.{slice_cmp}
use Rattle.std.specs.declared.cmp.Ordering.{Ordering}
use Rattle.std.specs.declared.cmp.Ordering.TheVariants.{Less, Equal, Greater}
use Rattle.std.proofs.Common.{sym, ◌∙◌, ap, refl, arith}
use Rattle.std.proofs.lemmas.Bool.{false≢true}
use Rattle.std.proofs.lemmas.Bool.Decides.{nat_tests}
use Rattle.std.proofs.lemmas.Cmp.{nat_cmp_total, nat_list_cmp_total, on_total, then_total, upto, tied_itself}
use Rattle.hg_btree.specs.Entries.{Entry, order, is_below, Before, NotBehind}
use Rattle.hg_index.specs.Walks.{HasPrefix, entry_at}

abbrev by_key : Entry → Entry → Ordering
by_key x y = order x.key x.place y.key y.place

total : IsTotalOrder by_key
total = then_total (on_total (λ (e : Entry). e.key) nat_list_cmp_total) (on_total (λ (e : Entry). e.place) nat_cmp_total)

below-is : (x y : Entry) → is_below x y ≡ is_lt (order x.key x.place y.key y.place)
unfolding is_below
below-is x y = refl

before_less : (x y : Entry) → Before x y → by_key x y ≡ Less
before_less x y h = only (by_key x y) (sym (below-is x y) ∙ h)
  where
    only : (o : Ordering) → is_lt o ≡ true → o ≡ Less
    only Less e = refl
    only Equal e = absurd (false≢true e)
    only Greater e = absurd (false≢true e)

not_behind_gt : (x y : Entry) → NotBehind x y → is_gt (by_key x y) ≡ false
not_behind_gt x y h = ap is_gt (total.antisymm x y) ∙ turned (by_key y x) (sym (below-is y x) ∙ h)
  where
    turned : (o : Ordering) → is_lt o ≡ false → is_gt (ordering_reverse o) ≡ false
    turned Less e = absurd (false≢true (sym e))
    turned Equal e = refl
    turned Greater e = refl

gt_not_behind : (x y : Entry) → is_gt (by_key x y) ≡ false → NotBehind x y
gt_not_behind x y h = below-is y x ∙ turned (by_key y x) (ap is_gt (sym (total.antisymm x y)) ∙ h)
  where
    turned : (o : Ordering) → is_gt (ordering_reverse o) ≡ false → is_lt o ≡ false
    turned Less e = absurd (false≢true (sym e))
    turned Equal e = refl
    turned Greater e = refl

not_behind_trans : (x y z : Entry) → NotBehind x y → NotBehind y z → NotBehind x z
not_behind_trans x y z h g = gt_not_behind x z (upto total x y z (not_behind_gt x y h) (not_behind_gt y z g))

pub before_not_behind : (x y : Entry) → Before x y → NotBehind x y
before_not_behind x y h = gt_not_behind x y (ap is_gt (before_less x y h))

-- x before y, and y not behind z
pub before_then : (x y z : Entry) → Before x y → NotBehind y z → Before x z
before_then x y z h g = by_cases (is_below x z) refl
  where
    by_cases : (b : Bool) → is_below x z ≡ b → Before x z
    by_cases true e = e
    -- else z is not behind x, so y is not behind x
    by_cases false e = absurd (false≢true (sym (not_behind_trans y z x g e) ∙ h))

pub then_before : (x y z : Entry) → NotBehind x y → Before y z → Before x z
then_before x y z h g = by_cases (is_below x z) refl
  where
    by_cases : (b : Bool) → is_below x z ≡ b → Before x z
    by_cases true e = e
    by_cases false e = absurd (false≢true (sym (not_behind_trans z x y e h) ∙ g))

pub not_behind_itself : (x : Entry) → NotBehind x x
not_behind_itself x = gt_not_behind x x (ap is_gt (tied_itself total x))

pub not_before_itself : (x : Entry) → Before x x → ⊥
not_before_itself x h = false≢true (sym (not_behind_itself x) ∙ h)

-- ---- keys

abbrev pub keys_cmp : List ℕ → List ℕ → Ordering
keys_cmp = slice_cmp nat_cmp

nat_same : (x y : ℕ) → nat_cmp x y ≡ Equal → x ≡ y
nat_same x y e = grind (arith, nat_tests)

nat_less : (x y : ℕ) → x < y → nat_cmp x y ≡ Less
nat_less x y h = grind (arith, nat_tests)

nat_lt_less : (x y : ℕ) → is_lt (nat_cmp x y) ≡ true → x < y
nat_lt_less x y h = grind (arith, nat_tests)

nat_not_gt : (x y : ℕ) → is_gt (nat_cmp x y) ≡ false → x ≤ y
nat_not_gt x y h = grind (arith, nat_tests)

list_same : (xs ys : List ℕ) → keys_cmp xs ys ≡ Equal → xs ≡ ys
list_same [] [] e = refl
list_same [] (y ∷ ys) e = absurd (let n : ◌≡◌ {A = Ordering} Less Equal = e in cc)
list_same (x ∷ xs) [] e = absurd (let n : ◌≡◌ {A = Ordering} Greater Equal = e in cc)
list_same (x ∷ xs) (y ∷ ys) e =
    let p = both (nat_cmp x y) (keys_cmp xs ys) e in
    ap (λ z. z ∷ xs) (nat_same x y p.0) ∙ ap (λ r. y ∷ r) (list_same xs ys p.1)
  where
    both : (o p : Ordering) → ordering_then o p ≡ Equal → (o ≡ Equal) × (p ≡ Equal)
    both Less p h = absurd (let n : ◌≡◌ {A = Ordering} Less Equal = h in cc)
    both Equal p h = (refl, h)
    both Greater p h = absurd (let n : ◌≡◌ {A = Ordering} Greater Equal = h in cc)

list_itself : (xs : List ℕ) → keys_cmp xs xs ≡ Equal
list_itself xs = tied_itself nat_list_cmp_total xs

-- an order by a key and then a place that is not greater is not by the key alone
key_not_gt : (o p : Ordering) → is_gt (ordering_then o p) ≡ false → is_gt o ≡ false
key_not_gt Less p h = refl
key_not_gt Equal p h = refl
key_not_gt Greater p h = h

pub key_upto : (x y : Entry) → NotBehind x y → is_gt (keys_cmp x.key y.key) ≡ false
key_upto x y h = key_not_gt (keys_cmp x.key y.key) (nat_cmp x.place y.place) (not_behind_gt x y h)

-- two keys neither of which is greater are one
pub keys_one : (k l : List ℕ) → is_gt (keys_cmp k l) ≡ false → is_gt (keys_cmp l k) ≡ false → k ≡ l
keys_one k l h g = list_same k l (only (keys_cmp k l) h (ap is_gt (sym (nat_list_cmp_total.antisymm l k)) ∙ g))
  where
    only : (o : Ordering) → is_gt o ≡ false → is_gt (ordering_reverse o) ≡ false → o ≡ Equal
    only Less h g = absurd (false≢true (sym g))
    only Equal h g = refl
    only Greater h g = absurd (false≢true (sym h))

-- of entries of one key the lesser place is before
order_at : (k : List ℕ) (p q : ℕ) → order k p k q ≡ nat_cmp p q
order_at k p q = ap (λ o. ordering_then o (nat_cmp p q)) (list_itself k)

pub lesser_before : (x : Entry) (k : List ℕ) (n : ℕ) → x.key ≡ k → x.place < n → Before x (entry_at k n)
lesser_before x k n e h =
    below-is x (entry_at k n) ∙ ap (λ l. is_lt (order l x.place k n)) e ∙ ap is_lt (order_at k x.place n ∙ nat_less x.place n h)

pub before_lesser : (x y : Entry) → x.key ≡ y.key → Before x y → x.place < y.place
before_lesser x y e h =
    nat_lt_less x.place y.place
    (ap is_lt (sym (order_at y.key x.place y.place)) ∙ ap (λ l. is_lt (order l x.place y.key y.place)) (sym e) ∙ sym (below-is x y) ∙ h)

pub upto_lesser : (x y : Entry) → x.key ≡ y.key → NotBehind x y → x.place ≤ y.place
upto_lesser x y e h =
    nat_not_gt x.place y.place
    (ap is_gt (sym (order_at y.key x.place y.place)) ∙ ap (λ l. is_gt (order l x.place y.key y.place)) (sym e) ∙ not_behind_gt x y h)

-- between two entries of one key stand entries of that key alone
pub between_keys : (x e : Entry) (n : ℕ) → Before x e → Before e (entry_at x.key n) → e.key ≡ x.key
between_keys x e n h g =
    keys_one e.key x.key (key_upto e (entry_at x.key n) (before_not_behind e (entry_at x.key n) g)) (key_upto x e (before_not_behind x e h))

-- ---- keys that begin alike

nat_turned : (c d : ℕ) → nat_cmp c d ≡ Less → nat_cmp d c ≡ Greater
nat_turned c d e = grind (arith, nat_tests)

-- what stands between keys that begin so begins so
pub between_prefix : (p t y r : List ℕ) → is_gt (keys_cmp (p ++ t) y) ≡ false → is_gt (keys_cmp y (p ++ r)) ≡ false → HasPrefix p y
between_prefix [] t y r h g = (y, refl)
between_prefix (c ∷ p) t [] r h g = absurd (false≢true (sym h))
between_prefix (c ∷ p) t (d ∷ y) r h g = by_cases (nat_cmp c d) refl (between_prefix p t y r)
  where
    by_cases : (o : Ordering) → nat_cmp c d ≡ o → (is_gt (keys_cmp (p ++ t) y) ≡ false → is_gt (keys_cmp y (p ++ r)) ≡ false → HasPrefix p y)
        → HasPrefix (c ∷ p) (d ∷ y)
    by_cases Less e rec = absurd (false≢true (sym (ap (λ o. is_gt (ordering_then o (keys_cmp y (p ++ r)))) (sym (nat_turned c d e)) ∙ g)))
    by_cases Greater e rec = absurd (false≢true (sym (ap (λ o. is_gt (ordering_then o (keys_cmp (p ++ t) y))) (sym e) ∙ h)))
    by_cases Equal e rec =
        let f : c ≡ d = nat_same c d e in
        let k : nat_cmp d c ≡ Equal = ap (λ n. nat_cmp n c) (sym f) ∙ ap (nat_cmp c) f ∙ e in
        let i = rec (ap (λ o. is_gt (ordering_then o (keys_cmp (p ++ t) y))) (sym e) ∙ h) (ap (λ o. is_gt (ordering_then o (keys_cmp y (p ++ r)))) (sym k) ∙ g) in
        (i.0, ap (λ n. n ∷ y) (sym f) ∙ ap (λ l. c ∷ l) i.1)

nat_itself : (c : ℕ) → nat_cmp c c ≡ Equal
nat_itself c = grind (arith, nat_tests)

-- a key that begins so is not before what it begins with
pub prefix_from : (p r : List ℕ) → is_gt (keys_cmp p (p ++ r)) ≡ false
prefix_from [] [] = refl
prefix_from [] (x ∷ r) = refl
prefix_from (c ∷ p) r = ap (λ o. is_gt (ordering_then o (keys_cmp p (p ++ r)))) (nat_itself c) ∙ prefix_from p r
