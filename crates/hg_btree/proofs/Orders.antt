-- Laws of the order of entries.
use Rattle.std.specs.Prelude.{◌≡◌, ℕ, Bool, true, false, List, [], ◌∷◌}
use Rattle.std.specs.Ordering.{nat_cmp, ordering_then, ordering_reverse, is_lt, is_gt}
use Rattle.std.specs.Cmp.{IsTotalOrder}
use Rattle.std.specs.Cmp.Lexicographic.{slice_cmp}
use Rattle.std.specs.declared.cmp.Ordering.{Ordering}
use Rattle.std.specs.declared.cmp.Ordering.TheVariants.{Less, Equal, Greater}
use Rattle.std.proofs.Common.{sym, ◌∙◌, ap, refl, arith}
use Rattle.std.proofs.lemmas.Bool.{false≢true}
use Rattle.std.proofs.lemmas.Bool.Decides.{nat_tests}
use Rattle.std.proofs.lemmas.Cmp.{nat_cmp_total, nat_list_cmp_total, on_total, then_total, upto, tied_itself}
use Rattle.hg_btree.specs.Entries.{Entry, order, is_below, Before, NotBehind, IsSame}

abbrev pub by_key : Entry → Entry → Ordering
by_key x y = order x.key x.place y.key y.place

total : IsTotalOrder by_key
total = then_total (on_total (λ (e : Entry). e.key) nat_list_cmp_total) (on_total (λ (e : Entry). e.place) nat_cmp_total)

pub below-is : (x y : Entry) → is_below x y ≡ is_lt (order x.key x.place y.key y.place)
unfolding is_below
below-is x y = refl

pub less_before : (x y : Entry) → order x.key x.place y.key y.place ≡ Less → Before x y
less_before x y e = below-is x y ∙ ap is_lt e

before_less : (x y : Entry) → Before x y → by_key x y ≡ Less
before_less x y h = only (by_key x y) (sym (below-is x y) ∙ h)
  where
    only : (o : Ordering) → is_lt o ≡ true → o ≡ Less
    only Less e = refl
    only Equal e = absurd (false≢true e)
    only Greater e = absurd (false≢true e)

pub greater_before : (x y : Entry) → order x.key x.place y.key y.place ≡ Greater → Before y x
greater_before x y e =
    less_before y x (total.antisymm y x ∙ ap ordering_reverse e)

-- what is not behind is not greater
not_behind_gt : (x y : Entry) → NotBehind x y → is_gt (by_key x y) ≡ false
not_behind_gt x y h = ap is_gt (total.antisymm x y) ∙ turned (by_key y x) (sym (below-is y x) ∙ h)
  where
    turned : (o : Ordering) → is_lt o ≡ false → is_gt (ordering_reverse o) ≡ false
    turned Less e = absurd (false≢true (sym e))
    turned Equal e = refl
    turned Greater e = refl

pub gt_not_behind : (x y : Entry) → is_gt (by_key x y) ≡ false → NotBehind x y
gt_not_behind x y h = below-is y x ∙ turned (by_key y x) (ap is_gt (sym (total.antisymm x y)) ∙ h)
  where
    turned : (o : Ordering) → is_gt (ordering_reverse o) ≡ false → is_lt o ≡ false
    turned Less e = absurd (false≢true (sym e))
    turned Equal e = refl
    turned Greater e = refl

pub not_behind_trans : (x y z : Entry) → NotBehind x y → NotBehind y z → NotBehind x z
not_behind_trans x y z h g = gt_not_behind x z (upto total x y z (not_behind_gt x y h) (not_behind_gt y z g))

pub before_not_behind : (x y : Entry) → Before x y → NotBehind x y
before_not_behind x y h = gt_not_behind x y (ap is_gt (before_less x y h))

-- x before y, and y not behind z
pub before_then : (x y z : Entry) → Before x y → NotBehind y z → Before x z
before_then x y z h g = by_cases (is_below x z) refl
  where
    by_cases : (b : Bool) → is_below x z ≡ b → Before x z
    by_cases true e = e
    -- else z is not behind x, so y is not behind x
    by_cases false e = absurd (false≢true (sym (not_behind_trans y z x g e) ∙ h))

pub then_before : (x y z : Entry) → NotBehind x y → Before y z → Before x z
then_before x y z h g = by_cases (is_below x z) refl
  where
    by_cases : (b : Bool) → is_below x z ≡ b → Before x z
    by_cases true e = e
    by_cases false e = absurd (false≢true (sym (not_behind_trans z x y e h) ∙ g))

pub not_behind_itself : (x : Entry) → NotBehind x x
not_behind_itself x = gt_not_behind x x (ap is_gt (tied_itself total x))

pub not_before_itself : (x : Entry) → Before x x → ⊥
not_before_itself x h = false≢true (sym (not_behind_itself x) ∙ h)

nat_same : (x y : ℕ) → nat_cmp x y ≡ Equal → x ≡ y
nat_same x y e = grind (arith, nat_tests)

list_same : (xs ys : List ℕ) → slice_cmp nat_cmp xs ys ≡ Equal → xs ≡ ys
list_same [] [] e = refl
list_same [] (y ∷ ys) e = absurd (let n : ◌≡◌ {A = Ordering} Less Equal = e in cc)
list_same (x ∷ xs) [] e = absurd (let n : ◌≡◌ {A = Ordering} Greater Equal = e in cc)
list_same (x ∷ xs) (y ∷ ys) e =
    let p = both (nat_cmp x y) (slice_cmp nat_cmp xs ys) e in
    ap (λ z. z ∷ xs) (nat_same x y p.0) ∙ ap (λ r. y ∷ r) (list_same xs ys p.1)
  where
    both : (o p : Ordering) → ordering_then o p ≡ Equal → (o ≡ Equal) × (p ≡ Equal)
    both Less p h = absurd (let n : ◌≡◌ {A = Ordering} Less Equal = h in cc)
    both Equal p h = (refl, h)
    both Greater p h = absurd (let n : ◌≡◌ {A = Ordering} Greater Equal = h in cc)

pub equal_same : (x y : Entry) → order x.key x.place y.key y.place ≡ Equal → IsSame x y
equal_same x y e =
    let p = both (slice_cmp nat_cmp x.key y.key) (nat_cmp x.place y.place) e in
    record { key = list_same x.key y.key p.0; place = nat_same x.place y.place p.1 }
  where
    both : (o p : Ordering) → ordering_then o p ≡ Equal → (o ≡ Equal) × (p ≡ Equal)
    both Less p h = absurd (let n : ◌≡◌ {A = Ordering} Less Equal = h in cc)
    both Equal p h = (refl, h)
    both Greater p h = absurd (let n : ◌≡◌ {A = Ordering} Greater Equal = h in cc)

-- two that are the same stand alike
pub same_not_behind : (x y : Entry) → IsSame x y → NotBehind x y
same_not_behind x y s =
    below-is y x ∙ (ap (λ k. is_lt (order y.key y.place k x.place)) s.key ∙ ap (λ p. is_lt (order y.key y.place y.key p)) s.place)
    ∙ sym (below-is y y) ∙ not_behind_itself y

pub same_back : (x y : Entry) → IsSame x y → IsSame y x
same_back x y s = record { key = sym s.key; place = sym s.place }

-- no entry is before one with an empty key and place 0
pub least_first : (x y : Entry) → x.key ≡ [] → x.place ≡ 0 → NotBehind x y
least_first x y k p =
    below-is y x ∙ ap (λ l. is_lt (order y.key y.place l x.place)) k ∙ ap (λ n. is_lt (order y.key y.place [] n)) p ∙ none y.key y.place
  where
    zero_last : (n : ℕ) → is_lt (nat_cmp n 0) ≡ false
    zero_last n = grind (arith, nat_tests)

    none : (l : List ℕ) (n : ℕ) → is_lt (order l n [] 0) ≡ false
    none [] n = zero_last n
    none (z ∷ l) n = refl

-- the page of an entry does not count
pub page_first : (x y : Entry) (n : ℕ) → is_below (record { key = x.key; place = x.place; child = n }) y ≡ is_below x y
unfolding is_below
page_first x y n = refl

pub page_second : (x y : Entry) (n : ℕ) → is_below y (record { key = x.key; place = x.place; child = n }) ≡ is_below y x
unfolding is_below
page_second x y n = refl
