-- Laws of lists in any order: what one list has is taken out of another one by one.
use Rattle.std.specs.Prelude.{◌≡◌, ℕ, ◌<◌, zero, suc, List, [], ◌∷◌, ◌++◌, length, map, slice_index_or, slice_set}
use Rattle.std.specs.List.{AllByRecursion, swap}
use Rattle.std.specs.List.Sorted.{IsPermutation}
use Rattle.std.proofs.Common.{sym, ◌∙◌, ap, subst, refl, arith}
use Rattle.std.proofs.lemmas.List.Edits.{swap_is}
use Rattle.std.proofs.lemmas.List.Elements.{All-from_recursion, recursion_from_All}
use Rattle.std.proofs.lemmas.List.Sorted.{IsPermutation-refl, IsPermutation-sym, IsPermutation-cons, IsPermutation-trans, IsPermutation-middle, IsPermutation-keeps, All-permutation}

-- the elements of the first list, one after the other, are taken out of the second, and none is left
abbrev pub AreTaken : {X : Type 0} → List X → List X → Type 0
AreTaken {X} [] ys = ys ≡ []
AreTaken {X} (x ∷ xs) ys = (before : List X) × (after : List X) × (ys ≡ before ++ x ∷ after) × AreTaken xs (before ++ after)

pub taken_itself : {X : Type 0} (xs : List X) → AreTaken xs xs
taken_itself [] = refl
taken_itself (x ∷ xs) = ([], xs, refl, taken_itself xs)

cons_head : {X : Type 0} (x y : X) (xs ys : List X) → x ∷ xs ≡ y ∷ ys → x ≡ y
cons_head x y xs ys e = cc

cons_tail : {X : Type 0} (x y : X) (xs ys : List X) → x ∷ xs ≡ y ∷ ys → xs ≡ ys
cons_tail x y xs ys e = cc

-- Where x stands once a is put between two parts, and where a stands once x is taken out.
record Woven {X : Type 0} (p q cs ds : List X) (a x : X) : Type 0 where
  front : List X
  back : List X
  whole : p ++ a ∷ q ≡ front ++ x ∷ back
  left : List X
  right : List X
  rest : front ++ back ≡ left ++ a ∷ right
  less : cs ++ ds ≡ left ++ right

woven : {X : Type 0} (p q cs ds : List X) (a x : X) → p ++ q ≡ cs ++ x ∷ ds → Woven p q cs ds a x
woven [] q cs ds a x e = record { front = a ∷ cs; back = ds; whole = ap (λ r. a ∷ r) e; left = []; right = cs ++ ds; rest = refl; less = refl }
woven (y ∷ p) q [] ds a x e = record {
  front = [];
  back = p ++ a ∷ q;
  whole = ap (λ z. z ∷ (p ++ a ∷ q)) (cons_head y x (p ++ q) ds e);
  left = p;
  right = q;
  rest = refl;
  less = sym (cons_tail y x (p ++ q) ds e);
}
woven (y ∷ p) q (c ∷ cs) ds a x e =
    let w = woven p q cs ds a x (cons_tail y c (p ++ q) (cs ++ x ∷ ds) e) in
    record {
      front = y ∷ w.front;
      back = w.back;
      whole = ap (λ r. y ∷ r) w.whole;
      left = y ∷ w.left;
      right = w.right;
      rest = ap (λ r. y ∷ r) w.rest;
      less = ap (λ z. z ∷ (cs ++ ds)) (sym (cons_head y c (p ++ q) (cs ++ x ∷ ds) e)) ∙ ap (λ r. y ∷ r) w.less;
    }

-- any one of them may be taken first
pulled : {X : Type 0} (front : List X) (x : X) (back zs : List X) → AreTaken (front ++ x ∷ back) zs
    → (cs : List X) × (ds : List X) × (zs ≡ cs ++ x ∷ ds) × AreTaken (front ++ back) (cs ++ ds)
pulled [] x back zs h = h
pulled (a ∷ front) x back zs (p, q, e, t) =
    let (cs, ds, f, u) = pulled front x back (p ++ q) t in
    let w = woven p q cs ds a x f in
    (w.front, w.back, e ∙ w.whole, (w.left, w.right, w.rest, subst (AreTaken (front ++ back)) w.less u))

pub taken_then : {X : Type 0} (xs ys zs : List X) → AreTaken xs ys → AreTaken ys zs → AreTaken xs zs
taken_then [] ys zs h k = subst (λ l. AreTaken l zs) h k
taken_then (x ∷ xs) ys zs (p, q, e, t) k =
    let (cs, ds, f, u) = pulled p x q zs (subst (λ l. AreTaken l zs) e k) in
    (cs, ds, f, taken_then xs (p ++ q) (cs ++ ds) t u)

-- one that stands in the midst is taken first
taken_middle : {X : Type 0} (p : List X) (x : X) (q : List X) → AreTaken (p ++ x ∷ q) (x ∷ (p ++ q))
taken_middle [] x q = taken_itself (x ∷ q)
taken_middle (y ∷ p) x q = (x ∷ [], p ++ q, refl, taken_middle p x q)

record Split {X : Type 0} (l : List X) (j : ℕ) (d : X) : Type 0 where
  front : List X
  back : List X
  was : l ≡ front ++ slice_index_or l j d ∷ back
  now : (v : X) → slice_set l j v ≡ front ++ v ∷ back

split_at : {X : Type 0} (l : List X) (j : ℕ) (d : X) → j < length l → Split l j d
split_at [] j d h = absurd (omega arith)
split_at (x ∷ l) zero d h = record { front = []; back = l; was = refl; now = λ v. refl }
split_at (x ∷ l) (suc j) d h =
    let s = split_at l j d (omega arith) in
    record { front = x ∷ s.front; back = s.back; was = ap (λ r. x ∷ r) s.was; now = λ v. ap (λ r. x ∷ r) (s.now v) }

exchanged : {X : Type 0} (x : X) (l : List X) (j : ℕ) (d : X) → Split l j d → AreTaken (x ∷ l) (slice_index_or l j d ∷ slice_set l j x)
exchanged x l j d s = (
  slice_index_or l j d ∷ s.front,
  s.back,
  ap (λ r. slice_index_or l j d ∷ r) (s.now x),
  subst (λ r. AreTaken r (slice_index_or l j d ∷ (s.front ++ s.back))) (sym s.was) (taken_middle s.front (slice_index_or l j d) s.back),
)

swapped : {X : Type 0} (l : List X) (i j : ℕ) (d : X) → i < length l → j < length l
    → AreTaken l (slice_set (slice_set l i (slice_index_or l j d)) j (slice_index_or l i d))
swapped [] i j d h k = absurd (omega arith)
swapped (x ∷ l) zero zero d h k = taken_itself (x ∷ l)
swapped (x ∷ l) zero (suc j) d h k = exchanged x l j d (split_at l j d (omega arith))
swapped (x ∷ l) (suc i) zero d h k = exchanged x l i d (split_at l i d (omega arith))
swapped (x ∷ l) (suc i) (suc j) d h k = ([], _, refl, swapped l i j d (omega arith) (omega arith))

pub taken_from : {X : Type 0} (xs ys : List X) → IsPermutation xs ys → AreTaken xs ys
taken_from {X} xs ys h = IsPermutation-keeps xs (AreTaken xs) (taken_itself xs) step ys h
  where
    step : (l : List X) (i j : ℕ) → i < length l → j < length l → AreTaken xs l → AreTaken xs (swap l i j)
    step [] i j a b t = absurd (omega arith)
    step (d ∷ l) i j a b t = taken_then xs (d ∷ l) (swap (d ∷ l) i j) t (subst (AreTaken (d ∷ l)) (swap_is (d ∷ l) i j d a b) (swapped (d ∷ l) i j d a b))

pub permuted_by : {X : Type 0} (xs ys : List X) → AreTaken xs ys → IsPermutation xs ys
permuted_by [] ys h = subst (IsPermutation []) (sym h) (IsPermutation-refl [])
permuted_by (x ∷ xs) ys (p, q, e, t) =
    subst (IsPermutation (x ∷ xs)) (sym e)
    (IsPermutation-trans (x ∷ xs) (x ∷ (p ++ q)) (p ++ x ∷ q) (IsPermutation-cons x xs (p ++ q) (permuted_by xs (p ++ q) t))
    (IsPermutation-sym (p ++ x ∷ q) (x ∷ (p ++ q)) (IsPermutation-middle p x q)))

-- an element of a list stands in the other, and the rest is the rest
pub record IsAmong {X : Type 0} (x : X) (xs ys : List X) : Type 0 where
  pub before : List X
  pub after : List X
  pub are : ys ≡ before ++ x ∷ after
  pub rest : IsPermutation xs (before ++ after)

pub among : {X : Type 0} (x : X) (xs ys : List X) → IsPermutation (x ∷ xs) ys → IsAmong x xs ys
among x xs ys h =
    let (p, q, e, t) = taken_from (x ∷ xs) ys h in
    record { before = p; after = q; are = e; rest = permuted_by xs (p ++ q) t }

-- what both lists begin with does not count
pub without_first : {X : Type 0} (x : X) (xs ys : List X) → IsPermutation (x ∷ xs) (x ∷ ys) → IsPermutation xs ys
without_first {X} x xs ys h = let a = among x xs (x ∷ ys) h in by_front a.before a.after a.are a.rest
  where
    by_front : (p q : List X) → x ∷ ys ≡ p ++ x ∷ q → IsPermutation xs (p ++ q) → IsPermutation xs ys
    by_front [] q e r = subst (IsPermutation xs) (sym (cons_tail x x ys q e)) r
    by_front (z ∷ p) q e r =
        let f : ys ≡ p ++ x ∷ q = cons_tail x z ys (p ++ x ∷ q) e in
        let g : z ∷ (p ++ q) ≡ x ∷ (p ++ q) = ap (λ w. w ∷ (p ++ q)) (sym (cons_head x z ys (p ++ x ∷ q) e)) in
        subst (IsPermutation xs) (sym f)
        (IsPermutation-trans xs (x ∷ (p ++ q)) (p ++ x ∷ q) (subst (IsPermutation xs) g r)
        (IsPermutation-sym (p ++ x ∷ q) (x ∷ (p ++ q)) (IsPermutation-middle p x q)))

-- one that stands in the midst of both does not count
pub without_middle : {X : Type 0} (p : List X) (x : X) (q ys : List X) → IsPermutation (p ++ x ∷ q) (x ∷ ys) → IsPermutation (p ++ q) ys
without_middle p x q ys h =
    without_first x (p ++ q) ys
    (IsPermutation-trans (x ∷ (p ++ q)) (p ++ x ∷ q) (x ∷ ys) (IsPermutation-sym (p ++ x ∷ q) (x ∷ (p ++ q)) (IsPermutation-middle p x q)) h)

pub all_permuted : {X : Type 0} (P : X → Type 0) (xs ys : List X) → IsPermutation xs ys → AllByRecursion P xs → AllByRecursion P ys
all_permuted P xs ys h a = recursion_from_All P ys (All-permutation P xs ys h (All-from_recursion P xs a))

-- what stands in the midst of images is an image
pub record IsImage {X Y : Type 0} (f : X → Y) (xs : List X) (before : List Y) (y : Y) (after : List Y) : Type 0 where
  pub front : List X
  pub x : X
  pub back : List X
  pub are : xs ≡ front ++ x ∷ back
  pub is : f x ≡ y
  pub before_is : map f front ≡ before
  pub after_is : map f back ≡ after

pub image : {X Y : Type 0} (f : X → Y) (xs : List X) (before : List Y) (y : Y) (after : List Y) → map f xs ≡ before ++ y ∷ after → IsImage f xs before y after
image f [] [] y after e = absurd (cc)
image f [] (b ∷ before) y after e = absurd (cc)
image f (x ∷ xs) [] y after e = record {
  front = [];
  x = x;
  back = xs;
  are = refl;
  is = cons_head (f x) y (map f xs) after e;
  before_is = refl;
  after_is = cons_tail (f x) y (map f xs) after e;
}
image f (x ∷ xs) (b ∷ before) y after e =
    let i = image f xs before y after (cons_tail (f x) b (map f xs) (before ++ y ∷ after) e) in
    record {
      front = x ∷ i.front;
      x = i.x;
      back = i.back;
      are = ap (λ r. x ∷ r) i.are;
      is = i.is;
      before_is = ap (λ z. z ∷ map f i.front) (cons_head (f x) b (map f xs) (before ++ y ∷ after) e) ∙ ap (λ r. b ∷ r) i.before_is;
      after_is = i.after_is;
    }
