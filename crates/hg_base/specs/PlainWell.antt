-- What keeps the objects of a heap well placed.
use Rattle.std.specs.Prelude.{◌≡◌, ℕ, ◌+◌, ◌-◌, ◌*◌, ◌/◌, ◌%◌, ◌<◌, ◌≤◌, ◌==◌, ◌⊎◌, nat_lt, zero, suc, true, false, List, [], ◌∷◌, ◌++◌, length, sum_by, slice_set, Option, None, Some, if◌then◌else◌}
use Rattle.std.proofs.Common.{sym, ◌∙◌, ap, subst, refl, arith, length-append, inl, inr}
use Rattle.std.proofs.lemmas.Bool.Decides.{nat_tests}
use Rattle.std.specs.List.{AllByRecursion}
use Rattle.std.proofs.lemmas.List.{length-set}
use Rattle.std.proofs.lemmas.List.Sums.{sum_by-cons, sum_by_push}
use Rattle.hg_base.specs.Content.{Object, row_object, directory, placed, page_end, object_size}
use Rattle.hg_base.specs.HeapContent.{with_object, with_last, room_left, no_links, changed_on, changed_in, with_link, place_in, link_of, named_by}
use Rattle.hg_base.specs.HeapFacts.{LeadsBelow, IsObject, AreObjects, AreWellPlaced}
use Rattle.hg_base.specs.HeapLaws.{placed-last}
use Rattle.hg_base.specs.PlainPlaces.{place_in-within, length-on_page}
use Rattle.hg_base.specs.PlainObjects.{frames_from, addresses_from}
use Rattle.hg_base.specs.HeapLaws.{on_page}

pub leads-more : (n m : ℕ) (l : Option ℕ) → n ≤ m → LeadsBelow n l → LeadsBelow m l
leads-more n m None h p = tt
leads-more n m (Some k) h p = let q : k < n = p in omega arith

all-leads : (n m : ℕ) (ls : List (Option ℕ)) → n ≤ m → AllByRecursion (LeadsBelow n) ls → AllByRecursion (LeadsBelow m) ls
all-leads n m [] h p = tt
all-leads n m (l ∷ ls) h p = (leads-more n m l h p.0, all-leads n m ls h p.1)

object-more : (n c d : ℕ) (x : Object) → c ≤ d → IsObject n c x → IsObject n d x
object-more n c d (row_object payload link) h p = p
object-more n c d (directory links) h p = all-leads c d links h p

objects-last : (n c d : ℕ) (xs : List Object) (x : Object) → c ≤ d → AreObjects n c xs → IsObject (n + length xs) d x → AreObjects n d (xs ++ x ∷ [])
objects-last n c d [] x h p q = (subst (λ k. IsObject k d x) (let e : n + 0 ≡ n = omega arith in e) q, tt)
objects-last n c d (y ∷ xs) x h p q =
    (object-more n c d y h p.0, objects-last (n + 1) c d xs x h p.1 (subst (λ k. IsObject k d x) (let e : n + suc (length xs) ≡ n + 1 + length xs = omega arith in e) q))

pages-last : (page : List Object) (layout : List (List Object)) (x : Object) → object_size x ≤ room_left (page ∷ layout) → AllByRecursion (λ p. page_end p ≤ 4096) (page ∷ layout)
    → AllByRecursion (λ p. page_end p ≤ 4096) (with_last (page ∷ layout) x)
pages-last page [] x h p = let e = p.0 in (omega (arith, sum_by_push object_size page x), tt)
pages-last page (next ∷ layout) x h p = (p.0, pages-last next layout x h p.1)

pub size-some : (x : Object) → 16 ≤ object_size x
size-some (row_object payload link) = omega arith
size-some (directory links) = omega arith

-- an object more, where it has room
pub well-object : (layout : List (List Object)) (roots : List (Option ℕ)) (x : Object) → AreWellPlaced (record { layout = layout; roots = roots })
    → IsObject (length (placed (record { layout = layout; roots = roots }))) (length (placed (record { layout = layout; roots = roots })) + 1) x → object_size x ≤ room_left layout
    → AreWellPlaced (with_object (record { layout = layout; roots = roots }) x)
well-object [] roots x h p r = absurd (omega (arith, size-some x))
well-object (page ∷ layout) roots x h p r =
    let o : List Object = placed (record { layout = page ∷ layout; roots = roots }) in
    let e = placed-last page layout x roots in
    let n : length (o ++ x ∷ []) ≡ length o + 1 = length-append o (x ∷ []) in
    record {
      objects = subst (λ l. AreObjects 0 (length l) l) (sym e)
          (subst (λ k. AreObjects 0 k (o ++ x ∷ [])) (sym n) (objects-last 0 (length o) (length o + 1) o x (omega arith) h.objects (subst (λ k. IsObject k (length o + 1) x) (let z : length o ≡ 0 + length o = omega arith in z) p)));
      pages = pages-last page layout x r h.pages;
      four = h.four;
      roots = subst (λ l. AllByRecursion (LeadsBelow (length l)) roots) (sym e) (subst (λ k. AllByRecursion (LeadsBelow k) roots) (sym n) (all-leads (length o) (length o + 1) roots (omega arith) h.roots));
    }

-- as many addresses as objects
pub addresses-many : (first : ℕ) (layout : List (List Object)) (roots : List (Option ℕ)) → length (addresses_from first layout) ≡ length (placed (record { layout = layout; roots = roots }))
addresses-many first [] roots = refl
addresses-many first (p ∷ layout) roots =
    length-append (on_page (first % 65536) p) (addresses_from (first + 1) layout)
    ∙ ap (λ n. n + length (addresses_from (first + 1) layout)) (length-on_page (first % 65536) p)
    ∙ ap (λ n. length p + n) (addresses-many (first + 1) layout roots)
    ∙ sym (length-append p (placed (record { layout = layout; roots = roots })))

-- a link that an address stands for leads to an object
found-below : (xs : List ℕ) (a n : ℕ) (o : Option ℕ) → o ≡ place_in xs a → length xs ≡ n → LeadsBelow n o
found-below xs a n None e l = tt
found-below xs a n (Some k) e l = let w : k < length xs = place_in-within xs a k (sym e) in omega arith

pub link-below : (first : ℕ) (layout : List (List Object)) (roots : List (Option ℕ)) (word : ℕ)
    → LeadsBelow (length (placed (record { layout = layout; roots = roots }))) (link_of (record { layout = layout; roots = roots }) (frames_from first (length layout)) word)
link-below first layout roots word = elim (word == 0) as (λ b. LeadsBelow (length (placed (record { layout = layout; roots = roots }))) (if b then None else named_by (record { layout = layout; roots = roots }) (frames_from first (length layout)) word)) [
  | true ↦ tt
  | false ↦ found-below (addresses_from first layout) word (length (placed (record { layout = layout; roots = roots }))) (place_in (addresses_from first layout) word) refl (addresses-many first layout roots)
]

pub none-lead : (n k : ℕ) → AllByRecursion (LeadsBelow n) (no_links k)
none-lead n zero = tt
none-lead n (suc k) = (tt, none-lead n k)

-- a root, or a link of a directory, that is set
pub set-leads : (n k : ℕ) (l : Option ℕ) (ls : List (Option ℕ)) → AllByRecursion (LeadsBelow n) ls → LeadsBelow n l → AllByRecursion (LeadsBelow n) (slice_set ls k l)
set-leads n k l [] h p = tt
set-leads n zero l (x ∷ ls) h p = (p, h.1)
set-leads n (suc k) l (x ∷ ls) h p = (h.0, set-leads n k l ls h.1 p)

pub well-root : (layout : List (List Object)) (roots : List (Option ℕ)) (k : ℕ) (l : Option ℕ) → AreWellPlaced (record { layout = layout; roots = roots })
    → LeadsBelow (length (placed (record { layout = layout; roots = roots }))) l → AreWellPlaced (record { layout = layout; roots = slice_set roots k l })
well-root layout roots k l h p = record {
  objects = h.objects;
  pages = h.pages;
  four = length-set roots k l ∙ h.four;
  roots = set-leads (length (placed (record { layout = layout; roots = roots }))) k l roots h.roots p;
}

-- one object changed: as large as it was, and an object still
pub record Alike (f : Object → Object) (c : ℕ) : Type 0 where
  pub size : (x : Object) → object_size (f x) ≡ object_size x
  pub object : (n : ℕ) (x : Object) → IsObject n c x → IsObject n c (f x)

objects-changed : (f : Object → Object) (c n k : ℕ) (xs : List Object) → Alike f c → AreObjects n c xs → AreObjects n c (changed_on f k xs)
objects-changed f c n k [] a h = tt
objects-changed f c n zero (x ∷ xs) a h = (a.object n x h.0, h.1)
objects-changed f c n (suc k) (x ∷ xs) a h = (h.0, objects-changed f c (n + 1) k xs a h.1)

sizes-changed : (f : Object → Object) (c k : ℕ) (xs : List Object) → Alike f c → sum_by object_size (changed_on f k xs) ≡ sum_by object_size xs
sizes-changed f c k [] a = refl
sizes-changed f c zero (x ∷ xs) a = let s = a.size x in omega (arith, sum_by-cons object_size x xs, sum_by-cons object_size (f x) xs)
sizes-changed f c (suc k) (x ∷ xs) a = let s = sizes-changed f c k xs a in omega (arith, sum_by-cons object_size x xs, sum_by-cons object_size x (changed_on f k xs))

pages-changed : (f : Object → Object) (c k : ℕ) (layout : List (List Object)) → Alike f c → AllByRecursion (λ p. page_end p ≤ 4096) layout → AllByRecursion (λ p. page_end p ≤ 4096) (changed_in f k layout)
pages-changed f c k [] a h = tt
pages-changed f c k (p ∷ layout) a h = elim (nat_lt k (length p)) as (λ b. AllByRecursion (λ q. page_end q ≤ 4096) (if b then changed_on f k p ∷ layout else p ∷ changed_in f (k - length p) layout)) [
  | true ↦ ((let s = sizes-changed f c k p a in let e = h.0 in omega arith), h.1)
  | false ↦ (h.0, pages-changed f c (k - length p) layout a h.1)
]

changed-front : (f : Object → Object) (k : ℕ) (xs ys : List Object) → k < length xs → changed_on f k (xs ++ ys) ≡ changed_on f k xs ++ ys
changed-front f k [] ys h = absurd (omega arith)
changed-front f zero (x ∷ xs) ys h = refl
changed-front f (suc k) (x ∷ xs) ys h = ap (λ l. x ∷ l) (changed-front f k xs ys (omega arith))

changed-past : (f : Object → Object) (k : ℕ) (xs ys : List Object) → length xs ≤ k → changed_on f k (xs ++ ys) ≡ xs ++ changed_on f (k - length xs) ys
changed-past f k [] ys h = ap (λ n. changed_on f n ys) (let e : k ≡ k - 0 = omega arith in e)
changed-past f zero (x ∷ xs) ys h = absurd (omega arith)
changed-past f (suc k) (x ∷ xs) ys h = ap (λ l. x ∷ l) (changed-past f k xs ys (omega arith)) ∙ ap (λ n. x ∷ xs ++ changed_on f n ys) (let e : k - length xs ≡ suc k - suc (length xs) = omega arith in e)

pub lt_cases : (k n : ℕ) → ((k < n) × (nat_lt k n ≡ true)) ⊎ ((n ≤ k) × (nat_lt k n ≡ false))
lt_cases k n = grind (arith, nat_tests)

pub placed-changed : (f : Object → Object) (k : ℕ) (layout : List (List Object)) (roots : List (Option ℕ))
    → placed (record { layout = changed_in f k layout; roots = roots }) ≡ changed_on f k (placed (record { layout = layout; roots = roots }))
placed-changed f k [] roots = refl
placed-changed f k (p ∷ layout) roots = elim (lt_cases k (length p)) [
  | inl h ↦ ap (λ b. placed (record { layout = if b then changed_on f k p ∷ layout else p ∷ changed_in f (k - length p) layout; roots = roots })) h.1
      ∙ sym (changed-front f k p (placed (record { layout = layout; roots = roots })) h.0)
  | inr h ↦ ap (λ b. placed (record { layout = if b then changed_on f k p ∷ layout else p ∷ changed_in f (k - length p) layout; roots = roots })) h.1
      ∙ ap (λ l. p ++ l) (placed-changed f (k - length p) layout roots)
      ∙ sym (changed-past f k p (placed (record { layout = layout; roots = roots })) h.0)
]

length-changed : (f : Object → Object) (k : ℕ) (xs : List Object) → length (changed_on f k xs) ≡ length xs
length-changed f k [] = refl
length-changed f zero (x ∷ xs) = refl
length-changed f (suc k) (x ∷ xs) = ap (λ n. suc n) (length-changed f k xs)

pub well-changed : (f : Object → Object) (k : ℕ) (layout : List (List Object)) (roots : List (Option ℕ)) → AreWellPlaced (record { layout = layout; roots = roots })
    → Alike f (length (placed (record { layout = layout; roots = roots }))) → AreWellPlaced (record { layout = changed_in f k layout; roots = roots })
well-changed f k layout roots h a =
    let o : List Object = placed (record { layout = layout; roots = roots }) in
    let e = placed-changed f k layout roots in
    let n = length-changed f k o in
    record {
      objects = subst (λ l. AreObjects 0 (length l) l) (sym e) (subst (λ m. AreObjects 0 m (changed_on f k o)) (sym n) (objects-changed f (length o) 0 k o a h.objects));
      pages = pages-changed f (length o) k layout a h.pages;
      four = h.four;
      roots = subst (λ l. AllByRecursion (LeadsBelow (length l)) roots) (sym e) (subst (λ m. AllByRecursion (LeadsBelow m) roots) (sym n) h.roots);
    }

link-size : (k : ℕ) (l : Option ℕ) (x : Object) → object_size (with_link k l x) ≡ object_size x
link-size k l (row_object payload link) = refl
link-size k l (directory links) = ap (λ n. 16 + 16 * ((8 * n + 15) / 16)) (length-set links k l)

link-object : (n c k : ℕ) (l : Option ℕ) (x : Object) → LeadsBelow c l → IsObject n c x → IsObject n c (with_link k l x)
link-object n c k l (row_object payload link) p h = h
link-object n c k l (directory links) p h = set-leads c k l links h p

pub link-alike : (c k : ℕ) (l : Option ℕ) → LeadsBelow c l → Alike (with_link k l) c
link-alike c k l p = record { size = λ x. link-size k l x; object = λ n x h. link-object n c k l x p h }

-- the pages keep their number
pub length-last : (layout : List (List Object)) (x : Object) → length (with_last layout x) ≡ length layout
length-last [] x = refl
length-last (p ∷ []) x = refl
length-last (p ∷ q ∷ layout) x = ap (λ n. suc n) (length-last (q ∷ layout) x)

pub length-changed_in : (f : Object → Object) (k : ℕ) (layout : List (List Object)) → length (changed_in f k layout) ≡ length layout
length-changed_in f k [] = refl
length-changed_in f k (p ∷ layout) = elim (nat_lt k (length p)) as (λ b. length (if b then changed_on f k p ∷ layout else p ∷ changed_in f (k - length p) layout) ≡ suc (length layout)) [
  | true ↦ refl
  | false ↦ ap (λ n. suc n) (length-changed_in f (k - length p) layout)
]
