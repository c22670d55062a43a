-- The way down a tree.
use Rattle.std.specs.Prelude.{◌≡◌, ℕ, ◌+◌, ◌≤◌, ◌==◌, Bool, true, false, List, [], ◌∷◌, ◌++◌, ◌||◌, length, Option, if◌then◌else◌}
use Rattle.std.proofs.Common.{sym, ◌∙◌, ap, subst, refl, arith, append_assoc}
use Rattle.hg_btree.specs.Entries.{Entry, AllBy, Ordered, Before, NotBehind}
use Rattle.hg_btree.specs.Nodes.{last_child, IsBehind, IsWay}
use Rattle.hg_btree.specs.Trees.{IsLeafAt, with_page, IsInnerAt, Leaves, Inners, Chained, root, AllSorted, Reached}
use Rattle.hg_base.specs.Lines.{has_page}
use Rattle.hg_btree.specs.Trees.{uses, uses_in, times, width_of}
use Rattle.hg_btree.proofs.Orders.{least_first, before_then, page_second}
use Rattle.std.proofs.lemmas.Bool.Decides.{nat_tests}
use Rattle.hg_btree.proofs.Reading.{all_behind, all_front, all_append}

-- ---- lists

pub ordered_front : (R : Entry → Entry → Type 0) (a b : List Entry) → Ordered R (a ++ b) → Ordered R a
ordered_front R [] b h = tt
ordered_front R (x ∷ a) b h = (all_front (R x) a b h.0, ordered_front R a b h.1)

pub ordered_behind : (R : Entry → Entry → Type 0) (a b : List Entry) → Ordered R (a ++ b) → Ordered R b
ordered_behind R [] b h = h
ordered_behind R (x ∷ a) b h = ordered_behind R a b h.1

pub all_weaker : (P Q : Entry → Type 0) (xs : List Entry) → ((x : Entry) → P x → Q x) → AllBy P xs → AllBy Q xs
all_weaker P Q [] f h = tt
all_weaker P Q (x ∷ xs) f h = (f x h.0, all_weaker P Q xs f h.1)

-- ---- parts of levels

-- the children of a level in two parts
pub record InnersParts (b : ℕ → Option (List ℕ)) (n : ℕ) (xs ys below : List Entry) : Type 0 where
  pub of_first : List Entry
  pub of_second : List Entry
  pub all : below ≡ of_first ++ of_second
  pub first : Inners b n xs of_first
  pub second : Inners b n ys of_second

pub inners_split : (b : ℕ → Option (List ℕ)) (n : ℕ) (xs ys below : List Entry) → Inners b n (xs ++ ys) below → InnersParts b n xs ys below
inners_split b n [] ys below h = record { of_first = []; of_second = below; all = refl; first = refl; second = h }
inners_split b n (x ∷ xs) ys below (kids, rest, at, e, h) =
    let p = inners_split b n xs ys rest h in
    record {
      of_first = kids ++ p.of_first;
      of_second = p.of_second;
      all = e ∙ ap (λ l. kids ++ l) p.all ∙ sym (append_assoc kids p.of_first p.of_second);
      first = (kids, p.of_first, at, refl, p.first);
      second = p.second;
    }

pub inners_join : (b : ℕ → Option (List ℕ)) (n : ℕ) (xs ys of_first of_second : List Entry) → Inners b n xs of_first → Inners b n ys of_second
    → Inners b n (xs ++ ys) (of_first ++ of_second)
inners_join b n [] ys of_first of_second h g = subst (λ l. Inners b n ys (l ++ of_second)) (sym h) g
inners_join b n (x ∷ xs) ys of_first of_second (kids, rest, at, e, h) g =
    (kids, rest ++ of_second, at, ap (λ l. l ++ of_second) e ∙ append_assoc kids rest of_second, inners_join b n xs ys rest of_second h g)

pub record LeavesParts (b : ℕ → Option (List ℕ)) (xs ys behind es : List Entry) : Type 0 where
  pub of_first : List Entry
  pub of_second : List Entry
  pub all : es ≡ of_first ++ of_second
  pub first : Leaves b xs (ys ++ behind) of_first
  pub second : Leaves b ys behind of_second

pub leaves_split : (b : ℕ → Option (List ℕ)) (xs ys behind es : List Entry) → Leaves b (xs ++ ys) behind es → LeavesParts b xs ys behind es
leaves_split b [] ys behind es h = record { of_first = []; of_second = es; all = refl; first = refl; second = h }
leaves_split b (x ∷ xs) ys behind es (own, rest, at, e, h) =
    let p = leaves_split b xs ys behind rest h in
    record {
      of_first = own ++ p.of_first;
      of_second = p.of_second;
      all = e ∙ ap (λ l. own ++ l) p.all ∙ sym (append_assoc own p.of_first p.of_second);
      first = (own, p.of_first, subst (λ l. IsLeafAt b x l own) (append_assoc xs ys behind) at, refl, p.first);
      second = p.second;
    }

pub leaves_join : (b : ℕ → Option (List ℕ)) (xs ys behind of_first of_second : List Entry) → Leaves b xs (ys ++ behind) of_first → Leaves b ys behind of_second
    → Leaves b (xs ++ ys) behind (of_first ++ of_second)
leaves_join b [] ys behind of_first of_second h g = subst (λ l. Leaves b ys behind (l ++ of_second)) (sym h) g
leaves_join b (x ∷ xs) ys behind of_first of_second (own, rest, at, e, h) g = (
  own,
  rest ++ of_second,
  subst (λ l. IsLeafAt b x l own) (sym (append_assoc xs ys behind)) at,
  ap (λ l. l ++ of_second) e ∙ append_assoc own rest of_second,
  leaves_join b xs ys behind rest of_second h g,
)

-- ---- the way

-- where it begins
pub reached_top : (top : ℕ) (levels : List (List Entry)) (t : Entry) → Reached top levels t (length levels) top
reached_top top levels t = record {
  above = [];
  front = [];
  x = root top;
  behind = [];
  below = levels;
  all = refl;
  level_is = refl;
  page_is = refl;
  from = least_first (root top) t refl refl;
  to = tt;
}

-- the levels from one on
pub chained_from : (b : ℕ → Option (List ℕ)) (first : List Entry) (levels above below : List (List Entry)) (level es : List Entry)
    → first ∷ levels ≡ above ++ level ∷ below → Chained b first levels es → Chained b level below es
chained_from b first levels [] below level es e h =
    let p : first ≡ level = heads first level levels below e in
    let q : levels ≡ below = tails first level levels below e in
    subst (λ l. Chained b level l es) q (subst (λ l. Chained b l levels es) p h)
  where
    heads : (x y : List Entry) (xs ys : List (List Entry)) → x ∷ xs ≡ y ∷ ys → x ≡ y
    heads x y xs ys e = cc

    tails : (x y : List Entry) (xs ys : List (List Entry)) → x ∷ xs ≡ y ∷ ys → xs ≡ ys
    tails x y xs ys e = cc
chained_from b first [] (a ∷ above) below level es e h = absurd (short above below level (tails first a [] (above ++ level ∷ below) e))
  where
    tails : (x y : List Entry) (xs ys : List (List Entry)) → x ∷ xs ≡ y ∷ ys → xs ≡ ys
    tails x y xs ys e = cc

    short : (above below : List (List Entry)) (level : List Entry) → [] ≡ above ++ level ∷ below → ⊥
    short [] below level e = let f : ◌≡◌ {A = List (List Entry)} [] (level ∷ below) = e in cc
    short (x ∷ above) below level e = let f : ◌≡◌ {A = List (List Entry)} [] (x ∷ (above ++ level ∷ below)) = e in cc
chained_from b first (second ∷ levels) (a ∷ above) below level es e h =
    chained_from b second levels above below level es (tails first a (second ∷ levels) (above ++ level ∷ below) e) h.1
  where
    tails : (x y : List Entry) (xs ys : List (List Entry)) → x ∷ xs ≡ y ∷ ys → xs ≡ ys
    tails x y xs ys e = cc

-- the level below one
pub level_below : (below : List (List Entry)) (n : ℕ) → length below ≡ n + 1 → (level : List Entry) × (rest : List (List Entry)) × (below ≡ level ∷ rest) × (length rest ≡ n)
level_below [] n e = absurd (omega arith)
level_below (level ∷ rest) n e = (level, rest, refl, omega arith)

pub no_level_below : (below : List (List Entry)) → length below ≡ 0 → below ≡ []
no_level_below [] e = refl
no_level_below (level ∷ rest) e = absurd (omega arith)

sorted_from : (above below : List (List Entry)) (level : List Entry) → AllSorted (above ++ level ∷ below) → Ordered NotBehind level
sorted_from [] below level h = h.0
sorted_from (x ∷ above) below level h = sorted_from above below level h.1

pub sorted_at : (top : ℕ) (levels above below : List (List Entry)) (level : List Entry) → (root top ∷ []) ∷ levels ≡ above ++ level ∷ below → AllSorted levels
    → Ordered NotBehind level
sorted_at top levels above below level e h =
    let w : AllSorted ((root top ∷ []) ∷ levels) = ((tt, tt), h) in
    sorted_from above below level (subst AllSorted e w)

-- the last entry that was passed, whose child the way leads to
pub record LastPassed (t first : Entry) (done todo : List Entry) : Type 0 where
  pub front : List Entry
  pub x : Entry
  pub all : first ∷ (done ++ todo) ≡ front ++ x ∷ todo
  pub passed : first ∷ done ≡ front ++ x ∷ []
  pub child : x.child ≡ last_child first.child done
  pub from : NotBehind x t

pub last_passed : (t first : Entry) (done todo : List Entry) → NotBehind first t → AllBy (λ e. NotBehind e t) done → LastPassed t first done todo
last_passed t first [] todo f d = record { front = []; x = first; all = refl; passed = refl; child = refl; from = f }
last_passed t first (y ∷ done) todo f d =
    let p = last_passed t y done todo d.0 d.1 in
    record { front = first ∷ p.front; x = p.x; all = ap (λ l. first ∷ l) p.all; passed = ap (λ l. first ∷ l) p.passed; child = p.child; from = p.from }

-- the first of the children behind
pub behind_kids : (b : ℕ → Option (List ℕ)) (n : ℕ) (behind rest : List Entry) (t : Entry) → Inners b n behind rest → IsBehind behind t → IsBehind rest t
behind_kids b n [] rest t h i = subst (λ l. IsBehind l t) (sym h) tt
behind_kids b n (z ∷ zs) rest t (kids, more, at, e, h) i =
    subst (λ l. IsBehind l t) (sym (e ∙ ap (λ l. l ++ more) at.are)) (page_second z t at.first ∙ i)

pub behind_more : (todo rest : List Entry) (t : Entry) → IsBehind todo t → IsBehind rest t → IsBehind (todo ++ rest) t
behind_more [] rest t h g = g
behind_more (x ∷ todo) rest t h g = h

-- An inner page on the way, with its children among those of its level.
pub record InnerHere (b : ℕ → Option (List ℕ)) (top : ℕ) (levels : List (List Entry)) (t : Entry) (n num : ℕ) (r : Reached top levels t (n + 1) num) (es : List Entry) : Type 0 where
  pub kids : List Entry
  pub at : IsInnerAt b (n + 1) r.x kids
  pub level : List Entry
  pub rest : List (List Entry)
  pub below_is : r.below ≡ level ∷ rest
  pub rest_is : length rest ≡ n
  pub front : List Entry
  pub back : List Entry
  pub level_is : level ≡ front ++ (kids ++ back)
  pub of_front : Inners b (n + 1) r.front front
  pub of_behind : Inners b (n + 1) r.behind back
  pub further : Chained b level rest es

pub inner_here : (b : ℕ → Option (List ℕ)) (top : ℕ) (levels : List (List Entry)) (es : List Entry) (t : Entry) (n num : ℕ) → Chained b (root top ∷ []) levels es
    → (r : Reached top levels t (n + 1) num) → InnerHere b top levels t n num r es
inner_here b top levels es t n num h r =
    let l = level_below r.below n r.level_is in
    let c : Chained b (r.front ++ r.x ∷ r.behind) r.below es = chained_from b (root top ∷ []) levels r.above r.below (r.front ++ r.x ∷ r.behind) es r.all h in
    let d : Chained b (r.front ++ r.x ∷ r.behind) (l.0 ∷ l.1) es = subst (λ k. Chained b (r.front ++ r.x ∷ r.behind) k es) l.2 c in
    let m : length (l.0 ∷ l.1) ≡ n + 1 = (let k = l.3 in omega arith) in
    let i : Inners b (n + 1) (r.front ++ r.x ∷ r.behind) l.0 = subst (λ k. Inners b k (r.front ++ r.x ∷ r.behind) l.0) m d.0 in
    let p = inners_split b (n + 1) r.front (r.x ∷ r.behind) l.0 i in
    let s = p.second in
    record {
      kids = s.0;
      at = s.2;
      level = l.0;
      rest = l.1;
      below_is = l.2;
      rest_is = l.3;
      front = p.of_first;
      back = s.1;
      level_is = p.all ∙ ap (λ k. p.of_first ++ k) s.3;
      of_front = p.first;
      of_behind = s.4;
      further = d.1;
    }

-- one step of the way
pub reached_below : (b : ℕ → Option (List ℕ)) (top : ℕ) (levels : List (List Entry)) (es : List Entry) (t : Entry) (n num at child : ℕ)
    → (r : Reached top levels t (n + 1) num) → (i : InnerHere b top levels t n num r es) → IsWay i.at.first i.at.items t at child → Reached top levels t n child
reached_below b top levels es t n num at child r i w =
    let f : Entry = with_page r.x i.at.first in
    let p = last_passed t f w.passed.done w.passed.todo (page_second r.x t i.at.first ∙ r.from) w.passed.are in
    let kids_are : i.kids ≡ p.front ++ p.x ∷ w.passed.todo = i.at.are ∙ ap (λ l. f ∷ l) w.passed.all ∙ p.all in
    let level_is : i.level ≡ (i.front ++ p.front) ++ p.x ∷ (w.passed.todo ++ i.back) =
    i.level_is ∙ ap (λ k. i.front ++ (k ++ i.back)) kids_are
    ∙ ap (λ k. i.front ++ k) (append_assoc p.front (p.x ∷ w.passed.todo) i.back)
    ∙ sym (append_assoc i.front p.front (p.x ∷ (w.passed.todo ++ i.back))) in
    record {
      above = r.above ++ (r.front ++ r.x ∷ r.behind) ∷ [];
      front = i.front ++ p.front;
      x = p.x;
      behind = w.passed.todo ++ i.back;
      below = i.rest;
      all = r.all ∙ ap (λ k. r.above ++ (r.front ++ r.x ∷ r.behind) ∷ k) i.below_is
          ∙ ap (λ k. r.above ++ (r.front ++ r.x ∷ r.behind) ∷ (k ∷ i.rest)) level_is
          ∙ sym (append_assoc r.above ((r.front ++ r.x ∷ r.behind) ∷ []) (((i.front ++ p.front) ++ p.x ∷ (w.passed.todo ++ i.back)) ∷ i.rest));
      level_is = i.rest_is;
      page_is = p.child ∙ sym w.child_is;
      from = p.from;
      to = behind_more w.passed.todo i.back t w.behind (behind_kids b (n + 1) r.behind i.back t i.of_behind r.to);
    }

-- ---- the leaves

pub none_behind : (x : List Entry) → x ++ [] ≡ x
none_behind [] = refl
none_behind (y ∷ x) = ap (λ r. y ∷ r) (none_behind x)

-- entries of leaves before a bound that is not behind t
pub leaves_before : (b : ℕ → Option (List ℕ)) (front : List Entry) (x : Entry) (behind es : List Entry) (t : Entry) → Leaves b front (x ∷ behind) es
    → Ordered NotBehind (front ++ x ∷ behind) → NotBehind x t → AllBy (λ e. Before e t) es
leaves_before b [] x behind es t h o f = subst (AllBy (λ e. Before e t)) (sym h) tt
leaves_before b (y ∷ []) x behind es t (own, rest, at, e, h) o f =
    subst (AllBy (λ e. Before e t)) (sym e)
    (all_append (λ e. Before e t) own rest (all_weaker (λ e. Before e x) (λ e. Before e t) own (λ e l. before_then e x t l f) at.to)
    (leaves_before b [] x behind rest t h o.1 f))
leaves_before b (y ∷ z ∷ front) x behind es t (own, rest, at, e, h) o f =
    let zx : NotBehind z x = (all_behind (NotBehind z) front (x ∷ behind) o.1.0).0 in
    subst (AllBy (λ e. Before e t)) (sym e)
    (all_append (λ e. Before e t) own rest
    (all_weaker (λ e. Before e z) (λ e. Before e t) own (λ e l. before_then e x t (before_then e z x l zx) f) at.to)
    (leaves_before b (z ∷ front) x behind rest t h o.1 f))

-- entries of leaves from a bound on that is behind t
pub leaves_after : (b : ℕ → Option (List ℕ)) (leaves es : List Entry) (t : Entry) → Leaves b leaves [] es → Ordered NotBehind leaves → IsBehind leaves t
    → AllBy (λ e. Before t e) es
leaves_after b [] es t h o i = subst (AllBy (λ e. Before t e)) (sym h) tt
leaves_after b (y ∷ leaves) es t (own, rest, at, e, h) o i =
    subst (AllBy (λ e. Before t e)) (sym e)
    (all_append (λ e. Before t e) own rest (all_weaker (NotBehind y) (λ e. Before t e) own (λ e l. before_then t y e i l) at.from)
    (leaves_after b leaves rest t h o.1 (next leaves o.0)))
  where
    next : (leaves : List Entry) → AllBy (NotBehind y) leaves → IsBehind leaves t
    next [] h = tt
    next (z ∷ leaves) h = before_then t y z i h.0

-- A leaf on the way to t, and the entries before it, on it, and behind it.
pub record LeafHere (b : ℕ → Option (List ℕ)) (top : ℕ) (levels : List (List Entry)) (t : Entry) (num : ℕ) (r : Reached top levels t 0 num) (es : List Entry) : Type 0 where
  pub before : List Entry
  pub own : List Entry
  pub after : List Entry
  pub all : es ≡ before ++ (own ++ after)
  pub at : IsLeafAt b r.x r.behind own
  pub of_front : Leaves b r.front (r.x ∷ r.behind) before
  pub of_behind : Leaves b r.behind [] after
  pub no_below : r.below ≡ []
  pub sorted : Ordered NotBehind (r.front ++ r.x ∷ r.behind)
  pub below_t : AllBy (λ e. Before e t) before
  pub behind_t : AllBy (λ e. Before t e) after

pub leaf_here : (b : ℕ → Option (List ℕ)) (top : ℕ) (levels : List (List Entry)) (es : List Entry) (t : Entry) (num : ℕ) → Chained b (root top ∷ []) levels es
    → AllSorted levels → (r : Reached top levels t 0 num) → LeafHere b top levels t num r es
leaf_here b top levels es t num h o r =
    let n = no_level_below r.below r.level_is in
    let c : Chained b (r.front ++ r.x ∷ r.behind) r.below es = chained_from b (root top ∷ []) levels r.above r.below (r.front ++ r.x ∷ r.behind) es r.all h in
    let d : Leaves b (r.front ++ r.x ∷ r.behind) [] es = subst (λ k. Chained b (r.front ++ r.x ∷ r.behind) k es) n c in
    let p = leaves_split b r.front (r.x ∷ r.behind) [] es d in
    let s = p.second in
    let sorted = sorted_at top levels r.above r.below (r.front ++ r.x ∷ r.behind) r.all o in
    let of_front : Leaves b r.front (r.x ∷ r.behind) p.of_first = subst (λ k. Leaves b r.front k p.of_first) (none_behind (r.x ∷ r.behind)) p.first in
    let tail = ordered_behind NotBehind r.front (r.x ∷ r.behind) sorted in
    record {
      before = p.of_first;
      own = s.0;
      after = s.1;
      all = p.all ∙ ap (λ k. p.of_first ++ k) s.3;
      at = subst (λ k. IsLeafAt b r.x k s.0) (none_behind r.behind) s.2;
      of_front = of_front;
      of_behind = s.4;
      no_below = n;
      sorted = sorted;
      below_t = leaves_before b r.front r.x r.behind p.of_first t of_front sorted r.from;
      behind_t = leaves_after b r.behind s.1 t s.4 tail.1 r.to;
    }

-- ---- pages of the tree

pub uses-append : (xs ys : List Entry) (y : ℕ) → uses (xs ++ ys) y ≡ uses xs y + uses ys y
uses-append [] ys y = omega arith
uses-append (x ∷ xs) ys y = let r = uses-append xs ys y in omega arith

pub uses_in-append : (xs ys : List (List Entry)) (y : ℕ) → uses_in (xs ++ ys) y ≡ uses_in xs y + uses_in ys y
uses_in-append [] ys y = omega arith
uses_in-append (x ∷ xs) ys y = let r = uses_in-append xs ys y in omega arith

pub uses_here : (x : Entry) (xs : List Entry) → uses (x ∷ xs) x.child ≡ 1 + uses xs x.child
uses_here x xs = ap (λ t. (if t then 1 else 0) + uses xs x.child) (same x.child)
  where
    same : (n : ℕ) → (n == n) ≡ true
    same n = grind (arith, nat_tests)

-- a page where the way has come to is one of the tree
pub reached_used : (top : ℕ) (levels : List (List Entry)) (t : Entry) (level num : ℕ) → (r : Reached top levels t level num)
    → 1 ≤ uses_in ((root top ∷ []) ∷ levels) num
reached_used top levels t level num r =
    let a = ap (λ l. uses_in l num) r.all ∙ uses_in-append r.above ((r.front ++ r.x ∷ r.behind) ∷ r.below) num in
    let c = uses-append r.front (r.x ∷ r.behind) num in
    let d : uses (r.x ∷ r.behind) num ≡ 1 + uses r.behind num = subst (λ k. uses (r.x ∷ r.behind) k ≡ 1 + uses r.behind k) r.page_is (uses_here r.x r.behind) in
    omega arith

pub times_has : (pages : List ℕ) (y : ℕ) → 1 ≤ times pages y → has_page pages y ≡ true
times_has [] y h = absurd (omega arith)
times_has (x ∷ pages) y h = go (x == y) (times_has pages y) h
  where
    go : (t : Bool) (rest : 1 ≤ times pages y → has_page pages y ≡ true) → 1 ≤ (if t then 1 else 0) + times pages y → (t || has_page pages y) ≡ true
    go true rest h = refl
    go false rest h = rest (omega arith)

pub width-append : (xs ys : List (List Entry)) → width_of (xs ++ ys) ≡ width_of xs + width_of ys
width-append [] ys = omega arith
width-append (x ∷ xs) ys = let r = width-append xs ys in omega arith
