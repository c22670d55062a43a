-- How a tree stays one when a page is cut in two: its level has one page more, and the levels above and
-- below hold what they held.
use Rattle.std.specs.Prelude.{◌≡◌, ℕ, ◌<◌, true, false, List, [], ◌∷◌, ◌++◌, length, Option, Some, ⊤}
use Rattle.std.proofs.Common.{sym, ◌∙◌, ap, subst, refl, arith, append_assoc, length-append}
use Rattle.hg_btree.specs.Entries.{Entry, AllBy, Before, Ordered, NotBehind}
use Rattle.hg_btree.specs.Nodes.{IsNode}
use Rattle.hg_btree.specs.Trees.{first_page, AllBefore, IsLeafAt, with_page, IsInnerAt, Leaves, Inners}
use Rattle.hg_btree.proofs.Orders.{not_behind_trans, before_not_behind, not_behind_itself, page_second}
use Rattle.hg_btree.proofs.Reading.{all_append, all_front, all_behind}
use Rattle.hg_btree.proofs.Walking.{all_weaker, inners_join, leaves_join, none_behind, ordered_behind}

-- a leaf knows of those behind it the first alone
leaf_tail : (b : ℕ → Option (List ℕ)) (x y : Entry) (xs k j own : List Entry) → IsLeafAt b x (xs ++ y ∷ k) own → IsLeafAt b x (xs ++ y ∷ j) own
leaf_tail b x y [] k j own h = record { page = h.page; told = h.told; node = h.node; from = h.from; to = h.to }
leaf_tail b x y (z ∷ xs) k j own h = record { page = h.page; told = h.told; node = h.node; from = h.from; to = h.to }

pub leaves_tail : (b : ℕ → Option (List ℕ)) (xs : List Entry) (y : Entry) (k j es : List Entry) → Leaves b xs (y ∷ k) es → Leaves b xs (y ∷ j) es
leaves_tail b [] y k j es h = h
leaves_tail b (x ∷ xs) y k j es (own, rest, at, e, h) = (own, rest, leaf_tail b x y xs k j own at, e, leaves_tail b xs y k j rest h)

-- ---- a leaf that is cut

lower_before : (lower upper : List Entry) (m : Entry) (num : ℕ) → Ordered Before (lower ++ m ∷ upper) → AllBy (λ e. Before e (with_page m num)) lower
lower_before [] upper m num h = tt
lower_before (x ∷ lower) upper m num h =
    (page_second m x num ∙ (all_behind (Before x) lower (m ∷ upper) h.0).0, lower_before lower upper m num h.1)

pub leaf_cut : (b : ℕ → Option (List ℕ)) (x m : Entry) (num : ℕ) (behind lower upper own : List Entry) → own ≡ lower ++ m ∷ upper → Ordered Before own
    → AllBy (NotBehind x) own → AllBefore own behind
    → (lp : List ℕ) → b x.child ≡ Some lp → IsNode false lp 0 num lower
    → (hp : List ℕ) → b num ≡ Some hp → IsNode false hp 0 (first_page behind) (m ∷ upper)
    → IsLeafAt b x (with_page m num ∷ behind) lower × IsLeafAt b (with_page m num) behind (m ∷ upper)
leaf_cut b x m num behind lower upper own e asc from to lp lt ln hp ht hn =
    let o : Ordered Before (lower ++ m ∷ upper) = subst (Ordered Before) e asc in
    let f = subst (AllBy (NotBehind x)) e from in
    let g = subst (λ k. AllBefore k behind) e to in
    let above = (ordered_behind Before lower (m ∷ upper) o).0 in (
      record {
        page = lp;
        told = lt;
        node = ln;
        from = all_front (NotBehind x) lower (m ∷ upper) f;
        to = lower_before lower upper m num o;
      },
      record {
        page = hp;
        told = ht;
        node = hn;
        from = (page_second m m num ∙ not_behind_itself m, all_weaker (Before m) (NotBehind (with_page m num)) upper (λ z k. page_second m z num ∙ before_not_behind m z k) above);
        to = upper_to behind g;
      },
    )
  where
    upper_to : (behind : List Entry) → AllBefore (lower ++ m ∷ upper) behind → AllBefore (m ∷ upper) behind
    upper_to [] g = tt
    upper_to (y ∷ behind) g = all_behind (λ e. Before e y) lower (m ∷ upper) g

-- the leaves with one more
pub leaves_cut : (b : ℕ → Option (List ℕ)) (front behind before lower upper after : List Entry) (x m : Entry) (num : ℕ) → Leaves b front (x ∷ behind) before
    → IsLeafAt b x (with_page m num ∷ behind) lower → IsLeafAt b (with_page m num) behind (m ∷ upper) → Leaves b behind [] after
    → Leaves b (front ++ x ∷ with_page m num ∷ behind) [] (before ++ (lower ++ ((m ∷ upper) ++ after)))
leaves_cut b front behind before lower upper after x m num f l h a =
    let s : Entry = with_page m num in
    leaves_join b front (x ∷ s ∷ behind) [] before (lower ++ ((m ∷ upper) ++ after))
    (subst (λ k. Leaves b front k before) (sym (none_behind (x ∷ s ∷ behind))) (leaves_tail b front x behind (s ∷ behind) before f)) (
      lower,
      (m ∷ upper) ++ after,
      subst (λ k. IsLeafAt b x k lower) (ap (λ k. s ∷ k) (sym (none_behind behind))) l,
      refl,
      (m ∷ upper, after, subst (λ k. IsLeafAt b s k (m ∷ upper)) (sym (none_behind behind)) h, refl, a),
    )

-- ---- an inner page that is cut: the middle entry's child is the first of the upper part

pub inner_cut : (b : ℕ → Option (List ℕ)) (n : ℕ) (x m : Entry) (num first : ℕ) (lower upper : List Entry)
    → (lp : List ℕ) → b x.child ≡ Some lp → IsNode true lp n first lower → 0 < length lower
    → (hp : List ℕ) → b num ≡ Some hp → IsNode true hp n m.child upper → 0 < length upper
    → IsInnerAt b n x (with_page x first ∷ lower) × IsInnerAt b n (with_page m num) (m ∷ upper)
inner_cut b n x m num first lower upper lp lt ln ls hp ht hn hs = (
  record { page = lp; first = first; items = lower; told = lt; node = ln; some = ls; are = refl },
  record { page = hp; first = m.child; items = upper; told = ht; node = hn; some = hs; are = refl },
)

-- the pages of its level have the children that they had
pub inners_cut : (b : ℕ → Option (List ℕ)) (n : ℕ) (front behind of_front of_behind lower upper : List Entry) (x m : Entry) (num first : ℕ) → Inners b n front of_front
    → IsInnerAt b n x (with_page x first ∷ lower) → IsInnerAt b n (with_page m num) (m ∷ upper) → Inners b n behind of_behind
    → Inners b n (front ++ x ∷ with_page m num ∷ behind) (of_front ++ ((with_page x first ∷ (lower ++ m ∷ upper)) ++ of_behind))
inners_cut b n front behind of_front of_behind lower upper x m num first f l h a =
    let low : List Entry = with_page x first ∷ lower in
    inners_join b n front (x ∷ with_page m num ∷ behind) of_front ((with_page x first ∷ (lower ++ m ∷ upper)) ++ of_behind) f
    (low, (m ∷ upper) ++ of_behind, l, append_assoc low (m ∷ upper) of_behind, (m ∷ upper, of_behind, h, refl, a))

-- ---- a level with one page more is sorted

sorted_in : (front : List Entry) (x s : Entry) (behind : List Entry) → Ordered NotBehind (front ++ x ∷ behind) → NotBehind x s → AllBy (NotBehind s) behind
    → Ordered NotBehind (front ++ x ∷ s ∷ behind)
sorted_in [] x s behind o f a = ((f, o.0), (a, o.1))
sorted_in (y ∷ front) x s behind o f a =
    let here = all_behind (NotBehind y) front (x ∷ behind) o.0 in (
      all_append (NotBehind y) front (x ∷ s ∷ behind) (all_front (NotBehind y) front (x ∷ behind) o.0) (here.0, (not_behind_trans y x s here.0 f, here.1)),
      sorted_in front x s behind o.1 f a,
    )

-- x is not behind the first of these
abbrev pub first_not_behind : Entry → List Entry → Type 0
first_not_behind s [] = ⊤
first_not_behind s (y ∷ behind) = NotBehind s y

-- the bound of the new page is not behind those of the pages behind it, where it is not behind the first
all_not_behind : (behind : List Entry) (s : Entry) → Ordered NotBehind behind → first_not_behind s behind → AllBy (NotBehind s) behind
all_not_behind [] s o h = tt
all_not_behind (y ∷ behind) s o h = (h, all_weaker (NotBehind y) (NotBehind s) behind (λ z k. not_behind_trans s y z h k) o.0)

pub sorted_cut : (front : List Entry) (x s : Entry) (behind : List Entry) → Ordered NotBehind (front ++ x ∷ behind) → NotBehind x s → first_not_behind s behind
    → Ordered NotBehind (front ++ x ∷ s ∷ behind)
sorted_cut front x s behind o f h =
    sorted_in front x s behind o f (all_not_behind behind s ((ordered_behind NotBehind front (x ∷ behind) o).1) h)

-- ---- the parent of a page that was cut

pub kids_cut : (b : ℕ → Option (List ℕ)) (n : ℕ) (front behind of_front of_behind done todo : List Entry) (p s : Entry) (first : ℕ) (page : List ℕ) → Inners b n front of_front
    → b p.child ≡ Some page → IsNode true page n first (done ++ s ∷ todo) → Inners b n behind of_behind
    → Inners b n (front ++ p ∷ behind) (of_front ++ ((with_page p first ∷ (done ++ s ∷ todo)) ++ of_behind))
kids_cut b n front behind of_front of_behind done todo p s first page f t h a =
    inners_join b n front (p ∷ behind) of_front ((with_page p first ∷ (done ++ s ∷ todo)) ++ of_behind) f (
      with_page p first ∷ (done ++ s ∷ todo),
      of_behind,
      record { page = page; first = first; items = done ++ s ∷ todo; told = t; node = h; some = some done; are = refl },
      refl,
      a,
    )
  where
    some : (done : List Entry) → 0 < length (done ++ s ∷ todo)
    some done = let l = length-append done (s ∷ todo) in omega arith
