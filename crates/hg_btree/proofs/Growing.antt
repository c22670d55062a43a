-- How a tree grows by one page: a page of a level is cut in two, and the page above it has one child
-- more.
use Rattle.std.specs.Prelude.{◌≡◌, ◌≢◌, ℕ, ◌+◌, ◌≤◌, true, List, [], ◌∷◌, ◌++◌, length, Option, Some}
use Rattle.std.proofs.Common.{sym, ◌∙◌, ap, subst, refl, arith, append_assoc}
use Rattle.hg_btree.specs.Entries.{Entry, AllBy, Before, Ordered, NotBehind}
use Rattle.hg_btree.specs.Nodes.{spelling, IsBehind, IsWay}
use Rattle.hg_btree.specs.Trees.{first_page, AllBefore, IsLeafAt, with_page, IsInnerAt, Leaves, Inners, Chained, root, AllSorted, Reached}
use Rattle.hg_btree.specs.Halving.{AreInnerHalves, AreLeafHalves}
use Rattle.hg_btree.proofs.Orders.{page_first, page_second, before_not_behind}
use Rattle.hg_btree.proofs.Reading.{all_front, all_behind}
use Rattle.hg_btree.proofs.Walking.{all_weaker, ordered_front, ordered_behind, none_behind, leaves_join, last_passed, behind_kids, behind_more, InnerHere, uses-append, uses_in-append, uses_here}
use Rattle.hg_btree.proofs.Changing.{Agree}
use Rattle.hg_btree.specs.Trees.{uses, uses_in, lowest}
use Rattle.hg_btree.proofs.Halving.{leaves_tail, inner_cut, inners_cut, first_not_behind}

-- ---- a leaf

pub leaves_two : (b : ℕ → Option (List ℕ)) (front behind before low high after : List Entry) (x s : Entry) → Leaves b front (x ∷ behind) before
    → IsLeafAt b x (s ∷ behind) low → IsLeafAt b s behind high → Leaves b behind [] after
    → Leaves b (front ++ x ∷ s ∷ behind) [] (before ++ (low ++ (high ++ after)))
leaves_two b front behind before low high after x s f l h a =
    leaves_join b front (x ∷ s ∷ behind) [] before (low ++ (high ++ after))
    (subst (λ k. Leaves b front k before) (sym (none_behind (x ∷ s ∷ behind))) (leaves_tail b front x behind (s ∷ behind) before f)) (
      low,
      high ++ after,
      subst (λ k. IsLeafAt b x k low) (ap (λ k. s ∷ k) (sym (none_behind behind))) l,
      refl,
      (high, after, subst (λ k. IsLeafAt b s k high) (sym (none_behind behind)) h, refl, a),
    )

-- a level with one page more
pub record LevelCut (c : ℕ → Option (List ℕ)) (front : List Entry) (x s : Entry) (behind : List Entry) (below : List (List Entry)) (es : List Entry) : Type 0 where
  pub chained : Chained c (front ++ x ∷ s ∷ behind) below es
  pub from : NotBehind x s
  pub to : first_not_behind s behind

pub leaf_cut_at : (b c : ℕ → Option (List ℕ)) (front behind before own after es : List Entry) (x x2 s t : Entry) (xc xn : List ℕ) → es ≡ before ++ (own ++ after)
    → Ordered Before es → IsLeafAt b x behind own → (parts : AreLeafHalves s.child (first_page behind) own xc xn t s.key s.place)
    → c x2.child ≡ Some xc → c s.child ≡ Some xn → x2.key ≡ x.key → x2.place ≡ x.place → NotBehind x t → IsBehind behind t
    → Leaves c front (x2 ∷ behind) before → Leaves c behind [] after → LevelCut c front x2 s behind [] es
leaf_cut_at b c front behind before own after es x x2 s t xc xn all asc at parts tc tn kx px from to lf lb =
    let o : Ordered Before own = ordered_front Before own after (ordered_behind Before before (own ++ after) (subst (Ordered Before) all asc)) in
    let z : Entry = record { key = s.key; place = s.place; child = 0 } in
    let x_same : (e : Entry) → NotBehind x e → NotBehind x2 e = λ e n. same_first x x2 e (sym kx) (sym px) n in
    let own_from : AllBy (NotBehind x2) (parts.low ++ parts.high) = all_weaker (NotBehind x) (NotBehind x2) (parts.low ++ parts.high) x_same (subst (AllBy (NotBehind x)) parts.all at.from) in
    let low : IsLeafAt c x2 (s ∷ behind) parts.low = record {
      page = xc;
      told = tc;
      node = parts.low_is;
      from = all_front (NotBehind x2) parts.low parts.high own_from;
      to = all_weaker (λ e. Before e z) (λ e. Before e s) parts.low (λ e l. page_second z e s.child ∙ l) (parts.is_bound.below o);
    } in
    let high : IsLeafAt c s behind parts.high = record {
      page = xn;
      told = tn;
      node = parts.high_is;
      from = all_weaker (NotBehind z) (NotBehind s) parts.high (λ e l. page_second z e s.child ∙ l) (parts.is_bound.above o);
      to = upper_to behind (subst (λ k. AllBefore k behind) parts.all at.to);
    } in
    let es_is : es ≡ before ++ (parts.low ++ (parts.high ++ after)) =
    all ∙ ap (λ k. before ++ (k ++ after)) parts.all ∙ ap (λ k. before ++ k) (append_assoc parts.low parts.high after) in
    record {
      chained = subst (Leaves c (front ++ x2 ∷ s ∷ behind) []) (sym es_is) (leaves_two c front behind before parts.low parts.high after x2 s lf low high lb);
      from = x_same s (page_first z x s.child ∙ parts.is_bound.from x at.from from);
      to = upper behind at.to to;
    }
  where
    same_first : (x y e : Entry) → x.key ≡ y.key → x.place ≡ y.place → NotBehind x e → NotBehind y e
    same_first x y e k p n =
        let B : List ℕ → ℕ → Type 0 = λ k p. NotBehind (record { key = k; place = p; child = y.child }) e in
        subst (λ p. B y.key p) p (subst (λ k. B k x.place) k (page_second x e y.child ∙ n))

    upper_to : (behind : List Entry) → AllBefore (parts.low ++ parts.high) behind → AllBefore parts.high behind
    upper_to [] g = tt
    upper_to (y ∷ behind) g = all_behind (λ e. Before e y) parts.low parts.high g

    upper : (behind : List Entry) → AllBefore own behind → IsBehind behind t → first_not_behind s behind
    upper [] g i = tt
    upper (y ∷ behind) g i = let z : Entry = record { key = s.key; place = s.place; child = 0 } in
        before_not_behind s y (page_first z y s.child ∙ parts.is_bound.to y g i)

-- ---- an inner page

same_bound : (m s : Entry) → s.key ≡ m.key → s.place ≡ m.place → s ≡ with_page m s.child
same_bound m s k p = λ i. record { key = k i; place = p i; child = s.child }

-- the first child of the pages behind
behind_first : (b : ℕ → Option (List ℕ)) (n : ℕ) (behind back : List Entry) (m : Entry) → Inners b n behind back → AllBy (NotBehind m) back → first_not_behind m behind
behind_first b n [] back m h a = tt
behind_first b n (y ∷ ys) back m (kids, rest, at, e, h) a =
    let k : back ≡ with_page y at.first ∷ (at.items ++ rest) = e ∙ ap (λ l. l ++ rest) at.are in
    let z = subst (AllBy (NotBehind m)) k a in
    sym (page_first y m at.first) ∙ z.0

pub inner_cut_at : (b c : ℕ → Option (List ℕ)) (n : ℕ) (front behind of_front of_behind kids es : List Entry) (rest : List (List Entry)) (x x2 s t : Entry) (xc xn : List ℕ)
    → (at : IsInnerAt b n x kids) → Ordered NotBehind (of_front ++ (kids ++ of_behind)) → n ≡ length ((of_front ++ (kids ++ of_behind)) ∷ rest)
    → (parts : AreInnerHalves n at.first at.items xc xn t s.key s.place) → c x2.child ≡ Some xc → c s.child ≡ Some xn → x2.key ≡ x.key → x2.place ≡ x.place
    → Inners c n front of_front → Inners b n behind of_behind → Inners c n behind of_behind → Chained c (of_front ++ (kids ++ of_behind)) rest es
    → LevelCut c front x2 s behind ((of_front ++ (kids ++ of_behind)) ∷ rest) es
inner_cut_at b c n front behind of_front of_behind kids es rest x x2 s t xc xn at sorted ln parts tc tn kx px lf bb lb further =
    let m : Entry = parts.middle in
    let se : s ≡ with_page m s.child = same_bound m s parts.key_is parts.place_is in
    let xe : with_page x2 at.first ≡ with_page x at.first = λ i. record { key = kx i; place = px i; child = at.first } in
    let cut = inner_cut c n x2 m s.child at.first parts.low parts.high xc tc parts.low_is parts.some_low xn tn parts.high_is parts.some_high in
    let i = inners_cut c n front behind of_front of_behind parts.low parts.high x2 m s.child at.first lf cut.0 cut.1 lb in
    let kids_is : kids ≡ with_page x2 at.first ∷ (parts.low ++ m ∷ parts.high) =
    at.are ∙ ap (λ k. with_page x at.first ∷ k) parts.all ∙ ap (λ k. k ∷ (parts.low ++ m ∷ parts.high)) (sym xe) in
    let level : List Entry = of_front ++ (kids ++ of_behind) in
    let i2 : Inners c n (front ++ x2 ∷ s ∷ behind) level =
    subst (λ k. Inners c n (front ++ x2 ∷ s ∷ behind) (of_front ++ (k ++ of_behind))) (sym kids_is)
    (subst (λ k. Inners c n (front ++ x2 ∷ k ∷ behind) (of_front ++ ((with_page x2 at.first ∷ (parts.low ++ m ∷ parts.high)) ++ of_behind))) (sym se) i) in
    let tail = subst (λ k. Ordered NotBehind (k ++ of_behind)) kids_is (ordered_behind NotBehind of_front (kids ++ of_behind) sorted) in
    let below_x = tail.0 in
    let xm : NotBehind (with_page x2 at.first) m = (all_behind (NotBehind (with_page x2 at.first)) parts.low (m ∷ parts.high) (all_front (NotBehind (with_page x2 at.first)) (parts.low ++ m ∷ parts.high) of_behind below_x)).0 in
    let behind_m : AllBy (NotBehind m) of_behind =
    all_behind (NotBehind m) parts.high of_behind
    ((ordered_behind NotBehind parts.low (m ∷ (parts.high ++ of_behind)) (subst (Ordered NotBehind) (append_assoc parts.low (m ∷ parts.high) of_behind) tail.1)).0) in
    record {
      chained = (subst (λ k. Inners c k (front ++ x2 ∷ s ∷ behind) level) ln i2, further);
      from = subst (NotBehind x2) (sym se) (page_first m x2 s.child ∙ sym (page_second x2 m at.first) ∙ xm);
      to = subst (λ k. first_not_behind k behind) (sym se) (moved behind (behind_first b n behind of_behind m bb behind_m));
    }
  where
    moved : (behind : List Entry) → first_not_behind parts.middle behind → first_not_behind (with_page parts.middle s.child) behind
    moved [] h = tt
    moved (y ∷ behind) h = page_second parts.middle y s.child ∙ h

-- ---- the page above it

-- Where a page on the way has its child on the way, and what comes of one child more behind that.
pub record ChildHere (b : ℕ → Option (List ℕ)) (top : ℕ) (levels : List (List Entry)) (t : Entry) (n num : ℕ) (r : Reached top levels t (n + 1) num) (es : List Entry)
    (i : InnerHere b top levels t n num r es) (at child : ℕ) : Type 0 where
  pub front : List Entry
  pub x : Entry
  pub behind : List Entry
  pub page_is : x.child ≡ child
  pub from : NotBehind x t
  pub to : IsBehind behind t
  pub level_is : i.level ≡ front ++ x ∷ behind
  pub done : List Entry
  pub todo : List Entry
  pub items_are : i.at.items ≡ done ++ todo
  pub place : at ≡ 16 + length (spelling true done)
  pub with_new : (s : Entry) → i.front ++ ((with_page r.x i.at.first ∷ (done ++ s ∷ todo)) ++ i.back) ≡ front ++ x ∷ s ∷ behind

pub child_here : (b : ℕ → Option (List ℕ)) (top : ℕ) (levels : List (List Entry)) (es : List Entry) (t : Entry) (n num at child : ℕ)
    → (r : Reached top levels t (n + 1) num) → (i : InnerHere b top levels t n num r es) → IsWay i.at.first i.at.items t at child → ChildHere b top levels t n num r es i at child
child_here b top levels es t n num at child r i w =
    let f : Entry = with_page r.x i.at.first in
    let p = last_passed t f w.passed.done w.passed.todo (page_second r.x t i.at.first ∙ r.from) w.passed.are in
    let kids_are : i.kids ≡ p.front ++ p.x ∷ w.passed.todo = i.at.are ∙ ap (λ l. f ∷ l) w.passed.all ∙ p.all in
    record {
      front = i.front ++ p.front;
      x = p.x;
      behind = w.passed.todo ++ i.back;
      page_is = p.child ∙ sym w.child_is;
      from = p.from;
      to = behind_more w.passed.todo i.back t w.behind (behind_kids b (n + 1) r.behind i.back t i.of_behind r.to);
      level_is = i.level_is ∙ ap (λ k. i.front ++ (k ++ i.back)) kids_are
          ∙ ap (λ k. i.front ++ k) (append_assoc p.front (p.x ∷ w.passed.todo) i.back)
          ∙ sym (append_assoc i.front p.front (p.x ∷ (w.passed.todo ++ i.back)));
      done = w.passed.done;
      todo = w.passed.todo;
      items_are = w.passed.all;
      place = w.passed.place;
      with_new = λ s.
          ap (λ k. i.front ++ (k ++ i.back)) (joined f w.passed.done w.passed.todo p.front p.x s p.passed)
          ∙ ap (λ k. i.front ++ k) (append_assoc p.front (p.x ∷ s ∷ w.passed.todo) i.back)
          ∙ sym (append_assoc i.front p.front (p.x ∷ s ∷ (w.passed.todo ++ i.back)));
    }
  where
    joined : (f : Entry) (done todo front : List Entry) (x s : Entry) → f ∷ done ≡ front ++ x ∷ [] → f ∷ (done ++ s ∷ todo) ≡ front ++ x ∷ s ∷ todo
    joined f done todo front x s e = ap (λ k. k ++ s ∷ todo) e ∙ append_assoc front (x ∷ []) (s ∷ todo)

-- ---- the pages of all levels

-- how often a page stands elsewhere than at these two places
pub record Elsewhere (top : ℕ) (levels : List (List Entry)) (t : Entry) (n num : ℕ) (r : Reached top levels t (n + 1) num) (front behind : List Entry) (rest : List (List Entry)) (y : ℕ) : Type 0 where
  pub above : uses_in r.above y ≡ 0
  pub before : uses r.front y ≡ 0
  pub after : uses r.behind y ≡ 0
  pub front_of : uses front y ≡ 0
  pub behind_of : uses behind y ≡ 0
  pub below : uses_in rest y ≡ 0

-- how often it stands on all levels
all_uses : (b : ℕ → Option (List ℕ)) (top : ℕ) (levels : List (List Entry)) (es : List Entry) (t : Entry) (n num at child : ℕ) (r : Reached top levels t (n + 1) num)
    (i : InnerHere b top levels t n num r es) (k : ChildHere b top levels t n num r es i at child) (y : ℕ)
    → uses_in ((root top ∷ []) ∷ levels) y ≡ uses_in r.above y + ((uses r.front y + uses (r.x ∷ r.behind) y) + ((uses k.front y + uses (k.x ∷ k.behind) y) + uses_in i.rest y))
all_uses b top levels es t n num at child r i k y =
    let a = ap (λ l. uses_in l y) r.all ∙ uses_in-append r.above ((r.front ++ r.x ∷ r.behind) ∷ r.below) y in
    let c = uses-append r.front (r.x ∷ r.behind) y in
    let d = ap (λ l. uses_in l y) i.below_is in
    let e = ap (λ l. uses l y) k.level_is ∙ uses-append k.front (k.x ∷ k.behind) y in
    omega arith

here_used : (x : Entry) (behind : List Entry) (y : ℕ) → x.child ≡ y → uses (x ∷ behind) y ≡ 1 + uses behind y
here_used x behind y e = subst (λ k. uses (x ∷ behind) k ≡ 1 + uses behind k) e (uses_here x behind)

pub parent_elsewhere : (b : ℕ → Option (List ℕ)) (top : ℕ) (levels : List (List Entry)) (es : List Entry) (t : Entry) (n num at child : ℕ) (r : Reached top levels t (n + 1) num)
    (i : InnerHere b top levels t n num r es) (k : ChildHere b top levels t n num r es i at child) → uses_in ((root top ∷ []) ∷ levels) num ≤ 1
    → Elsewhere top levels t n num r k.front k.behind i.rest num × (child ≢ num)
parent_elsewhere b top levels es t n num at child r i k once =
    let a = all_uses b top levels es t n num at child r i k num in
    let h = here_used r.x r.behind num r.page_is in
    let few : uses (k.x ∷ k.behind) num ≡ 0 = omega arith in (
      record { above = omega arith; before = omega arith; after = omega arith; front_of = omega arith; behind_of = omega arith; below = omega arith },
      λ e. absurd (let g = here_used k.x k.behind num (k.page_is ∙ e) in omega arith),
    )

pub child_elsewhere : (b : ℕ → Option (List ℕ)) (top : ℕ) (levels : List (List Entry)) (es : List Entry) (t : Entry) (n num at child : ℕ) (r : Reached top levels t (n + 1) num)
    (i : InnerHere b top levels t n num r es) (k : ChildHere b top levels t n num r es i at child) → uses_in ((root top ∷ []) ∷ levels) child ≤ 1
    → Elsewhere top levels t n num r k.front k.behind i.rest child
child_elsewhere b top levels es t n num at child r i k once =
    let a = all_uses b top levels es t n num at child r i k child in
    let h = here_used k.x k.behind child k.page_is in
    record { above = omega arith; before = omega arith; after = omega arith; front_of = omega arith; behind_of = omega arith; below = omega arith }

pub new_elsewhere : (b : ℕ → Option (List ℕ)) (top : ℕ) (levels : List (List Entry)) (es : List Entry) (t : Entry) (n num at child : ℕ) (r : Reached top levels t (n + 1) num)
    (i : InnerHere b top levels t n num r es) (k : ChildHere b top levels t n num r es i at child) (y : ℕ) → uses_in ((root top ∷ []) ∷ levels) y ≡ 0
    → Elsewhere top levels t n num r k.front k.behind i.rest y
new_elsewhere b top levels es t n num at child r i k y once =
    let a = all_uses b top levels es t n num at child r i k y in
    record { above = omega arith; before = omega arith; after = omega arith; front_of = omega arith; behind_of = omega arith; below = omega arith }

-- pages where none of the three changed ones stands hold what they held
pub agree_without : (b c : ℕ → Option (List ℕ)) (p k s : ℕ) (used : ℕ → ℕ) → ((y : ℕ) → y ≢ p → y ≢ k → y ≢ s → c y ≡ b y) → used p ≡ 0 → used k ≡ 0 → used s ≡ 0 → Agree b c used
agree_without b c p k s used f up uk us = λ y u.
    f y (λ e. absurd (let w = ap used e in omega arith)) (λ e. absurd (let w = ap used e in omega arith)) (λ e. absurd (let w = ap used e in omega arith))

-- ---- lists of levels

pub tail_of : List (List Entry) → List (List Entry)
tail_of [] = []
tail_of (x ∷ xs) = xs

pub head_kept : (first : List Entry) (levels above : List (List Entry)) (level : List Entry) (old now : List (List Entry)) → first ∷ levels ≡ above ++ level ∷ old
    → above ++ level ∷ now ≡ first ∷ tail_of (above ++ level ∷ now)
unfolding tail_of
head_kept first levels [] level old now e = let h : first ≡ level = cc in ap (λ k. k ∷ now) (sym h)
head_kept first levels (a ∷ above) level old now e = let h : first ≡ a = heads first a levels (above ++ level ∷ old) e in ap (λ k. k ∷ (above ++ level ∷ now)) (sym h)
  where
    heads : (x y : List Entry) (xs ys : List (List Entry)) → x ∷ xs ≡ y ∷ ys → x ≡ y
    heads x y xs ys e = cc

pub sorted_swap : (above : List (List Entry)) (level now : List Entry) (rest : List (List Entry)) → AllSorted (above ++ level ∷ rest) → Ordered NotBehind now → AllSorted (above ++ now ∷ rest)
sorted_swap [] level now rest h o = (o, h.1)
sorted_swap (a ∷ above) level now rest h o = (h.0, sorted_swap above level now rest h.1 o)

pub lowest-append : (first : List Entry) (above : List (List Entry)) (level : List Entry) (rest : List (List Entry)) → lowest first (above ++ level ∷ rest) ≡ lowest level rest
lowest-append first [] level rest = refl
lowest-append first (a ∷ above) level rest = lowest-append a above level rest

-- the lowest level, of levels with and without the first
pub lowest_at : (first : List Entry) (levels above : List (List Entry)) (level : List Entry) (rest : List (List Entry)) → first ∷ levels ≡ above ++ level ∷ rest → lowest first levels ≡ lowest level rest
lowest_at first levels [] level rest e = let h : first ≡ level = cc in let g : levels ≡ rest = tails first level levels rest e in ap (λ k. lowest k levels) h ∙ ap (lowest level) g
  where
    tails : (x y : List Entry) (xs ys : List (List Entry)) → x ∷ xs ≡ y ∷ ys → xs ≡ ys
    tails x y xs ys e = cc
lowest_at first levels (a ∷ above) level rest e = ap (lowest first) (tails first a levels (above ++ level ∷ rest) e) ∙ lowest-append first above level rest
  where
    tails : (x y : List Entry) (xs ys : List (List Entry)) → x ∷ xs ≡ y ∷ ys → xs ≡ ys
    tails x y xs ys e = cc
