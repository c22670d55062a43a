-- How a tree grows by one page: all its levels.
use Rattle.std.specs.Prelude.{◌≡◌, ◌≢◌, ℕ, ◌+◌, ◌<◌, zero, suc, Bool, true, false, List, [], ◌∷◌, ◌++◌, length, Option, Some, if◌then◌else◌}
use Rattle.std.proofs.Common.{sym, ◌∙◌, ap, subst, refl, arith, append_assoc}
use Rattle.hg_btree.specs.Entries.{Entry, Before, Ordered, NotBehind, is_below}
use Rattle.hg_btree.specs.Nodes.{IsNode, IsBehind}
use Rattle.hg_btree.specs.Trees.{first_page, with_page, Leaves, Inners, Chained, root, AllSorted, Reached, uses, uses_in}
use Rattle.hg_btree.specs.Halving.{AreInnerHalves, AreLeafHalves}
use Rattle.hg_btree.specs.Growing.{crowded_one, crowded_from, crowded_at, crowded_on}
use Rattle.hg_btree.proofs.Orders.{not_behind_trans}
use Rattle.hg_btree.proofs.Reading.{all_behind}
use Rattle.hg_btree.proofs.Walking.{InnerHere, sorted_at, inner_here, leaf_here, uses_here}
use Rattle.hg_btree.proofs.Changing.{Agree, AreChained, inners_same, leaves_same, chained_same, chained_swap}
use Rattle.hg_btree.proofs.Halving.{kids_cut, sorted_cut}
use Rattle.hg_btree.proofs.Growing.{LevelCut, leaf_cut_at, inner_cut_at, ChildHere, Elsewhere, agree_without, tail_of, head_kept, sorted_swap}

-- ---- crowded pages on the way

pub crowded_same_from : (b c : ℕ → Option (List ℕ)) (p : ℕ) (xs : List Entry) (t : Entry) → c p ≡ b p → Agree b c (uses xs) → crowded_from c p xs t ≡ crowded_from b p xs t
crowded_same_from b c p [] t e a = ap crowded_one e
crowded_same_from b c p (x ∷ xs) t e a =
    let rest = crowded_same_from b c x.child xs t (a x.child (let u = uses_here x xs in omega arith)) (λ y u. a y (omega arith)) in
    go (is_below t x) (ap crowded_one e) rest
  where
    go : (k : Bool) {m n o q : ℕ} → m ≡ n → o ≡ q → (if k then m else o) ≡ (if k then n else q)
    go true e f = e
    go false e f = f

pub crowded_same : (b c : ℕ → Option (List ℕ)) (levels : List (List Entry)) (t : Entry) → Agree b c (uses_in levels) → crowded_on c levels t ≡ crowded_on b levels t
crowded_same b c [] t a = refl
crowded_same b c ([] ∷ levels) t a = ap (λ k. 0 + k) (crowded_same b c levels t (λ y u. a y (omega arith)))
crowded_same b c ((x ∷ xs) ∷ levels) t a =
    let one = crowded_same_from b c x.child xs t (a x.child (let u = uses_here x xs in omega arith)) (λ y u. a y (omega arith)) in
    let rest = crowded_same b c levels t (λ y u. a y (omega arith)) in
    omega arith

crowded_here_from : (b : ℕ → Option (List ℕ)) (p : ℕ) (front : List Entry) (x : Entry) (behind : List Entry) (t : Entry) → Ordered NotBehind (front ++ x ∷ behind) → NotBehind x t
    → IsBehind behind t → crowded_from b p (front ++ x ∷ behind) t ≡ crowded_one (b x.child)
crowded_here_from b p [] x [] t o f i = ap (λ k. if k then crowded_one (b p) else crowded_one (b x.child)) f
crowded_here_from b p [] x (y ∷ behind) t o f i =
    ap (λ k. if k then crowded_one (b p) else crowded_from b x.child (y ∷ behind) t) f ∙ ap (λ k. if k then crowded_one (b x.child) else crowded_from b y.child behind t) i
crowded_here_from b p (z ∷ front) x behind t o f i =
    let zt : NotBehind z t = not_behind_trans z x t ((all_behind (NotBehind z) front (x ∷ behind) o.0).0) f in
    ap (λ k. if k then crowded_one (b p) else crowded_from b z.child (front ++ x ∷ behind) t) zt ∙ crowded_here_from b z.child front x behind t o.1 f i

pub crowded_here : (b : ℕ → Option (List ℕ)) (front : List Entry) (x : Entry) (behind : List Entry) (t : Entry) → Ordered NotBehind (front ++ x ∷ behind) → NotBehind x t
    → IsBehind behind t → crowded_at b (front ++ x ∷ behind) t ≡ crowded_one (b x.child)
crowded_here b [] x [] t o f i = refl
crowded_here b [] x (y ∷ behind) t o f i = ap (λ k. if k then crowded_one (b x.child) else crowded_from b y.child behind t) i
crowded_here b (z ∷ front) x behind t o f i = crowded_here_from b z.child front x behind t o.1 f i

-- ---- the level of the child

-- the way, one page further
pub way_child : (b : ℕ → Option (List ℕ)) (top : ℕ) (levels : List (List Entry)) (es : List Entry) (t : Entry) (n num at child : ℕ) (r : Reached top levels t (n + 1) num)
    (i : InnerHere b top levels t n num r es) (k : ChildHere b top levels t n num r es i at child) → (root top ∷ []) ∷ levels ≡ (r.above ++ (r.front ++ r.x ∷ r.behind) ∷ []) ++ (k.front ++ k.x ∷ k.behind) ∷ i.rest
way_child b top levels es t n num at child r i k =
    r.all ∙ ap (λ l. r.above ++ (r.front ++ r.x ∷ r.behind) ∷ l) i.below_is
    ∙ ap (λ l. r.above ++ (r.front ++ r.x ∷ r.behind) ∷ (l ∷ i.rest)) k.level_is
    ∙ sym (append_assoc r.above ((r.front ++ r.x ∷ r.behind) ∷ []) ((k.front ++ k.x ∷ k.behind) ∷ i.rest))

-- what the halves of the child are, if it is a leaf and if it is none
pub record ChildHalves (old lower upper : List ℕ) (t s : Entry) : Type 0 where
  pub leaf : (link : ℕ) (own : List Entry) → IsNode false old 0 link own → AreLeafHalves s.child link own lower upper t s.key s.place
  pub inner : (level first : ℕ) (items : List Entry) → 0 < level → IsNode true old level first items → AreInnerHalves level first items lower upper t s.key s.place

some_one : (x y : List ℕ) → ◌≡◌ {A = Option (List ℕ)} (Some x) (Some y) → x ≡ y
some_one x y e = cc

-- a level that the way passes is cut
pub level_cut : (b c : ℕ → Option (List ℕ)) (top : ℕ) (levels : List (List Entry)) (es : List Entry) (t s x2 : Entry) (n num : ℕ) (old lower upper : List ℕ) → Chained b (root top ∷ []) levels es
    → AllSorted levels → Ordered Before es → (r : Reached top levels t n num) → b num ≡ Some old → ChildHalves old lower upper t s → c x2.child ≡ Some lower → c s.child ≡ Some upper
    → x2.key ≡ r.x.key → x2.place ≡ r.x.place → ((of_front : List Entry) → Leaves b r.front (r.x ∷ r.behind) of_front → Leaves c r.front (x2 ∷ r.behind) of_front)
    → Agree b c (uses r.front) → Agree b c (uses r.behind) → Agree b c (uses_in r.below) → LevelCut c r.front x2 s r.behind r.below es
level_cut b c top levels es t s x2 zero num old lower upper ch sorted asc r told halves tc tn kx px lf af ab al =
    let l = leaf_here b top levels es t num ch sorted r in
    let page_is : l.at.page ≡ old = some_one l.at.page old (sym l.at.told ∙ ap b r.page_is ∙ told) in
    let parts = halves.leaf (first_page r.behind) l.own (subst (λ p. IsNode false p 0 (first_page r.behind) l.own) page_is l.at.node) in
    subst (λ k. LevelCut c r.front x2 s r.behind k es) (sym l.no_below)
    (leaf_cut_at b c r.front r.behind l.before l.own l.after es r.x x2 s t lower upper l.all asc l.at parts tc tn kx px r.from r.to (lf l.before l.of_front)
    (leaves_same b c r.behind [] l.after ab l.of_behind))
level_cut b c top levels es t s x2 (suc n) num old lower upper ch sorted asc r told halves tc tn kx px lf af ab al =
    let e : suc n ≡ n + 1 = omega arith in
    let q : Reached top levels t (n + 1) num = record { above = r.above; front = r.front; x = r.x; behind = r.behind; below = r.below; all = r.all; level_is = r.level_is ∙ e; page_is = r.page_is; from = r.from; to = r.to } in
    let i = inner_here b top levels es t n num ch q in
    let page_is : i.at.page ≡ old = some_one i.at.page old (sym i.at.told ∙ ap b r.page_is ∙ told) in
    let parts = halves.inner (n + 1) i.at.first i.at.items (omega arith) (subst (λ p. IsNode true p (n + 1) i.at.first i.at.items) page_is i.at.node) in
    let level_all : (root top ∷ []) ∷ levels ≡ (r.above ++ (r.front ++ r.x ∷ r.behind) ∷ []) ++ i.level ∷ i.rest =
    r.all ∙ ap (λ l. r.above ++ (r.front ++ r.x ∷ r.behind) ∷ l) i.below_is ∙ sym (append_assoc r.above ((r.front ++ r.x ∷ r.behind) ∷ []) (i.level ∷ i.rest)) in
    let so : Ordered NotBehind i.level = sorted_at top levels (r.above ++ (r.front ++ r.x ∷ r.behind) ∷ []) i.rest i.level level_all sorted in
    let rest_is = i.rest_is in
    let below_agree : Agree b c (uses_in (i.level ∷ i.rest)) = subst (λ l. Agree b c (uses_in l)) i.below_is al in
    subst (λ k. LevelCut c r.front x2 s r.behind k es) (sym (i.below_is ∙ ap (λ l. l ∷ i.rest) i.level_is))
    (inner_cut_at b c (n + 1) r.front r.behind i.front i.back i.kids es i.rest r.x x2 s t lower upper i.at (subst (Ordered NotBehind) i.level_is so) (omega arith) parts tc tn kx px
    (inners_same b c (n + 1) r.front i.front af i.of_front) i.of_behind (inners_same b c (n + 1) r.behind i.back ab i.of_behind)
    (subst (λ l. Chained c l i.rest es) i.level_is (chained_same b c i.level i.rest es below_agree i.further)))

-- ---- all levels after a child was split

pub record SplitLevels (c : ℕ → Option (List ℕ)) (top : ℕ) (es : List Entry) (above : List (List Entry)) (level front : List Entry) (x s : Entry) (behind : List Entry) (rest : List (List Entry)) : Type 0 where
  pub now : List (List Entry)
  pub all : (root top ∷ []) ∷ now ≡ (above ++ level ∷ []) ++ (front ++ x ∷ s ∷ behind) ∷ rest
  pub chained : Chained c (root top ∷ []) now es
  pub sorted : AllSorted now
  pub from : NotBehind x s

pub split_levels : (b c : ℕ → Option (List ℕ)) (top : ℕ) (levels : List (List Entry)) (es : List Entry) (t s : Entry) (n num at child : ℕ) (old lower upper page : List ℕ)
    → (h : Chained b (root top ∷ []) levels es) → (sorted : AllSorted levels) → Ordered Before es → (r : Reached top levels t (n + 1) num)
    → (i : InnerHere b top levels t n num r es) → (k : ChildHere b top levels t n num r es i at child)
    → Elsewhere top levels t n num r k.front k.behind i.rest num → Elsewhere top levels t n num r k.front k.behind i.rest child
    → Elsewhere top levels t n num r k.front k.behind i.rest s.child → ((y : ℕ) → y ≢ num → y ≢ child → y ≢ s.child → c y ≡ b y)
    → b child ≡ Some old → ChildHalves old lower upper t s → c num ≡ Some page → c child ≡ Some lower → c s.child ≡ Some upper
    → IsNode true page (n + 1) i.at.first (k.done ++ s ∷ k.todo)
    → SplitLevels c top es r.above (r.front ++ r.x ∷ r.behind) k.front k.x s k.behind i.rest
split_levels b c top levels es t s n num at child old lower upper page h sorted asc r i k en ec es_else other told halves tp tc tn ins =
    let plevel : List Entry = r.front ++ r.x ∷ r.behind in
    let new : List Entry = k.front ++ k.x ∷ s ∷ k.behind in
    let agree : (used : ℕ → ℕ) → used num ≡ 0 → used child ≡ 0 → used s.child ≡ 0 → Agree b c used = λ used u v w. agree_without b c num child s.child used other u v w in
    let way = way_child b top levels es t n num at child r i k in
    let rc : Reached top levels t n child = record { above = r.above ++ plevel ∷ []; front = k.front; x = k.x; behind = k.behind; below = i.rest; all = way; level_is = i.rest_is; page_is = k.page_is; from = k.from; to = k.to } in
    let cut : LevelCut c k.front k.x s k.behind i.rest es =
    level_cut b c top levels es t s k.x n child old lower upper h sorted asc rc told halves (ap c k.page_is ∙ tc) tn refl refl
    (λ o f. leaves_same b c k.front (k.x ∷ k.behind) o (agree (uses k.front) en.front_of ec.front_of es_else.front_of) f)
    (agree (uses k.front) en.front_of ec.front_of es_else.front_of) (agree (uses k.behind) en.behind_of ec.behind_of es_else.behind_of)
    (agree (uses_in i.rest) en.below ec.below es_else.below) in
    let kids : Inners c (n + 1) plevel (i.front ++ ((with_page r.x i.at.first ∷ (k.done ++ s ∷ k.todo)) ++ i.back)) =
    kids_cut c (n + 1) r.front r.behind i.front i.back k.done k.todo r.x s i.at.first page
    (inners_same b c (n + 1) r.front i.front (agree (uses r.front) en.before ec.before es_else.before) i.of_front)
    (ap c r.page_is ∙ tp) ins
    (inners_same b c (n + 1) r.behind i.back (agree (uses r.behind) en.after ec.after es_else.after) i.of_behind) in
    let len : length (new ∷ i.rest) ≡ n + 1 = (let l = i.rest_is in omega arith) in
    let here : Chained c plevel (new ∷ i.rest) es =
    (subst (λ m. Inners c m plevel new) (sym len) (subst (Inners c (n + 1) plevel) (k.with_new s) kids), cut.chained) in
    let whole : AreChained c (r.above ++ plevel ∷ (new ∷ i.rest)) es =
    chained_swap b c r.above r.below (new ∷ i.rest) plevel es es (subst (λ l. AreChained b l es) r.all h)
    (agree (uses_in r.above) en.above ec.above es_else.above) here (let l = r.level_is in omega arith) in
    let kept = head_kept (root top ∷ []) levels r.above plevel r.below (new ∷ i.rest) r.all in
    let all_is : (root top ∷ []) ∷ tail_of (r.above ++ plevel ∷ (new ∷ i.rest)) ≡ (r.above ++ plevel ∷ []) ++ new ∷ i.rest =
    sym kept ∙ sym (append_assoc r.above (plevel ∷ []) (new ∷ i.rest)) in
    let w : AllSorted ((root top ∷ []) ∷ levels) = ((tt, tt), sorted) in
    let level_sorted : Ordered NotBehind (k.front ++ k.x ∷ k.behind) = sorted_at top levels (r.above ++ plevel ∷ []) i.rest (k.front ++ k.x ∷ k.behind) way sorted in
    let sorted_now : AllSorted ((root top ∷ []) ∷ tail_of (r.above ++ plevel ∷ (new ∷ i.rest))) =
    subst AllSorted (sym all_is) (sorted_swap (r.above ++ plevel ∷ []) (k.front ++ k.x ∷ k.behind) new i.rest (subst AllSorted way w) (sorted_cut k.front k.x s k.behind level_sorted cut.from cut.to)) in
    record {
      now = tail_of (r.above ++ plevel ∷ (new ∷ i.rest));
      all = all_is;
      chained = subst (λ l. AreChained c l es) kept whole;
      sorted = sorted_now.1;
      from = cut.from;
    }
