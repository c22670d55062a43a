-- A tree and its line after the pages of a split were stored.
use Rattle.std.specs.Prelude.{◌≡◌, ◌≢◌, ℕ, ◌+◌, ◌<◌, ◌≤◌, ◌==◌, ◌||◌, Bool, true, false, List, [], ◌∷◌, ◌++◌, length, Option, Some, None, ◌⊎◌}
use Rattle.std.specs.List.{AllByRecursion}
use Rattle.std.proofs.Common.{sym, ◌∙◌, ap, subst, refl, arith, inl, inr}
use Rattle.std.proofs.lemmas.Bool.Decides.{nat_tests}
use Rattle.std.proofs.lemmas.Bool.{false≢true, cases_eq, eq-eqb}
use Rattle.hg_base.specs.Space.{Space, NoPins, key, key_in, at}
use Rattle.hg_base.specs.SteadyLaws.{Steady_then, Steady_wider}
use Rattle.hg_base.specs.TakenLaws.{key_in-one}
use Rattle.hg_base.specs.Lines.{IsLine, has_page}
use Rattle.hg_base.specs.LineLaws.{line_steady}
use Rattle.hg_base.specs.declared.File.{File}
use Rattle.hg_btree.specs.Entries.{Entry, Before, NotBehind}
use Rattle.hg_btree.specs.Nodes.{spelling, IsNode, crowded_page}
use Rattle.hg_btree.specs.Trees.{pages_of, root, uses_in, times, IsTree, Reached}
use Rattle.hg_btree.specs.Deleting.{pages_mine}
use Rattle.hg_btree.specs.Steps.{Looks, none_mine}
use Rattle.hg_btree.specs.Growing.{crowded_on, HasRoom, OnWay, AboveCrowded, LineGrows, leaves_after}
use Rattle.hg_btree.specs.Planning.{AreHalves, IsLevelOf, Planned}
use Rattle.hg_btree.specs.Halving.{AreInnerHalves}
use Rattle.hg_btree.specs.Rewriting.{with_linked, WritesSplit}
use Rattle.hg_btree.proofs.Deleting.{none_wider}
use Rattle.hg_btree.proofs.Leaves.{tree_stays, tree_stays-levels}
use Rattle.hg_btree.proofs.Seeking.{used_free, bytes_stay}
use Rattle.hg_btree.proofs.Walking.{uses_in-append, reached_used}
use Rattle.hg_btree.proofs.Touching.{at-here}
use Rattle.hg_btree.proofs.Parting.{halves_linked}
use Rattle.hg_btree.proofs.Stepping.{ChildHalves, crowded_same}
use Rattle.hg_btree.proofs.Rewriting.{at-other, LinksOne, line_more, rewritten_steady}
use Rattle.hg_btree.proofs.Splits.{split_on}

-- ---- the line

pub line_stays_looked : (file : File) (a b : Space) (top : ℕ) (pages : List ℕ) → Looks a b → IsLine file a (Some top) pages → IsLine file b (Some top) pages
line_stays_looked file a b top pages l h =
    line_steady file none_mine a b (Some top) pages l.steady (none pages) h
  where
    none : (xs : List ℕ) → AllByRecursion (λ x. ⊥ → ⊥) xs
    none [] = tt
    none (x ∷ xs) = ((λ z. z), none xs)

-- nothing was written
unfoldable pub line_looked : (file : File) (a b : Space) (top : ℕ) (pages : List ℕ) → Looks a b → IsLine file a (Some top) pages → LineGrows file a b top pages
line_looked file a b top pages l h = record {
  now = pages;
  line = line_stays_looked file a b top pages l h;
  kept = λ n e. e;
  more = λ n e. inl e;
  steady = none_wider (pages_mine file pages) a b l.steady;
}

-- one call behind another
pub line_then : (file : File) (a b c : Space) (top : ℕ) (pages : List ℕ) → (p : LineGrows file a b top pages) → LineGrows file b c top p.now → LineGrows file a c top pages
line_then file a b c top pages p q = record {
  now = q.now;
  line = q.line;
  kept = λ n e. q.kept n (p.kept n e);
  more = λ n e. elim (q.more n e) [
    | inl h ↦ p.more n h
    | inr t ↦ by_page n t (has_page p.now n) refl
  ];
  steady = Steady_then (pages_mine file q.now) a b c
      (Steady_wider (pages_mine file p.now) (pages_mine file q.now) a b (λ k m. (m.0, m.1, q.kept m.0 m.2)) (λ k x. absurd x) (λ k x. absurd x) p.steady) q.steady;
}
  where
    by_page : (n : ℕ) → b.taken (key_in file n) ≡ false → (k : Bool) → has_page p.now n ≡ k → (has_page pages n ≡ true) ⊎ (a.taken (key_in file n) ≡ false)
    by_page n t true e = p.more n e
    by_page n t false e = inr (sym (p.steady.taken (key_in file n) (λ m. false≢true (sym e ∙ ap (has_page p.now) (key_in-one file n m.0 m.1) ∙ m.2))) ∙ t)

pub line_then_looked : (file : File) (a b c : Space) (top : ℕ) (pages : List ℕ) → Looks a b → IsLine file a (Some top) pages → LineGrows file b c top pages → LineGrows file a c top pages
unfolding line_looked
line_then_looked file a b c top pages l h q = line_then file a b c top pages (line_looked file a b top pages l h) q

-- a page behind the first of a list
pub has_kept : (top num : ℕ) (rest : List ℕ) (n : ℕ) → has_page (top ∷ rest) n ≡ true → has_page (top ∷ num ∷ rest) n ≡ true
has_kept top num rest n e = go (top == n) (num == n) (has_page rest n) e
  where
    go : (x y z : Bool) → (x || z) ≡ true → (x || (y || z)) ≡ true
    go true y z e = refl
    go false true z e = refl
    go false false z e = e

pub has_more : (top num : ℕ) (rest : List ℕ) (n : ℕ) → has_page (top ∷ num ∷ rest) n ≡ true → (has_page (top ∷ rest) n ≡ true) ⊎ (num ≡ n)
has_more top num rest n e = elim (cases_eq num n) [
  | inl s ↦ inr s
  | inr d ↦ inl (grind (arith, nat_tests))
]

pub has_first : (top : ℕ) (rest : List ℕ) → has_page (top ∷ rest) top ≡ true
has_first top rest = ap (λ k. k || has_page rest top) (eq-eqb top top refl)

pub has_second : (top num : ℕ) (rest : List ℕ) → has_page (top ∷ num ∷ rest) num ≡ true
has_second top num rest = go (top == num) (num == num) (has_page rest num) (eq-eqb num num refl)
  where
    go : (x y z : Bool) → y ≡ true → (x || (y || z)) ≡ true
    go true y z e = refl
    go false true z e = refl
    go false false z e = absurd (false≢true e)

-- the first page of a line is taken
pub first_taken : (file : File) (s : Space) (top : ℕ) (pages : List ℕ) → IsLine file s (Some top) pages → (s.taken (key_in file top) ≡ true) × (s.of_heap (key_in file top) ≡ false)
first_taken file s top [] l = absurd (let n : ◌≡◌ {A = Option ℕ} (Some top) None = l.path in cc)
first_taken file s top (y ∷ pages) l =
    let e : y ≡ top = some_num y top (sym l.path.0) in
    (ap (λ z. s.taken (key_in file z)) (sym e) ∙ l.taken.1, ap (λ z. s.of_heap (key_in file z)) (sym e) ∙ l.no_heap.0)
  where
    some_num : (x y : ℕ) → ◌≡◌ {A = Option ℕ} (Some x) (Some y) → x ≡ y
    some_num x y e = cc

pub linked_other : (f : ℕ → Option ℕ) (n t num q : ℕ) → q ≢ n → q ≢ t → with_linked (at f n None) n t num q ≡ f q
linked_other f n t num q dn dt =
    at-other (at (at f n None) n (at f n None t)) t (Some num) q dt ∙ at-other (at f n None) n (at f n None t) q dn ∙ at-other f n None q dn

pub linked_new : (f : ℕ → Option ℕ) (n t num : ℕ) → n ≢ t → with_linked (at f n None) n t num n ≡ f t
linked_new f n t num d =
    at-other (at (at f n None) n (at f n None t)) t (Some num) n d ∙ at-here (at f n None) n (at f n None t) ∙ at-other f n None t (λ e. d (sym e))

pub split_links : (file : File) (a d : Space) (top node kid num : ℕ) (pages : List ℕ) (xp xc xn : List ℕ)
    → WritesSplit a d (record { file = file; no = top }) (record { file = file; no = node }) (record { file = file; no = kid }) num xp xc xn
    → IsLine file a (Some top) pages → LinksOne file a d top num
split_links file a d top node kid num pages xp xc xn w l =
    let n : ℕ = key_in file num in
    let t : ℕ = key_in file top in
    let r = w.rewrites in
    let nt : n ≢ t = λ e. false≢true (sym w.is_new.unused.not_taken ∙ ap a.taken e ∙ (first_taken file a top pages l).0) in
    record {
      limit = r.limit;
      of_heap = r.of_heap;
      below = w.is_new.below_limit;
      not_taken = w.is_new.unused.not_taken;
      no_heap = w.is_new.unused.no_heap;
      taken = λ q x. ap (λ f. f q) r.taken_is ∙ at-other a.taken n true q x;
      taken_new = ap (λ f. f n) r.taken_is ∙ at-here a.taken n true;
      next = λ q x y. ap (λ f. f q) r.next_is ∙ linked_other a.next n t num q x y;
      next_new = ap (λ f. f n) r.next_is ∙ linked_new a.next n t num nt;
      next_top = ap (λ f. f t) r.next_is ∙ at-here (at (at a.next n None) n (at a.next n None t)) t (Some num);
    }

pub split_line : (file : File) (a d : Space) (top node kid num : ℕ) (pages : List ℕ) (xp xc xn : List ℕ) → NoPins a
    → WritesSplit a d (record { file = file; no = top }) (record { file = file; no = node }) (record { file = file; no = kid }) num xp xc xn
    → (l : IsLine file a (Some top) pages) → (a.told ≡ true → (has_page pages node ≡ true) × (has_page pages kid ≡ true)) → LineGrows file a d top pages
split_line file a d top node kid num pages xp xc xn out w l used =
    let k = split_links file a d top node kid num pages xp xc xn w l in
    let m = line_more file a d top num pages k l in
    let now : List ℕ = top ∷ num ∷ m.rest in
    let kept : (n : ℕ) → has_page pages n ≡ true → has_page now n ≡ true = λ n e. has_kept top num m.rest n (ap (λ p. has_page p n) (sym m.was) ∙ e) in
    let apart : (q y : ℕ) → ((pages_mine file now).pages q → ⊥) → has_page now y ≡ true → q ≢ key_in file y = λ q y n h e. n (y, e, h) in
    let r = w.rewrites in
    record {
      now = now;
      line = m.line;
      kept = kept;
      more = λ n e. elim (has_more top num m.rest n e) [
        | inl h ↦ inl (ap (λ p. has_page p n) m.was ∙ h)
        | inr s ↦ inr (ap (λ z. a.taken (key_in file z)) (sym s) ∙ k.not_taken)
      ];
      steady = rewritten_steady a d (key_in file node) (key_in file kid) (key_in file num) (at a.taken (key_in file num) true) _ xp xc xn (pages_mine file now).pages out r
          (λ q n. at-other a.taken (key_in file num) true q (apart q num n (has_second top num m.rest)))
          (λ q n. linked_other a.next (key_in file num) (key_in file top) num q (apart q num n (has_second top num m.rest)) (apart q top n (has_first top (num ∷ m.rest))))
          (λ t. (node, refl, kept node (used t).0)) (λ t. (kid, refl, kept kid (used t).1)) (λ t. (num, refl, has_second top num m.rest));
    }

-- ---- the tree

above_levels : (file : File) (b : Space) (top : ℕ) (t : Entry) (es : List Entry) (most leaves n node : ℕ) (pages : List ℕ) (g : IsTree file b top es pages leaves) (now : List (List Entry)) → g.levels ≡ now
    → (r : Reached top now t (n + 1) node) → HasRoom file b node → length pages + crowded_on (pages_of file b) r.below t ≤ most
    → ((child : ℕ) (page : List ℕ) → Reached top now t n child → b.bytes (key_in file child) ≡ Some page → crowded_page page ≡ true)
    → (w : AboveCrowded file b top t es most leaves n node) × (w.on.pages ≡ pages)
above_levels file b top t es most leaves n node pages g now e =
    let P : List (List Entry) → Type 0 =
    λ l. (r : Reached top l t (n + 1) node) → HasRoom file b node → length pages + crowded_on (pages_of file b) r.below t ≤ most
    → ((child : ℕ) (page : List ℕ) → Reached top l t n child → b.bytes (key_in file child) ≡ Some page → crowded_page page ≡ true)
    → (w : AboveCrowded file b top t es most leaves n node) × (w.on.pages ≡ pages) in
    subst P e (λ r room few full. (record { on = record { pages = pages; tree = g; way = r; room = λ _. room; few = few }; full = full }, refl))

-- pages of the tree that are looked at hold what they held
pub tree_bytes : (file : File) (a b : Space) (top : ℕ) (es : List Entry) (pages : List ℕ) (leaves : ℕ) → Looks a b → IsTree file a top es pages leaves → (y : ℕ) → 1 ≤ times pages y
    → b.bytes (key_in file y) ≡ a.bytes (key_in file y)
tree_bytes file a b top es pages leaves l h y u = bytes_stay a b (record { file = file; no = y }) l (used_free file a top es pages leaves y l.steady.pins_before h u)

pub above_stays : (file : File) (a b : Space) (top : ℕ) (t : Entry) (es : List Entry) (most leaves n node : ℕ) → Looks a b → (w : AboveCrowded file a top t es most leaves n node)
    → (v : AboveCrowded file b top t es most leaves n node) × (v.on.pages ≡ w.on.pages)
above_stays file a b top t es most leaves n node l w =
    let h = w.on.tree in
    let room = w.on.room (omega arith) in
    let used : (y : ℕ) → 1 ≤ uses_in ((root top ∷ []) ∷ h.levels) y → b.bytes (key_in file y) ≡ a.bytes (key_in file y) =
    λ y u. tree_bytes file a b top es w.on.pages leaves l h y (let o = h.owns y in omega arith) in
    let same = crowded_same (pages_of file a) (pages_of file b) w.on.way.below t
    (λ y u. used y (let z = ap (λ k. uses_in k y) w.on.way.all ∙ uses_in-append w.on.way.above ((w.on.way.front ++ w.on.way.x ∷ w.on.way.behind) ∷ w.on.way.below) y in omega arith)) in
    above_levels file b top t es most leaves n node w.on.pages (tree_stays file a b top es w.on.pages leaves l h) h.levels (tree_stays-levels file a b top es w.on.pages leaves l h) w.on.way
    (record { page = room.page; told = used node (reached_used top h.levels t (n + 1) node w.on.way) ∙ room.told; free = room.free })
    (let f = w.on.few in omega arith)
    (λ child page r e. w.full child page r (sym (used child (reached_used top h.levels t n child r)) ∙ e))

-- the halves of the child, of which the lower one names the upper one
pub linked_halves : (old lower linked upper key : List ℕ) (place level num : ℕ) (t : Entry) → AreHalves old lower upper t key place → IsLevelOf old level
    → (level ≡ 0 → (n before : ℕ) (es : List Entry) → IsNode false lower n before es → IsNode false linked n num es) → (0 < level → linked ≡ lower)
    → ChildHalves old linked upper t (record { key = key; place = place; child = num })
linked_halves old lower linked upper key place level num t h i f g = record {
  leaf = λ link own n. halves_linked num link own lower linked upper t key place (h.leaf link own n) (f (i.leaf link own n));
  inner = λ l first items z n.
      let e : linked ≡ lower = g (let q = i.inner l first items z n in omega arith) in
      subst (λ p. AreInnerHalves l first items p upper t key place) (sym e) (h.inner l first items z n);
}

pub child_split : (file : File) (a d : Space) (top : ℕ) (t : Entry) (es : List Entry) (most leaves n node kid at level num half : ℕ) (above xp lower xc upper key : List ℕ) (place : ℕ)
    → (w : AboveCrowded file a top t es most leaves n node) → Planned file a t n node kid at level above lower upper key place w.on.pages
    → WritesSplit a d (record { file = file; no = top }) (record { file = file; no = node }) (record { file = file; no = kid }) num xp xc upper
    → ((level link : ℕ) (done todo : List Entry) → IsNode true above level link (done ++ todo) → at ≡ 16 + length (spelling true done)
    → IsNode true xp level link (done ++ record { key = key; place = place; child = num } ∷ todo))
    → (level ≡ 0 → (n before : ℕ) (es : List Entry) → IsNode false lower n before es → IsNode false xc n num es) → (0 < level → xc ≡ lower)
    → (Before t (record { key = key; place = place; child = num }) → half ≡ kid) → (NotBehind (record { key = key; place = place; child = num }) t → half ≡ num)
    → OnWay file d top t es most (leaves_after n leaves) n half × HasRoom file d half
child_split file a d top t es most leaves n node kid at level num half above xp lower xc upper key place w p ws ins leaf inner low high =
    let s : Entry = record { key = key; place = place; child = num } in
    let h = w.on.tree in
    let k = split_links file a d top node kid num w.on.pages xp xc upper ws h.line in
    let m = line_more file a d top num w.on.pages k h.line in
    split_on file a d top t s es most leaves n node kid at half above p.old xp xc upper m.rest w p.told_above p.way ins p.told
    (linked_halves p.old lower xc upper key place level num t p.halves p.is_level leaf inner) k.not_taken
    (ws.rewrites.first h.known) (ws.rewrites.second h.known) (ws.rewrites.third h.known) ws.rewrites.others m.was m.line ws.rewrites.told ws.rewrites.limit low high
