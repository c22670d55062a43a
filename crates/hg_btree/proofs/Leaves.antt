-- How a tree changes with a leaf.
use Rattle.std.specs.Prelude.{◌≡◌, ◌≢◌, ℕ, ◌+◌, ◌≤◌, Bool, true, false, List, [], ◌∷◌, ◌++◌, length, Option, Some, Result, Ok, Err, IfErr, if◌then◌else◌}
use Rattle.std.specs.List.{AllByRecursion}
use Rattle.std.proofs.Common.{sym, ◌∙◌, ap, subst, refl, arith, inl, inr}
use Rattle.std.proofs.lemmas.Bool.{cases_eq, ne_eqb, eq-eqb}
use Rattle.hg_base.specs.Space.{Space, NoPins, key, key_in}
use Rattle.hg_base.specs.Steadiness.{IsPlain}
use Rattle.hg_base.specs.TakenLaws.{key_in-one}
use Rattle.hg_base.specs.Lines.{IsLine, AreApart}
use Rattle.hg_base.specs.LineLaws.{IsSameLink, line_stays, line-plain, all_map, distinct-apart}
use Rattle.hg_base.specs.declared.File.{File}
use Rattle.hg_base.specs.declared.PageId.{PageId}
use Rattle.hg_btree.specs.Entries.{Entry, AllBy, Before, Ordered, NotBehind}
use Rattle.hg_btree.specs.Nodes.{spelled, spelling, IsNode, IsSpot, IsThere}
use Rattle.hg_btree.specs.Trees.{pages_of, first_page, AllBefore, IsLeafAt, Leaves, root, uses, uses_in, times, IsTree, Reached, Along}
use Rattle.hg_btree.specs.Steps.{Looks}
use Rattle.hg_btree.specs.Leaf.{Removes, Misses, ChangesPage}
use Rattle.hg_btree.proofs.Walking.{none_behind, uses-append, uses_in-append, uses_here, LeafHere}
use Rattle.hg_btree.proofs.Changing.{Agree, AreChained, leaves_same, chained_same, chained_swap}
use Rattle.hg_btree.proofs.Walking.{leaves_join}
use Rattle.hg_btree.specs.Looking.{SeeksOn}
use Rattle.hg_btree.specs.declared.look.OnLeaf.{OnLeaf}
use Rattle.hg_btree.specs.declared.look.OnLeaf.TheVariants as on
use Rattle.hg_btree.proofs.Seeking.{used_free, bytes_stay, along_first, along_next, seen_before}

-- ---- what stands at a spot

removes_at : (page new : List ℕ) (link : ℕ) (done todo : List Entry) (t : Entry) (at after : ℕ) → IsNode false page 0 link (done ++ todo)
    → at ≡ 16 + length (spelling false done) → IsThere false todo t at after
    → ((x : Entry) (rest : List Entry) → IsNode false page 0 link (done ++ x ∷ rest) → after ≡ at + length (spelled false x) → IsNode false new 0 link (done ++ rest))
    → Removes new link (done ++ todo) t
removes_at page new link done [] t at after h a i f = absurd i
removes_at page new link done (x ∷ rest) t at after h a i f = record {
  done = done;
  x = x;
  todo = rest;
  all = refl;
  same = i.0;
  node = f x rest h i.1;
}

pub removes_spot : (page new : List ℕ) (link : ℕ) (es : List Entry) (t : Entry) (at after : ℕ) → IsNode false page 0 link es → IsSpot false es t at after true
    → ((inner : Bool) (level link : ℕ) (done : List Entry) (x : Entry) (todo : List Entry) → IsNode inner page level link (done ++ x ∷ todo)
    → at ≡ 16 + length (spelling inner done) → after ≡ at + length (spelled inner x) → IsNode inner new level link (done ++ todo))
    → Removes new link es t
removes_spot page new link es t at after h s f =
    subst (λ l. Removes new link l t) (sym s.passed.all)
    (removes_at page new link s.passed.done s.passed.todo t at after (subst (IsNode false page 0 link) s.passed.all h) s.passed.place (s.here refl)
    (λ x rest n a. f false 0 link s.passed.done x rest n s.passed.place a))

pub misses_spot : (es : List Entry) (t : Entry) (at after : ℕ) → IsSpot false es t at after false → Misses es t
misses_spot es t at after s = record {
  done = s.passed.done;
  todo = s.passed.todo;
  all = s.passed.all;
  below = s.passed.are;
  behind = (s.not_here refl).1;
}

-- ---- pages of the tree are apart

times_none : (x : ℕ) (xs : List ℕ) → AllByRecursion (λ y. y ≢ x) xs → times xs x ≡ 0
times_none x [] h = refl
times_none x (y ∷ xs) h = ap (λ t. (if t then 1 else 0) + times xs x) (ne_eqb y x h.0) ∙ (let r = times_none x xs h.1 in omega arith)

pub times_one : (xs : List ℕ) (x : ℕ) → AreApart xs → times xs x ≤ 1
times_one [] x h = omega arith
times_one (y ∷ xs) x h = elim (cases_eq y x) [
  | inl e ↦ (let n : times xs x ≡ 0 = subst (λ z. times xs z ≡ 0) e (times_none y xs h.0) in
      let k : times (y ∷ xs) x ≡ 1 + times xs x = ap (λ t. (if t then 1 else 0) + times xs x) (eq-eqb y x e) in omega arith)
  | inr d ↦ (let r = times_one xs x h.1 in
      let k : times (y ∷ xs) x ≡ 0 + times xs x = ap (λ t. (if t then 1 else 0) + times xs x) (ne_eqb y x d) in omega arith)
]

pub tree_times : (file : File) (s : Space) (from : Option ℕ) (pages : List ℕ) (x : ℕ) → IsLine file s from pages → times pages x ≤ 1
tree_times file s from pages x l = times_one pages x (distinct-apart file s.taken (s.limit file) pages l.taken)

-- ---- the tree after looks

unfoldable pub tree_stays : (file : File) (a b : Space) (top : ℕ) (es : List Entry) (pages : List ℕ) (leaves : ℕ) → Looks a b → IsTree file a top es pages leaves → IsTree file b top es pages leaves
tree_stays file a b top es pages leaves l h =
    let link : (q : ℕ) → IsPlain a q → IsSameLink a b q = λ q p. (let s = l.steady.pages q nothing p in record { taken = s.taken; of_heap = s.of_heap; next = s.next }) in
    record {
      line = line_stays file a b (Some top) pages l.steady.limit
          (all_map (λ x. IsPlain a (key_in file x)) (λ x. IsSameLink a b (key_in file x)) pages (λ x p. link (key_in file x) p) (plain_all pages h.line)) h.line;
      levels = h.levels;
      chained = chained_same (pages_of file a) (pages_of file b) (root top ∷ []) h.levels es
          (λ y u. let f = used_free file a top es pages leaves y l.steady.pins_before h (let o = h.owns y in omega arith) in bytes_stay a b (record { file = file; no = y }) l f)
          h.chained;
      sorted = h.sorted;
      ascending = h.ascending;
      owns = h.owns;
      count = h.count;
      leaf_count = h.leaf_count;
      known = l.steady.told ∙ h.known;
      numbers = let e = ap (λ (g : File → ℕ). g file) l.steady.limit in let n = h.numbers in omega arith;
    }
  where
    nothing : ⊥ → ⊥
    nothing x = x

    plain_all : (pages : List ℕ) → IsLine file a (Some top) pages → AllByRecursion (λ x. IsPlain a (key_in file x)) pages
    plain_all pages l = line-plain file a (Some top) pages l

pub tree_stays-levels : (file : File) (a b : Space) (top : ℕ) (es : List Entry) (pages : List ℕ) (leaves : ℕ) (l : Looks a b) (h : IsTree file a top es pages leaves)
    → (tree_stays file a b top es pages leaves l h).levels ≡ h.levels
unfolding tree_stays
tree_stays-levels file a b top es pages leaves l h = refl

-- and so is a walk along its leaves where it was
pub along_stays : (file : File) (a b : Space) (top : ℕ) (es : List Entry) (pages : List ℕ) (leaves leaf turns : ℕ) (t : Entry) → Looks a b
    → IsTree file a top es pages leaves → Along (pages_of file a) es pages t leaf turns → Along (pages_of file b) es pages t leaf turns
along_stays file a b top es pages leaves leaf turns t l h g = record {
  passed = g.passed;
  rest = g.rest;
  x = g.x;
  behind = g.behind;
  page_is = g.page_is;
  all = g.all;
  below = g.below;
  leaves = leaves_same (pages_of file a) (pages_of file b) (g.x ∷ g.behind) [] g.rest
      (λ y u. let f = used_free file a top es pages leaves y l.steady.pins_before h (let k = g.are_pages y in omega arith) in bytes_stay a b (record { file = file; no = y }) l f)
      g.leaves;
  are_pages = g.are_pages;
  few = g.few;
}

-- the walk from the second leaf on
pub second_leaf : (file : File) (a b d : Space) (top leaf next : ℕ) (page : PageId) (t : Entry) (es : List Entry) (pages : List ℕ) (leaves : ℕ) (got : List ℕ) (found : OnLeaf)
    → NoPins a → Looks a b → Looks a d → (h : IsTree file a top es pages leaves) → Reached top h.levels t 0 leaf → page ≡ record { file = file; no = leaf } → found ≡ on.Next next
    → ((bytes : List ℕ) (link : ℕ) (own : List Entry) → b.bytes (key page) ≡ Some bytes → IsNode false bytes 0 link own → SeeksOn own link t got found)
    → IsTree file d top es pages leaves × Along (pages_of file d) es pages t next 1
second_leaf file a b d top leaf next page t es pages leaves got found out l k h r e is f =
    let g = along_first file a top es pages leaves leaf t h r in
    let n = along_next file a top es pages leaves leaf 0 next t got out h g
    (seen_before file a b top leaf 0 page t es pages leaves got found (on.Next next) out l h g e is f) in
    (tree_stays file a d top es pages leaves k h, along_stays file a d top es pages leaves next 1 t k h n)

-- ---- the tree after a change of a leaf

pub tree_leaf : (file : File) (a b : Space) (page : PageId) (P : List ℕ → List ℕ → Type 0) (top : ℕ) (es : List Entry) (pages : List ℕ) (leaves leaf : ℕ) (t : Entry)
    → (h : IsTree file a top es pages leaves) → (r : Reached top h.levels t 0 leaf) → (l : LeafHere (pages_of file a) top h.levels t leaf r es)
    → page ≡ record { file = file; no = leaf } → ChangesPage a b page P → (new : List ℕ) → (own : List Entry) → b.bytes (key page) ≡ Some new
    → IsNode false new 0 (first_page r.behind) own → AllBy (NotBehind r.x) own → AllBefore own r.behind → Ordered Before (l.before ++ (own ++ l.after))
    → IsTree file b top (l.before ++ (own ++ l.after)) pages leaves
tree_leaf file a b page P top es pages leaves leaf t h r l pe ch new own told node from to asc =
    let fa = pages_of file a in
    let fb = pages_of file b in
    let one = tree_times file a (Some top) pages leaf h.line in
    let own_leaf = h.owns leaf in
    let u1 = ap (λ k. uses_in k leaf) r.all ∙ uses_in-append r.above ((r.front ++ r.x ∷ r.behind) ∷ r.below) leaf in
    let u2 = uses-append r.front (r.x ∷ r.behind) leaf in
    let u3 : uses (r.x ∷ r.behind) leaf ≡ 1 + uses r.behind leaf = subst (λ k. uses (r.x ∷ r.behind) k ≡ 1 + uses r.behind k) r.page_is (uses_here r.x r.behind) in
    let other : (y : ℕ) → (y ≡ leaf → ⊥) → fb y ≡ fa y = λ y n. ch.others (key_in file y) (λ e. n (key_in-one file y leaf (e ∙ ap key pe))) in
    let agree : (level : ℕ → ℕ) → level leaf ≡ 0 → Agree fa fb level = λ level z y u. other y (λ e. absurd (let w = ap level e in omega arith)) in
    let front : Leaves fb r.front (r.x ∷ r.behind) l.before = leaves_same fa fb r.front (r.x ∷ r.behind) l.before (agree (uses r.front) (omega arith)) l.of_front in
    let behind : Leaves fb r.behind [] l.after = leaves_same fa fb r.behind [] l.after (agree (uses r.behind) (omega arith)) l.of_behind in
    let at : IsLeafAt fb r.x r.behind own = record {
      page = new;
      told = ap fb r.page_is ∙ ap (λ p. b.bytes (key p)) (sym pe) ∙ told;
      node = node;
      from = from;
      to = to;
    } in
    let here : Leaves fb (r.x ∷ r.behind) [] (own ++ l.after) =
    (own, l.after, subst (λ k. IsLeafAt fb r.x k own) (sym (none_behind r.behind)) at, refl, behind) in
    let level : Leaves fb (r.front ++ r.x ∷ r.behind) [] (l.before ++ (own ++ l.after)) =
    leaves_join fb r.front (r.x ∷ r.behind) [] l.before (own ++ l.after) (subst (λ k. Leaves fb r.front k l.before) (sym (none_behind (r.x ∷ r.behind))) front) here in
    let was : AreChained fa (r.above ++ (r.front ++ r.x ∷ r.behind) ∷ r.below) es = subst (λ k. AreChained fa k es) r.all h.chained in
    let now : AreChained fb (r.above ++ (r.front ++ r.x ∷ r.behind) ∷ []) (l.before ++ (own ++ l.after)) =
    chained_swap fa fb r.above r.below [] (r.front ++ r.x ∷ r.behind) es (l.before ++ (own ++ l.after)) was (agree (uses_in r.above) (omega arith)) level
    (sym (ap length l.no_below)) in
    let levels_are : (root top ∷ []) ∷ h.levels ≡ r.above ++ (r.front ++ r.x ∷ r.behind) ∷ [] =
    r.all ∙ ap (λ k. r.above ++ (r.front ++ r.x ∷ r.behind) ∷ k) l.no_below in
    record {
      line = line_stays file a b (Some top) pages ch.steady.limit
          (all_map (λ x. a.of_heap (key_in file x) ≡ false) (λ x. IsSameLink a b (key_in file x)) pages
          (λ x _. record {
            taken = ap (λ f. f (key_in file x)) ch.taken;
            of_heap = ap (λ f. f (key_in file x)) ch.of_heap;
            next = ap (λ f. f (key_in file x)) ch.links;
          }) h.line.no_heap) h.line;
      levels = h.levels;
      chained = subst (λ k. AreChained fb k (l.before ++ (own ++ l.after))) (sym levels_are) now;
      sorted = h.sorted;
      ascending = asc;
      owns = h.owns;
      count = h.count;
      leaf_count = h.leaf_count;
      known = ch.steady.told ∙ h.known;
      numbers = let e = ap (λ (g : File → ℕ). g file) ch.steady.limit in let n = h.numbers in omega arith;
    }

-- a fact that does not speak of the error
pub if_err : {T E : Type 0} (r : Result T E) (X : Type 0) → X → IfErr r (λ _. X)
if_err (Ok v) X x = tt
if_err (Err e) X x = x
