-- The way down of an insertion.
use Rattle.std.specs.Prelude.{◌≡◌, ℕ, ◌+◌, ◌-◌, ◌<◌, ◌≤◌, not, nat_lt, zero, suc, Bool, true, false, List, [], ◌∷◌, ◌++◌, length, Some, Result, Ok, Err, OnErr, IfOk, ◌⊎◌, if◌then◌else◌}
use Rattle.std.proofs.Common.{sym, ◌∙◌, ap, subst, refl, arith, append_assoc, length-append, inl, inr}
use Rattle.std.proofs.lemmas.Bool.{false≢true}
use Rattle.hg_base.specs.Space.{Space, NoPins, key, key_in}
use Rattle.hg_base.specs.declared.File.{File}
use Rattle.hg_base.specs.declared.PageId.{PageId}
use Rattle.hg_btree.specs.Entries.{Entry, NotBehind, Ordered, is_below}
use Rattle.hg_btree.specs.Nodes.{number, IsBehind, crowded_page}
use Rattle.std.proofs.lemmas.Bool.Decides.{nat_tests}
use Rattle.hg_btree.specs.Trees.{pages_of, root, uses_in, AllSorted, IsTree, HasTree, Reached}
use Rattle.hg_btree.specs.Steps.{Looks}
use Rattle.hg_btree.specs.Growing.{crowded_one, crowded_at, crowded_on, most_pages, HasRoom, OnWay, AboveCrowded, CrowdedTop, AtStep, FindsHere, IsTreeNow, leaves_after}
use Rattle.hg_btree.proofs.Orders.{not_behind_trans, least_first}
use Rattle.hg_btree.proofs.Reading.{all_behind}
use Rattle.hg_btree.proofs.Walking.{sorted_at, reached_used, uses_here, uses_in-append}
use Rattle.hg_btree.proofs.Leaves.{tree_stays, tree_stays-levels}
use Rattle.hg_btree.proofs.Stepping.{crowded_same}
use Rattle.hg_btree.proofs.Grown.{tree_bytes, above_stays}
use Rattle.hg_btree.proofs.Heights.{pages_few}
use Rattle.hg_btree.proofs.Planning.{page_at}
use Rattle.hg_base.specs.Lines.{IsLine, has_page}
use Rattle.hg_base.specs.LineLaws.{line_one}
use Rattle.hg_btree.specs.declared.change.Put.{Put}
use Rattle.hg_btree.specs.declared.change.Put.TheVariants as put
use Rattle.hg_btree.specs.Putting.{Puts, PutsInto, IsFullFor}
use Rattle.hg_btree.specs.Growing.{LineGrows, AtFullLeaf, IsTreeNowWith}
use Rattle.hg_btree.proofs.Splitting.{crowded_less}
use Rattle.hg_btree.proofs.Deleting.{changed_steady}
use Rattle.hg_btree.proofs.Grown.{line_looked}
use Rattle.hg_btree.proofs.Keeping.{line_changed}
use Rattle.hg_btree.proofs.Walking.{times_has, leaf_here}

-- ---- one page a level

page_from : ℕ → List Entry → Entry → ℕ
page_from p [] t = p
page_from p (x ∷ xs) t = if is_below t x then p else page_from x.child xs t

page_here_from : (p : ℕ) (front : List Entry) (x : Entry) (behind : List Entry) (t : Entry) → Ordered NotBehind (front ++ x ∷ behind) → NotBehind x t
    → IsBehind behind t → page_from p (front ++ x ∷ behind) t ≡ x.child
unfolding page_from
page_here_from p [] x [] t o f i = ap (λ k. if k then p else x.child) f
page_here_from p [] x (y ∷ behind) t o f i =
    ap (λ k. if k then p else page_from x.child (y ∷ behind) t) f ∙ ap (λ k. if k then x.child else page_from y.child behind t) i
page_here_from p (z ∷ front) x behind t o f i =
    let zt : NotBehind z t = not_behind_trans z x t ((all_behind (NotBehind z) front (x ∷ behind) o.0).0) f in
    ap (λ k. if k then p else page_from z.child (front ++ x ∷ behind) t) zt ∙ page_here_from z.child front x behind t o.1 f i

suffix_one : (a b xs ys : List (List Entry)) → a ++ xs ≡ b ++ ys → length xs ≡ length ys → xs ≡ ys
suffix_one [] [] xs ys e l = e
suffix_one [] (b ∷ bs) xs ys e l = absurd (let n = ap length e in let m = length-append bs ys in omega arith)
suffix_one (a ∷ us) [] xs ys e l = absurd (let n = ap length e in let m = length-append us xs in omega arith)
suffix_one (a ∷ us) (b ∷ bs) xs ys e l = suffix_one us bs xs ys (tails a b (us ++ xs) (bs ++ ys) e) l
  where
    tails : (x y : List Entry) (xs ys : List (List Entry)) → x ∷ xs ≡ y ∷ ys → xs ≡ ys
    tails x y xs ys e = cc

first_one : (x y : List Entry) (xs ys : List (List Entry)) → x ∷ xs ≡ y ∷ ys → x ≡ y
first_one x y xs ys e = cc

rest_one : (x y : List Entry) (xs ys : List (List Entry)) → x ∷ xs ≡ y ∷ ys → xs ≡ ys
rest_one x y xs ys e = cc

-- the way passes one page of each level
pub reached_one : (top : ℕ) (levels : List (List Entry)) (t : Entry) (n c d : ℕ) → AllSorted levels → Reached top levels t n c → Reached top levels t n d → c ≡ d
reached_one top levels t n c d so p q =
    let s = suffix_one p.above q.above ((p.front ++ p.x ∷ p.behind) ∷ p.below) ((q.front ++ q.x ∷ q.behind) ∷ q.below) (sym p.all ∙ q.all)
    (let a = p.level_is in let b = q.level_is in omega arith) in
    let l = first_one (p.front ++ p.x ∷ p.behind) (q.front ++ q.x ∷ q.behind) p.below q.below s in
    let so1 = sorted_at top levels p.above p.below (p.front ++ p.x ∷ p.behind) p.all so in
    let so2 = sorted_at top levels q.above q.below (q.front ++ q.x ∷ q.behind) q.all so in
    sym p.page_is ∙ sym (page_here_from 0 p.front p.x p.behind t so1 p.from p.to) ∙ ap (λ k. page_from 0 k t) l
    ∙ page_here_from 0 q.front q.x q.behind t so2 q.from q.to ∙ q.page_is

-- and the levels below the next one are those below it
below_next : (top : ℕ) (levels : List (List Entry)) (t : Entry) (n c d : ℕ) (p : Reached top levels t (n + 1) c) (q : Reached top levels t n d) → p.below ≡ (q.front ++ q.x ∷ q.behind) ∷ q.below
below_next top levels t n c d p q =
    suffix_one (p.above ++ (p.front ++ p.x ∷ p.behind) ∷ []) q.above p.below ((q.front ++ q.x ∷ q.behind) ∷ q.below)
    (append_assoc p.above ((p.front ++ p.x ∷ p.behind) ∷ []) p.below ∙ sym p.all ∙ q.all) (let a = p.level_is in let b = q.level_is in omega arith)

-- ---- steps

-- what a step is made of, over a space that was looked at meanwhile
pub step_built : (file : File) (a b : Space) (top : ℕ) (t : Entry) (es : List Entry) (pages : List ℕ) (most leaves level2 child node : ℕ) {level : ℕ} {crowded : Bool} → Looks a b
    → (h : IsTree file a top es pages leaves) → (r : Reached top h.levels t level node) → (0 < level → HasRoom file a node)
    → length pages + crowded_on (pages_of file a) r.below t ≤ most
    → (level ≡ 0 → (node ≡ top) × (h.levels ≡ []) × (length pages + crowded_one (pages_of file a top) + crowded_one (pages_of file a top) ≤ most))
    → FindsHere file a top t h.levels level node level2 crowded child → AtStep file b top t es most leaves level2 node child
step_built file a b top t es pages most leaves level2 child node {level} {crowded} l h r room few at_top f =
    let used : (y : ℕ) → 1 ≤ uses_in ((root top ∷ []) ∷ h.levels) y → b.bytes (key_in file y) ≡ a.bytes (key_in file y) =
    λ y u. tree_bytes file a b top es pages leaves l h y (let o = h.owns y in omega arith) in
    let same = crowded_same (pages_of file a) (pages_of file b) r.below t
    (λ y u. used y (let z = ap (λ k. uses_in k y) r.all ∙ uses_in-append r.above ((r.front ++ r.x ∷ r.behind) ∷ r.below) y in omega arith)) in
    let top_same : b.bytes (key_in file top) ≡ a.bytes (key_in file top) = used top (let u = uses_here (root top) [] in omega arith) in
    go (tree_stays file a b top es pages leaves l h) h.levels (tree_stays-levels file a b top es pages leaves l h) level2 (sym f.level_is) r
    (λ z. let m = room z in record { page = m.page; told = used node (reached_used top h.levels t level node r) ∙ m.told; free = m.free })
    (omega arith) (λ n e. f.next n e)
    (λ z. let m = at_top z in (m.0, m.1, let e = ap crowded_one top_same in let k = m.2 in omega arith))
  where
    go : (g : IsTree file b top es pages leaves) (now : List (List Entry)) → g.levels ≡ now → (level2 : ℕ) → level ≡ level2 → (r : Reached top now t level node) → (0 < level → HasRoom file b node)
        → length pages + crowded_on (pages_of file b) r.below t ≤ most → ((n : ℕ) → level ≡ n + 1 → Reached top now t n child)
        → (level ≡ 0 → (node ≡ top) × (now ≡ []) × (length pages + crowded_one (pages_of file b top) + crowded_one (pages_of file b top) ≤ most))
        → AtStep file b top t es most leaves level2 node child
    go g now e level2 l =
        let P : List (List Entry) → Type 0 =
        λ ls. (level2 : ℕ) → level ≡ level2 → (r : Reached top ls t level node) → (0 < level → HasRoom file b node)
        → length pages + crowded_on (pages_of file b) r.below t ≤ most → ((n : ℕ) → level ≡ n + 1 → Reached top ls t n child)
        → (level ≡ 0 → (node ≡ top) × (ls ≡ []) × (length pages + crowded_one (pages_of file b top) + crowded_one (pages_of file b top) ≤ most))
        → AtStep file b top t es most leaves level2 node child in
        subst P e (λ level2 l r room few next at_top.
        subst (λ k. AtStep file b top t es most leaves k node child) l
        (record { on = record { pages = pages; tree = g; way = r; room = room; few = few }; next = next; at_top = at_top })) level2 l

-- the tree as it is, whatever the step
pub still : (file : File) (s : Space) (top : ℕ) (es : List Entry) (pages : List ℕ) (most leaves before : ℕ) → IsTree file s top es pages leaves → length pages ≤ most → before ≤ leaves → leaves ≤ before + 1
    → IsTreeNow file s top es most before
still file s top es pages most leaves before h few a b = record { pages = pages; leaves_now = leaves; tree = h; few = few; two_a_leaf = pages_few file s top es pages leaves h; no_less = a; one_more = b }

-- ---- what the steps tell

-- the tree as it is once it was looked at
pub now_looked : (file : File) (a b : Space) (top : ℕ) (es : List Entry) (pages : List ℕ) (most leaves before : ℕ) → Looks a b → IsTree file a top es pages leaves → length pages ≤ most
    → before ≤ leaves → leaves ≤ before + 1 → IsTreeNow file b top es most before
now_looked file a b top es pages most leaves before l h few x y = still file b top es pages most leaves before (tree_stays file a b top es pages leaves l h) few x y

-- where the way begins
pub way_top : (top : ℕ) (levels : List (List Entry)) (t : Entry) → (r : Reached top levels t (length levels) top) × (r.below ≡ levels)
way_top top levels t = (record { above = []; front = []; x = root top; behind = []; below = levels; all = refl; level_is = refl; page_is = refl; from = least_first (root top) t refl refl; to = tt }, refl)

no_levels : (l : List (List Entry)) → length l ≡ 0 → l ≡ []
no_levels [] e = refl
no_levels (x ∷ l) e = absurd (omega arith)

-- a top that is not split
pub step_first : (file : File) (a b : Space) (top : ℕ) (t : Entry) (es : List Entry) (pages : List ℕ) (leaves level child : ℕ) (crowded : Bool) → NoPins a → Looks a b
    → (h : IsTree file a top es pages leaves) → FindsHere file a top t h.levels (length h.levels) top level crowded child → ((level ≡ 0) ⊎ (crowded ≡ false))
    → AtStep file b top t es (most_pages file a top h.levels (length pages) t) leaves level top child
step_first file a b top t es pages leaves level child crowded out l h f or =
    let w = way_top top h.levels t in
    let p = page_at file a top es pages leaves (length h.levels) top t out h w.0 in
    let one : crowded_at (pages_of file a) (root top ∷ []) t ≡ crowded_one (pages_of file a top) = refl in
    (step_built file a b top t es pages (most_pages file a top h.levels (length pages) t) leaves level child top l h w.0
    (λ z. record { page = p.page; told = p.told; free = sym (f.crowded_is p.page p.told) ∙ by_or or z })
    (let e = ap (λ k. crowded_on (pages_of file a) k t) w.1 in omega arith)
    (λ z. (refl, no_levels h.levels z, omega arith)) f)
  where
    by_or : ((level ≡ 0) ⊎ (crowded ≡ false)) → 0 < length h.levels → crowded ≡ false
    by_or (inl e) z = absurd (let k = f.level_is in omega arith)
    by_or (inr e) z = e

-- a page that was split
pub step_split : (file : File) (d e : Space) (top : ℕ) (t : Entry) (es : List Entry) (most leaves n level half child : ℕ) (crowded : Bool) → Looks d e → (o : OnWay file d top t es most leaves n half)
    → HasRoom file d half → 0 < n → FindsHere file d top t o.tree.levels n half level crowded child → AtStep file e top t es most leaves level half child
step_split file d e top t es most leaves n level half child crowded l o room above f =
    step_built file d e top t es o.pages most leaves level child half l o.tree o.way (λ _. room) o.few (λ z. absurd (omega arith)) f

-- a page that was not crowded
pub step_further : (file : File) (a b : Space) (top : ℕ) (t : Entry) (es : List Entry) (most leaves n level node child below : ℕ) (crowded : Bool) → NoPins a → Looks a b
    → (s : AtStep file a top t es most leaves (n + 1) node child) → 0 < n → FindsHere file a top t s.on.tree.levels n child level crowded below → crowded ≡ false
    → AtStep file b top t es most leaves level child below
step_further file a b top t es most leaves n level node child below crowded out l s above f no_split =
    let r = s.next n refl in
    let h = s.on.tree in
    let p = page_at file a top es s.on.pages leaves n child t out h r in
    let e = ap (λ k. crowded_on (pages_of file a) k t) (below_next top h.levels t n node child s.on.way r) in
    step_built file a b top t es s.on.pages most leaves level below child l h r
    (λ z. record { page = p.page; told = p.told; free = sym (f.crowded_is p.page p.told) ∙ no_split })
    (let k = s.on.few in omega arith) (λ z. absurd (omega arith)) f

-- a page that is to be split
pub above_crowded : (file : File) (a b : Space) (top : ℕ) (t : Entry) (es : List Entry) (most leaves n level node child below : ℕ) (crowded : Bool) → NoPins a → Looks a b
    → (s : AtStep file a top t es most leaves (n + 1) node child) → FindsHere file a top t s.on.tree.levels n child level crowded below → crowded ≡ true
    → AboveCrowded file b top t es most leaves n node
above_crowded file a b top t es most leaves n level node child below crowded out l s f full =
    (above_stays file a b top t es most leaves n node l (record {
      on = s.on;
      full = λ c page r told.
          let e = reached_one top s.on.tree.levels t n c child s.on.tree.sorted r (s.next n refl) in
          sym (f.crowded_is page (ap (pages_of file a) (sym e) ∙ told)) ∙ full;
    })).0

pub top_crowded : (file : File) (a b : Space) (top : ℕ) (t : Entry) (es : List Entry) (pages : List ℕ) (leaves level child : ℕ) (crowded : Bool) → Looks a b
    → (h : IsTree file a top es pages leaves) → FindsHere file a top t h.levels (length h.levels) top level crowded child → crowded ≡ true
    → (w : CrowdedTop file b top es pages leaves) × (w.tree.levels ≡ h.levels)
top_crowded file a b top t es pages leaves level child crowded l h f full =
    let same = tree_bytes file a b top es pages leaves l h top (let o = h.owns top in let u = uses_here (root top) [] in omega arith) in
    (record { tree = tree_stays file a b top es pages leaves l h; full = λ page told. sym (f.crowded_is page (sym same ∙ told)) ∙ full }, tree_stays-levels file a b top es pages leaves l h)

-- ---- the first step

pub first_there : (file : File) (a : Space) (top : ℕ) (t : Entry) → HasTree file a top
    → (es : List Entry) × (pages : List ℕ) × (leaves : ℕ) × (level : ℕ) × (h : IsTree file a top es pages leaves) × Reached top h.levels t level top
first_there file a top t h = (h.es, h.pages, h.leaves, length h.tree.levels, h.tree, (way_top top h.tree.levels t).0)

pub on_err : {T E : Type 0} (r : Result T E) (X : Type 0) → X → OnErr r X
on_err (Ok v) X x = tt
on_err (Err e) X x = x

pub leaves_inner : (n leaves : ℕ) → 0 < n → leaves_after n leaves ≡ leaves
leaves_inner zero leaves z = absurd (omega arith)
leaves_inner (suc n) leaves z = refl

pub leaves_near : (n leaves : ℕ) → (leaves ≤ leaves_after n leaves) × (leaves_after n leaves ≤ leaves + 1)
leaves_near zero leaves = (omega arith, omega arith)
leaves_near (suc n) leaves = (omega arith, omega arith)

-- how many pages a split of the top may make
pub first_most : (file : File) (a b : Space) (top : ℕ) (t : Entry) (es : List Entry) (pages : List ℕ) (leaves level child : ℕ) (crowded : Bool) → NoPins a → Looks a b
    → (h : IsTree file a top es pages leaves) → FindsHere file a top t h.levels (length h.levels) top level crowded child → crowded ≡ true
    → (w : CrowdedTop file b top es pages leaves) × (length pages + 2 + crowded_on (pages_of file b) w.tree.levels t ≤ most_pages file a top h.levels (length pages) t) × (length w.tree.levels ≡ level)
first_most file a b top t es pages leaves level child crowded out l h f full =
    let w = top_crowded file a b top t es pages leaves level child crowded l h f full in
    let p = page_at file a top es pages leaves (length h.levels) top t out h (way_top top h.levels t).0 in
    let one : crowded_one (pages_of file a top) ≡ 1 = ap crowded_one p.told ∙ ap (λ v. if v then 1 else 0) (sym (f.crowded_is p.page p.told) ∙ full) in
    let same = crowded_same (pages_of file a) (pages_of file b) h.levels t (λ y u. tree_bytes file a b top es pages leaves l h y (let o = h.owns y in omega arith)) in
    let e = ap (λ k. crowded_on (pages_of file b) k t) w.1 in
    (w.0, omega arith, ap length w.1 ∙ sym f.level_is)

-- the tree once a page was split
pub now_split : (file : File) (d e : Space) (top : ℕ) (t : Entry) (es : List Entry) (most leaves n half k : ℕ) → Looks d e → OnWay file d top t es most (leaves_after k leaves) n half → IsTreeNow file e top es most leaves
now_split file d e top t es most leaves n half k l o =
    let q = leaves_near k leaves in
    now_looked file d e top es o.pages most (leaves_after k leaves) leaves l o.tree (let f = o.few in omega arith) q.0 q.1

pub now_at : (file : File) (d e : Space) (top : ℕ) (t : Entry) (es : List Entry) (most leaves n half : ℕ) → Looks d e → OnWay file d top t es most leaves n half → IsTreeNow file e top es most leaves
now_at file d e top t es most leaves n half l o = now_looked file d e top es o.pages most leaves leaves l o.tree (let f = o.few in omega arith) (omega arith) (omega arith)

pub on_there : (file : File) (d : Space) (top : ℕ) (t : Entry) (es : List Entry) (most leaves n half : ℕ) → OnWay file d top t es most leaves n half
    → (es : List Entry) × (pages : List ℕ) × (leaves : ℕ) × (level : ℕ) × (h : IsTree file d top es pages leaves) × Reached top h.levels t level half
on_there file d top t es most leaves n half o = (es, o.pages, leaves, n, o.tree, o.way)

-- a split page, with its leaves
pub step_after : (file : File) (d e : Space) (top : ℕ) (t : Entry) (es : List Entry) (most leaves n level half child : ℕ) (crowded : Bool) → Looks d e
    → (o : OnWay file d top t es most (leaves_after n leaves) n half) → HasRoom file d half → 0 < n → FindsHere file d top t o.tree.levels n half level crowded child
    → AtStep file e top t es most leaves level half child
step_after file d e top t es most leaves n level half child crowded l o room z f =
    subst (λ k. AtStep file e top t es most k level half child) (leaves_inner n leaves z) (step_split file d e top t es most (leaves_after n leaves) n level half child crowded l o room z f)

-- a step above the leaves
pub at_one : (file : File) (s : Space) (top : ℕ) (t : Entry) (es : List Entry) (most leaves level node child : ℕ) → AtStep file s top t es most leaves level node child → 1 < level
    → AtStep file s top t es most leaves (level - 1 + 1) node child
at_one file s top t es most leaves level node child w z =
    subst (λ k. AtStep file s top t es most leaves k node child) (let e : level ≡ level - 1 + 1 = omega arith in e) w

pub not_was : (b : Bool) → not b ≡ true → b ≡ false
not_was true e = absurd (false≢true e)
not_was false e = refl

pub was_so : (b : Bool) → not b ≡ false → b ≡ true
was_so true e = refl
was_so false e = absurd (false≢true (sym e))

pub now_of_step : (file : File) (s : Space) (top : ℕ) (t : Entry) (es : List Entry) (most leaves level node child : ℕ) → AtStep file s top t es most leaves level node child → IsTreeNow file s top es most leaves
now_of_step file s top t es most leaves level node child w =
    still file s top es w.on.pages most leaves leaves w.on.tree (let f = w.on.few in omega arith) (omega arith) (omega arith)

-- ---- the leaf

-- what a put into a leaf does to the line
pub put_line : (file : File) (m b : Space) (page : PageId) (top : ℕ) (pages : List ℕ) (leaf : ℕ) (t : Entry) (how : Put) → page ≡ record { file = file; no = leaf } → (m.told ≡ true → has_page pages leaf ≡ true)
    → IsLine file m (Some top) pages → PutsInto m b page t how → LineGrows file m b top pages
put_line file m b page top pages leaf t put.Old pe h l ch = line_looked file m b top pages ch.looks l
put_line file m b page top pages leaf t put.NoRoom pe h l ch = line_looked file m b top pages ch.looks l
put_line file m b page top pages leaf t put.New pe h l ch = record {
  now = pages;
  line = line_changed file m b page _ top pages ch l;
  kept = λ n e. e;
  more = λ n e. inl e;
  steady = changed_steady file m b page _ pages leaf m.told refl pe h ch;
}

-- what a leaf without room tells
pub full_looked : (m b : Space) (page : PageId) (t : Entry) (how : Put) → how ≡ put.NoRoom → PutsInto m b page t how → Looks m b × ((bytes : List ℕ) → m.bytes (key page) ≡ Some bytes → IsFullFor bytes t)
full_looked m b page t how e ch =
    let c = subst (PutsInto m b page t) e ch in
    (c.looks, c.is)

pub leaf_in : (file : File) (s : Space) (top : ℕ) (es : List Entry) (ps pages : List ℕ) (leaves leaf : ℕ) (t : Entry) → (h : IsTree file s top es ps leaves) → Reached top h.levels t 0 leaf
    → IsLine file s (Some top) pages → has_page pages leaf ≡ true
leaf_in file s top es ps pages leaves leaf t h r l =
    let u = reached_used top h.levels t 0 leaf r in
    let o = h.owns leaf in
    subst (λ k. has_page k leaf ≡ true) (line_one file s (Some top) ps pages h.line l) (times_has ps leaf (omega arith))

-- a leaf above which the way has come
pub full_above : (file : File) (s : Space) (top : ℕ) (t : Entry) (es : List Entry) (most leaves level node child : ℕ) → AtFullLeaf file s top t es most leaves level node child → level ≤ 1 → (level ≡ 0 → ⊥)
    → AboveCrowded file s top t es most leaves 0 node
full_above file s top t es most leaves level node child w z n =
    let e : level ≡ 0 + 1 = omega arith in
    let P : ℕ → Type 0 = λ k. AtFullLeaf file s top t es most leaves k node child → AboveCrowded file s top t es most leaves 0 node in
    subst P (sym e) (λ v. record { on = v.at.on; full = v.full }) w

pub full_top : (file : File) (s : Space) (top : ℕ) (t : Entry) (es : List Entry) (most leaves level node child : ℕ) → (w : AtFullLeaf file s top t es most leaves level node child) → level ≡ 0
    → (v : CrowdedTop file s top es w.at.on.pages leaves) × (v.tree.levels ≡ []) × (length w.at.on.pages + 2 + crowded_on (pages_of file s) v.tree.levels t ≤ most)
full_top file s top t es most leaves level node child w z =
    let a = w.at.at_top z in
    let h = w.at.on.tree in
    let wt = way_top top h.levels t in
    let r0 : Reached top h.levels t 0 top = subst (λ k. Reached top h.levels t k top) (ap length a.1) wt.0 in
    let r1 : Reached top h.levels t 0 node = subst (λ k. Reached top h.levels t k node) z w.at.on.way in
    let l = leaf_here (pages_of file s) top h.levels es t top h.chained h.sorted r0 in
    let told = ap (pages_of file s) (sym r0.page_is) ∙ l.at.told in
    let one : crowded_one (pages_of file s top) ≡ 1 = ap crowded_one told ∙ ap (λ v. if v then 1 else 0) (w.full top l.at.page r0 told) in
    let e = ap (λ k. crowded_on (pages_of file s) k t) a.1 in
    let m = a.2 in
    (record { tree = h; full = λ page q. w.full top page r0 q }, a.1, omega arith)

pub if_ok_map : {T E : Type 0} (r : Result T E) (P Q : T → Type 0) → ((x : T) → P x → Q x) → IfOk r P → IfOk r Q
if_ok_map (Ok v) P Q f h = f v h
if_ok_map (Err e) P Q f h = tt

-- ---- what was put in

pub put_inserts : (file : File) (b : Space) (top : ℕ) (t : Entry) (es : List Entry) (pages : List ℕ) (most leaves before : ℕ) → Puts file b top es pages leaves t put.New → length pages ≤ most → before ≤ leaves → leaves ≤ before + 1
    → IsTreeNowWith file b top es most before t
put_inserts file b top t es pages most leaves before p few x y = record { now = p.now; put = p.put; tree = still file b top p.now pages most leaves before p.tree few x y }

-- a leaf with room holds the entry
pub no_full : (file : File) (s : Space) (node : ℕ) (t : Entry) → length t.key ≤ 512 → HasRoom file s node → ((page : List ℕ) → s.bytes (key_in file node) ≡ Some page → IsFullFor page t) → ⊥
no_full file s node t short r f = let l = f r.page r.told in let k = crowded_less r.page r.free in absurd (omega arith)

pub full_leaf : (file : File) (a b : Space) (top : ℕ) (t : Entry) (es : List Entry) (most leaves level node child leaf : ℕ) → length t.key ≤ 512 → (w : AtStep file a top t es most leaves level node child) → level ≤ 1
    → (level ≡ 0 → leaf ≡ node) → (0 < level → leaf ≡ child) → Reached top w.on.tree.levels t 0 leaf
full_leaf file a b top t es most leaves zero node child leaf short w z f g = subst (λ k. Reached top w.on.tree.levels t 0 k) (sym (f refl)) w.on.way
full_leaf file a b top t es most leaves (suc n) node child leaf short w z f g =
    subst (λ k. Reached top w.on.tree.levels t 0 k) (sym (g (omega arith))) (w.next 0 (omega arith))

crowded_yes : (n : ℕ) → 4096 < n → nat_lt 4096 n ≡ true
crowded_yes n e = grind (arith, nat_tests)

-- the leaf has no room for the entry, which was looked at
pub at_full : (file : File) (d e : Space) (top : ℕ) (t : Entry) (es : List Entry) (most leaves level node child leaf : ℕ) → Looks d e → (w : AtStep file d top t es most leaves level node child)
    → Reached top w.on.tree.levels t 0 leaf → length t.key ≤ 512 → ((page : List ℕ) → d.bytes (key_in file leaf) ≡ Some page → IsFullFor page t) → AtFullLeaf file e top t es most leaves level node child
at_full file d e top t es most leaves level node child leaf l w reach short full =
    let h = w.on.tree in
    let r = w.on.way in
    let used : (y : ℕ) → 1 ≤ uses_in ((root top ∷ []) ∷ h.levels) y → e.bytes (key_in file y) ≡ d.bytes (key_in file y) =
    λ y u. tree_bytes file d e top es w.on.pages leaves l h y (let o = h.owns y in omega arith) in
    let same = crowded_same (pages_of file d) (pages_of file e) r.below t
    (λ y u. used y (let z = ap (λ k. uses_in k y) r.all ∙ uses_in-append r.above ((r.front ++ r.x ∷ r.behind) ∷ r.below) y in omega arith)) in
    let top_same : e.bytes (key_in file top) ≡ d.bytes (key_in file top) = used top (let u = uses_here (root top) [] in omega arith) in
    go (tree_stays file d e top es w.on.pages leaves l h) h.levels (tree_stays-levels file d e top es w.on.pages leaves l h) r
    (λ z. let m = w.on.room z in record { page = m.page; told = used node (reached_used top h.levels t level node r) ∙ m.told; free = m.free })
    (let f = w.on.few in omega arith) w.next
    (λ z. let m = w.at_top z in (m.0, m.1, let q = ap crowded_one top_same in let k = m.2 in omega arith))
    (λ other page q told.
    let o = reached_one top h.levels t 0 other leaf h.sorted q reach in
    let f = full page (sym (used leaf (reached_used top h.levels t 0 leaf reach)) ∙ ap (pages_of file e) (sym o) ∙ told) in
    crowded_yes (number page 4 + 526) (omega arith))
  where
    go : (g : IsTree file e top es w.on.pages leaves) (now : List (List Entry)) → g.levels ≡ now → (r : Reached top now t level node) → (0 < level → HasRoom file e node)
        → length w.on.pages + crowded_on (pages_of file e) r.below t ≤ most → ((n : ℕ) → level ≡ n + 1 → Reached top now t n child)
        → (level ≡ 0 → (node ≡ top) × (now ≡ []) × (length w.on.pages + crowded_one (pages_of file e top) + crowded_one (pages_of file e top) ≤ most))
        → ((other : ℕ) (page : List ℕ) → Reached top now t 0 other → e.bytes (key_in file other) ≡ Some page → crowded_page page ≡ true)
        → AtFullLeaf file e top t es most leaves level node child
    go g now eq =
        let P : List (List Entry) → Type 0 =
        λ ls. (r : Reached top ls t level node) → (0 < level → HasRoom file e node)
        → length w.on.pages + crowded_on (pages_of file e) r.below t ≤ most → ((n : ℕ) → level ≡ n + 1 → Reached top ls t n child)
        → (level ≡ 0 → (node ≡ top) × (ls ≡ []) × (length w.on.pages + crowded_one (pages_of file e top) + crowded_one (pages_of file e top) ≤ most))
        → ((other : ℕ) (page : List ℕ) → Reached top ls t 0 other → e.bytes (key_in file other) ≡ Some page → crowded_page page ≡ true)
        → AtFullLeaf file e top t es most leaves level node child in
        subst P eq (λ r room few next at_top full.
        record { at = record { on = record { pages = w.on.pages; tree = g; way = r; room = room; few = few }; next = next; at_top = at_top }; full = full })
