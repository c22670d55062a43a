-- What is known of the pages of a tree over a space that is only looked at.
use Rattle.std.specs.Prelude.{◌≡◌, ℕ, ◌+◌, ◌<◌, ◌≤◌, zero, suc, Bool, true, false, List, [], ◌∷◌, ◌++◌, length, Option, Some, None}
use Rattle.std.proofs.Common.{sym, ◌∙◌, ap, subst, refl, arith, append_assoc, length-append}
use Rattle.hg_base.specs.Space.{Space, NoPins, IsFree, key, key_in, taken_in, taken_below}
use Rattle.hg_base.specs.Causes.{HasCause}
use Rattle.hg_base.specs.declared.Check.{Check}
use Rattle.hg_base.specs.declared.pages.PageFault.TheVariants as fault
use Rattle.hg_base.specs.SteadyLaws.{Steady_same, Steady_then}
use Rattle.hg_base.specs.LineLaws.{line_free, line_few}
use Rattle.hg_base.specs.declared.File.{File}
use Rattle.hg_base.specs.declared.PageId.{PageId}
use Rattle.hg_btree.specs.Entries.{Entry, AllBy, Before}
use Rattle.hg_btree.specs.Nodes.{IsNode, IsFirst}
use Rattle.hg_btree.specs.Trees.{pages_of, first_page, IsTree, HasTree, Reached, LedTo, Along, Leaves, uses, uses_in, times, width_of, IsLeafAt}
use Rattle.hg_btree.specs.Looking.{IsTreePage, LeadsFrom, SeeksOn}
use Rattle.hg_btree.specs.declared.look.OnLeaf.{OnLeaf}
use Rattle.hg_btree.specs.declared.look.OnLeaf.TheVariants as on
use Rattle.hg_btree.specs.Steps.{Looks, none_mine}
use Rattle.hg_btree.proofs.Reading.{all_append}
use Rattle.hg_btree.proofs.Walking.{reached_top, inner_here, reached_below, leaf_here, reached_used, times_has, none_behind, uses-append, uses_in-append, uses_here, width-append}

pub looks_same : (a : Space) → NoPins a → Looks a a
looks_same a out = record { steady = Steady_same none_mine a out; taken = refl }

pub looks_then : (a b c : Space) → Looks a b → Looks b c → Looks a c
looks_then a b c p q = record { steady = Steady_then none_mine a b c p.steady q.steady; taken = q.taken ∙ p.taken }

nothing : ⊥ → ⊥
nothing x = x

-- a page that could be pinned can be pinned still
pub free_stays : (a b : Space) (page : PageId) → Looks a b → IsFree a page → IsFree b page
free_stays a b page l f = record {
  below_limit = let e = ap (λ (g : File → ℕ). g page.file) l.steady.limit in let h = f.below_limit in omega arith;
  taken = l.steady.taken (key_in page.file page.no) nothing ∙ f.taken;
  not_pinned = l.steady.pins_after.not_pinned (key_in page.file page.no);
  no_heap = l.steady.of_heap (key_in page.file page.no) nothing ∙ f.no_heap;
}

pub bytes_stay : (a b : Space) (page : PageId) → Looks a b → IsFree a page → b.bytes (key_in page.file page.no) ≡ a.bytes (key_in page.file page.no)
bytes_stay a b page l f = (l.steady.pages (key_in page.file page.no) nothing (record { taken = f.taken; no_heap = f.no_heap })).bytes

-- a page of the tree
pub used_free : (file : File) (s : Space) (top : ℕ) (es : List Entry) (pages : List ℕ) (leaves num : ℕ) → NoPins s → IsTree file s top es pages leaves
    → 1 ≤ times pages num → IsFree s (record { file = file; no = num })
used_free file s top es pages leaves num out h u = line_free file s (Some top) pages num out h.line (times_has pages num u)

-- A page where the way has come to.
pub record PageHere (file : File) (s : Space) (level num : ℕ) : Type 0 where
  pub free : IsFree s (record { file = file; no = num })
  pub page : List ℕ
  pub told : s.bytes (key_in file num) ≡ Some page
  pub is : IsTreePage page

pub page_here : (file : File) (s : Space) (top : ℕ) (es : List Entry) (pages : List ℕ) (leaves level num : ℕ) (t : Entry) → NoPins s
    → (h : IsTree file s top es pages leaves) → Reached top h.levels t level num → PageHere file s level num
page_here file s top es pages leaves zero num t out h r =
    let l = leaf_here (pages_of file s) top h.levels es t num h.chained h.sorted r in
    record {
      free = used_free file s top es pages leaves num out h (let u = reached_used top h.levels t 0 num r in let o = h.owns num in omega arith);
      page = l.at.page;
      told = ap (λ n. s.bytes (key_in file n)) (sym r.page_is) ∙ l.at.told;
      is = record { inner = false; level = 0; link = first_page r.behind; es = l.own; node = l.at.node; leaf = λ _. refl; above = λ e. absurd (cc) };
    }
page_here file s top es pages leaves (suc n) num t out h r =
    let e : suc n ≡ n + 1 = omega arith in
    let q : Reached top h.levels t (n + 1) num = subst (λ k. Reached top h.levels t k num) e r in
    let i = inner_here (pages_of file s) top h.levels es t n num h.chained q in
    record {
      free = used_free file s top es pages leaves num out h (let u = reached_used top h.levels t (n + 1) num q in let o = h.owns num in omega arith);
      page = i.at.page;
      told = ap (λ k. s.bytes (key_in file k)) (sym q.page_is) ∙ i.at.told;
      is = record { inner = true; level = n + 1; link = i.at.first; es = i.at.items; node = i.at.node; leaf = λ e. absurd (cc); above = λ _. omega arith };
    }

-- where a page on the way leads
pub led : (file : File) (s : Space) (top : ℕ) (es : List Entry) (pages : List ℕ) (leaves m num level child : ℕ) (t : Entry)
    → (h : IsTree file s top es pages leaves) → Reached top h.levels t m num
    → ((page : List ℕ) → s.bytes (key_in file num) ≡ Some page → LeadsFrom page t level child)
    → (level ≡ m) × ((n : ℕ) → m ≡ n + 1 → Reached top h.levels t n child)
led file s top es pages leaves zero num level child t h r f =
    let l = leaf_here (pages_of file s) top h.levels es t num h.chained h.sorted r in
    let d = f l.at.page (ap (λ n. s.bytes (key_in file n)) (sym r.page_is) ∙ l.at.told) in
    (d.leaf (first_page r.behind) l.own l.at.node, λ n e. absurd (omega arith))
led file s top es pages leaves (suc k) num level child t h r f =
    let e : suc k ≡ k + 1 = omega arith in
    let q : Reached top h.levels t (k + 1) num = subst (λ k. Reached top h.levels t k num) e r in
    let i = inner_here (pages_of file s) top h.levels es t k num h.chained q in
    let d = f i.at.page (ap (λ n. s.bytes (key_in file n)) (sym q.page_is) ∙ i.at.told) in
    let o = d.inner (k + 1) i.at.first i.at.items i.at.node (omega arith) in (
      o.0 ∙ sym e,
      λ n g. let z : k ≡ n = omega arith in
          subst (λ j. Reached top h.levels t j child) z (reached_below (pages_of file s) top h.levels es t k num o.1.0 child q i o.1.1),
    )

pub led_first : (file : File) (s : Space) (top : ℕ) (es : List Entry) (pages : List ℕ) (leaves level child : ℕ) (t : Entry)
    → (h : IsTree file s top es pages leaves)
    → ((page : List ℕ) → s.bytes (key_in file top) ≡ Some page → LeadsFrom page t level child) → LedTo top h.levels t level child
led_first file s top es pages leaves level child t h f =
    let r = reached_top top h.levels t in
    let d = led file s top es pages leaves (length h.levels) top level child t h r f in
    record {
      at_leaf = λ e. subst (λ k. Reached top h.levels t k top) (sym d.0 ∙ e) r;
      onward = λ n e. d.1 n (sym d.0 ∙ e);
    }

pub led_next : (file : File) (s : Space) (top : ℕ) (es : List Entry) (pages : List ℕ) (leaves n before level child : ℕ) (t : Entry)
    → (h : IsTree file s top es pages leaves) → Reached top h.levels t n before → 0 < n
    → ((page : List ℕ) → s.bytes (key_in file before) ≡ Some page → LeadsFrom page t level child) → (level ≡ n) × LedTo top h.levels t level child
led_next file s top es pages leaves n before level child t h r p f =
    let d = led file s top es pages leaves n before level child t h r f in (
      d.0,
      record {
        at_leaf = λ e. absurd (let z = d.0 in omega arith);
        onward = λ k e. d.1 k (sym d.0 ∙ e);
      },
    )

-- ---- along the leaves

pub along_first : (file : File) (s : Space) (top : ℕ) (es : List Entry) (pages : List ℕ) (leaves leaf : ℕ) (t : Entry) → (h : IsTree file s top es pages leaves)
    → Reached top h.levels t 0 leaf → Along (pages_of file s) es pages t leaf 0
along_first file s top es pages leaves leaf t h r =
    let l = leaf_here (pages_of file s) top h.levels es t leaf h.chained h.sorted r in
    record {
      passed = l.before;
      rest = l.own ++ l.after;
      x = r.x;
      behind = r.behind;
      page_is = r.page_is;
      all = l.all;
      below = l.below_t;
      leaves = (l.own, l.after, subst (λ k. IsLeafAt (pages_of file s) r.x k l.own) (sym (none_behind r.behind)) l.at, refl, l.of_behind);
      are_pages = λ y.
          let o = h.owns y in
          let a = ap (λ k. uses_in k y) r.all ∙ uses_in-append r.above ((r.front ++ r.x ∷ r.behind) ∷ r.below) y in
          let c = uses-append r.front (r.x ∷ r.behind) y in
          omega arith;
      few =
          let o = h.count in
          let a = ap width_of r.all ∙ width-append r.above ((r.front ++ r.x ∷ r.behind) ∷ r.below) in
          let c = length-append r.front (r.x ∷ r.behind) in
          omega arith;
    }

-- The leaf where the way along them has come to.
pub record LeafAlong (file : File) (s : Space) (pages : List ℕ) (leaf : ℕ) (es passed : List Entry) (behind : List Entry) : Type 0 where
  pub free : IsFree s (record { file = file; no = leaf })
  pub page : List ℕ
  pub own : List Entry
  pub more : List Entry
  pub told : s.bytes (key_in file leaf) ≡ Some page
  pub node : IsNode false page 0 (first_page behind) own
  pub all : es ≡ passed ++ (own ++ more)
  pub leaves : Leaves (pages_of file s) behind [] more

pub leaf_along : (file : File) (s : Space) (top : ℕ) (es : List Entry) (pages : List ℕ) (leaves leaf turns : ℕ) (t : Entry) → NoPins s
    → IsTree file s top es pages leaves → (a : Along (pages_of file s) es pages t leaf turns) → LeafAlong file s pages leaf es a.passed a.behind
leaf_along file s top es pages leaves leaf turns t out h a =
    let l = a.leaves in
    let u : 1 ≤ times pages leaf = (let p = a.are_pages a.x.child in let q = uses_here a.x a.behind in
    subst (λ k. 1 ≤ times pages k) a.page_is (omega arith)) in
    record {
      free = used_free file s top es pages leaves leaf out h u;
      page = l.2.page;
      own = l.0;
      more = l.1;
      told = ap (λ n. s.bytes (key_in file n)) (sym a.page_is) ∙ l.2.told;
      node = subst (λ k. IsNode false l.2.page 0 (first_page k) l.0) (none_behind a.behind) l.2.node;
      all = a.all ∙ ap (λ k. a.passed ++ k) l.3;
      leaves = l.4;
    }

-- the next leaf
next_along : (b : ℕ → Option (List ℕ)) (es passed own more : List Entry) (pages : List ℕ) (t x : Entry) (behind : List Entry) (next turns : ℕ)
    → es ≡ passed ++ (own ++ more) → AllBy (λ e. Before e t) passed → AllBy (λ e. Before e t) own → Leaves b behind [] more
    → ((y : ℕ) → uses (x ∷ behind) y ≤ times pages y) → turns + length (x ∷ behind) ≤ length pages
    → next ≡ first_page behind → (first_page behind ≡ 4294967295 → ⊥) → Along b es pages t next (turns + 1)
next_along b es passed own more pages t x [] next turns e p o l u f n d = absurd (d refl)
next_along b es passed own more pages t x (y ∷ behind) next turns e p o l u f n d = record {
  passed = passed ++ own;
  rest = more;
  x = y;
  behind = behind;
  page_is = sym n;
  all = e ∙ sym (append_assoc passed own more);
  below = all_append (λ e. Before e t) passed own p o;
  leaves = l;
  are_pages = λ z. let k = u z in omega arith;
  few = omega arith;
}

pub along_next : (file : File) (s : Space) (top : ℕ) (es : List Entry) (pages : List ℕ) (leaves leaf turns next : ℕ) (t : Entry) (key : List ℕ) → NoPins s
    → IsTree file s top es pages leaves → Along (pages_of file s) es pages t leaf turns
    → ((page : List ℕ) (link : ℕ) (own : List Entry) → s.bytes (key_in file leaf) ≡ Some page → IsNode false page 0 link own → SeeksOn own link t key (on.Next next))
    → Along (pages_of file s) es pages t next (turns + 1)
along_next file s top es pages leaves leaf turns next t key out h a f =
    let l = leaf_along file s top es pages leaves leaf turns t out h a in
    let g = f l.page (first_page a.behind) l.own l.told l.node in
    next_along (pages_of file s) es a.passed l.own l.more pages t a.x a.behind next turns l.all a.below g.0 l.leaves a.are_pages a.few g.1 g.2

pub along_found : (file : File) (s : Space) (top : ℕ) (es : List Entry) (pages : List ℕ) (leaves leaf turns place : ℕ) (t : Entry) (key : List ℕ) → NoPins s
    → IsTree file s top es pages leaves → Along (pages_of file s) es pages t leaf turns
    → ((page : List ℕ) (link : ℕ) (own : List Entry) → s.bytes (key_in file leaf) ≡ Some page → IsNode false page 0 link own → SeeksOn own link t key (on.Entry place))
    → IsFirst es t (Some place) key
along_found file s top es pages leaves leaf turns place t key out h a f =
    let l = leaf_along file s top es pages leaves leaf turns t out h a in
    let g = f l.page (first_page a.behind) l.own l.told l.node in
    record {
      before = a.passed ++ g.before;
      x = g.x;
      after = g.after ++ l.more;
      all = l.all ∙ ap (λ k. a.passed ++ (k ++ l.more)) g.all ∙ ap (λ k. a.passed ++ k) (append_assoc g.before (g.x ∷ g.after) l.more)
          ∙ sym (append_assoc a.passed g.before (g.x ∷ (g.after ++ l.more)));
      below = all_append (λ e. Before e t) a.passed g.before a.below g.below;
      from = g.from;
      place_is = g.place_is;
      key_is = g.key_is;
    }

no_more : (file : File) (s : Space) (top : ℕ) (es es' : List Entry) (pages : List ℕ) (leaves : ℕ) (x : Entry) (behind more : List Entry) → NoPins s → IsTree file s top es pages leaves
    → ((y : ℕ) → uses (x ∷ behind) y ≤ times pages y) → first_page behind ≡ 4294967295 → Leaves (pages_of file s) behind [] more → more ≡ []
no_more file s top es es' pages leaves x [] more out h u e l = l
no_more file s top es es' pages leaves x (y ∷ behind) more out h u e l =
    let k = u y.child in
    let q = uses_here y behind in
    let f = used_free file s top es pages leaves y.child out h (omega arith) in
    absurd (let n = h.numbers in let g = f.below_limit in omega arith)

pub along_end : (file : File) (s : Space) (top : ℕ) (es : List Entry) (pages : List ℕ) (leaves leaf turns : ℕ) (t : Entry) (key : List ℕ) → NoPins s
    → IsTree file s top es pages leaves → Along (pages_of file s) es pages t leaf turns
    → ((page : List ℕ) (link : ℕ) (own : List Entry) → s.bytes (key_in file leaf) ≡ Some page → IsNode false page 0 link own → SeeksOn own link t key on.End)
    → IsFirst es t None key
along_end file s top es pages leaves leaf turns t key out h a f =
    let l = leaf_along file s top es pages leaves leaf turns t out h a in
    let g = f l.page (first_page a.behind) l.own l.told l.node in
    let z = no_more file s top es es pages leaves a.x a.behind l.more out h a.are_pages g.1 l.leaves in
    subst (AllBy (λ e. Before e t)) (sym (l.all ∙ ap (λ k. a.passed ++ (l.own ++ k)) z ∙ ap (λ k. a.passed ++ k) (none_behind l.own)))
    (all_append (λ e. Before e t) a.passed l.own a.below g.0)

-- no walk goes on for more leaves than pages are taken
pub along_short : (file : File) (s : Space) (top : ℕ) (es : List Entry) (pages : List ℕ) (leaves leaf turns : ℕ) (t : Entry)
    → IsTree file s top es pages leaves → Along (pages_of file s) es pages t leaf turns → taken_in s file ≤ turns → ⊥
along_short file s top es pages leaves leaf turns t h a l =
    absurd (let f = line_few file s (Some top) pages h.line in let g = a.few in omega arith)

-- ---- what the calls ask and tell

-- a page that may be looked at on the way down
abbrev pub Asked : Space → PageId → Type 0
Asked s page = IsFree s page × ((bytes : List ℕ) × (s.bytes (key page) ≡ Some bytes) × IsTreePage bytes)

pub asked_of : (file : File) (s : Space) (level num : ℕ) (page : PageId) → page ≡ record { file = file; no = num } → PageHere file s level num → Asked s page
asked_of file s level num page e h = subst (Asked s) (sym e) (h.free, (h.page, h.told, h.is))

pub here_stays : (file : File) (a b : Space) (level num : ℕ) → Looks a b → PageHere file a level num → PageHere file b level num
here_stays file a b level num l h = record {
  free = free_stays a b (record { file = file; no = num }) l h.free;
  page = h.page;
  told = bytes_stay a b (record { file = file; no = num }) l h.free ∙ h.told;
  is = h.is;
}

pub asked_first : (file : File) (s : Space) (top : ℕ) (page : PageId) (t : Entry) → NoPins s → HasTree file s top → page ≡ record { file = file; no = top } → Asked s page
asked_first file s top page t out h e =
    asked_of file s (length h.tree.levels) top page e
    (page_here file s top h.es h.pages h.leaves (length h.tree.levels) top t out h.tree (reached_top top h.tree.levels t))

pub asked_below : (file : File) (a b : Space) (top n num : ℕ) (page : PageId) (t : Entry) → NoPins a → Looks a b → (h : HasTree file a top)
    → Reached top h.tree.levels t n num → page ≡ record { file = file; no = num } → Asked b page
asked_below file a b top n num page t out l h r e =
    asked_of file b n num page e (here_stays file a b n num l (page_here file a top h.es h.pages h.leaves n num t out h.tree r))

-- what a look told, of the space as it was before
pub told_before : (file : File) (a b : Space) (top n num : ℕ) (page : PageId) (t : Entry) (es : List Entry) (pages : List ℕ) (leaves : ℕ) (level child : ℕ) → NoPins a → Looks a b
    → (h : IsTree file a top es pages leaves) → Reached top h.levels t n num → page ≡ record { file = file; no = num }
    → ((bytes : List ℕ) → b.bytes (key page) ≡ Some bytes → LeadsFrom bytes t level child)
    → (bytes : List ℕ) → a.bytes (key_in file num) ≡ Some bytes → LeadsFrom bytes t level child
told_before file a b top n num page t es pages leaves level child out l h r e f bytes told =
    let p = page_here file a top es pages leaves n num t out h r in
    f bytes (ap (λ q. b.bytes (key q)) e ∙ bytes_stay a b (record { file = file; no = num }) l p.free ∙ told)

-- damage is not found where the space tells
pub not_told : (b : Bool) → (b ≡ true → ⊥) → b ≡ false
not_told true h = absurd (h refl)
not_told false h = refl

pub damage_cause : (a b : Space) (page : PageId) (check : Check) → HasCause a b None → (a.told ≡ true → ⊥) → HasCause a b (Some (fault.Damaged page check))
damage_cause a b page check h n = record { later = h.later; counts = h.counts; damage = not_told a.told n }

-- a leaf that may be looked at on the way along them
abbrev pub AskedLeaf : Space → PageId → Type 0
AskedLeaf s page = IsFree s page × ((bytes : List ℕ) × (link : ℕ) × (es : List Entry) × (s.bytes (key page) ≡ Some bytes) × IsNode false bytes 0 link es)

pub asked_leaf : (file : File) (a b : Space) (top leaf turns : ℕ) (page : PageId) (t : Entry) → NoPins a → Looks a b → (h : HasTree file a top)
    → Along (pages_of file a) h.es h.pages t leaf turns → page ≡ record { file = file; no = leaf } → AskedLeaf b page
asked_leaf file a b top leaf turns page t out l h g e =
    let p = leaf_along file a top h.es h.pages h.leaves leaf turns t out h.tree g in
    subst (AskedLeaf b) (sym e) (
      free_stays a b (record { file = file; no = leaf }) l p.free,
      (p.page, first_page g.behind, p.own, bytes_stay a b (record { file = file; no = leaf }) l p.free ∙ p.told, p.node),
    )

pub told_along : (file : File) (a b : Space) (top leaf turns : ℕ) (page : PageId) (t : Entry) (es : List Entry) (pages : List ℕ) (leaves : ℕ) → NoPins a → Looks a b
    → IsTree file a top es pages leaves → Along (pages_of file a) es pages t leaf turns → page ≡ record { file = file; no = leaf }
    → (bytes : List ℕ) → a.bytes (key_in file leaf) ≡ Some bytes → b.bytes (key page) ≡ Some bytes
told_along file a b top leaf turns page t es pages leaves out l h g e bytes told =
    let p = leaf_along file a top es pages leaves leaf turns t out h g in
    ap (λ q. b.bytes (key q)) e ∙ bytes_stay a b (record { file = file; no = leaf }) l p.free ∙ told

pub taken_same : (a b : Space) (file : File) → Looks a b → taken_in b file ≡ taken_in a file
taken_same a b file l = ap (λ t. taken_below t file (b.limit file)) l.taken ∙ ap (λ (g : File → ℕ). taken_below a.taken file (g file)) l.steady.limit

-- what a look at a leaf on the way tells, of the space as it was before
pub seen_before : (file : File) (a b : Space) (top leaf turns : ℕ) (page : PageId) (t : Entry) (es : List Entry) (pages : List ℕ) (leaves : ℕ) (got : List ℕ) (found now : OnLeaf)
    → NoPins a → Looks a b → IsTree file a top es pages leaves → Along (pages_of file a) es pages t leaf turns → page ≡ record { file = file; no = leaf } → found ≡ now
    → ((bytes : List ℕ) (link : ℕ) (own : List Entry) → b.bytes (key page) ≡ Some bytes → IsNode false bytes 0 link own → SeeksOn own link t got found)
    → (bytes : List ℕ) (link : ℕ) (own : List Entry) → a.bytes (key_in file leaf) ≡ Some bytes → IsNode false bytes 0 link own → SeeksOn own link t got now
seen_before file a b top leaf turns page t es pages leaves got found now out l h g e is f bytes link own told node =
    subst (SeeksOn own link t got) is (f bytes link own (told_along file a b top leaf turns page t es pages leaves out l h g e bytes told) node)
