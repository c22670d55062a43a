-- A deletion, from the leaf to the tree.
use Rattle.std.specs.Prelude.{◌≡◌, ℕ, Bool, true, false, List, ◌∷◌, ◌++◌, Some}
use Rattle.std.proofs.Common.{sym, ◌∙◌, ap, subst, refl, arith, append_assoc}
use Rattle.hg_base.specs.Space.{Space, NoPins, key, key_in}
use Rattle.hg_base.specs.Steadiness.{Mine, Steady}
use Rattle.hg_base.specs.SteadyLaws.{Steady_wider, Steady_then}
use Rattle.hg_base.specs.Lines.{IsLine, has_page}
use Rattle.hg_base.specs.LineLaws.{line_one}
use Rattle.hg_base.specs.declared.File.{File}
use Rattle.hg_base.specs.declared.PageId.{PageId}
use Rattle.hg_btree.specs.Entries.{Entry, AllBy, Before, Ordered, NotBehind, IsSame}
use Rattle.hg_btree.specs.Nodes.{IsBehind}
use Rattle.hg_btree.specs.Trees.{pages_of, first_page, AllBefore, IsTree, HasTree, Reached}
use Rattle.hg_btree.specs.Steps.{Looks, none_mine, page_mine}
use Rattle.hg_btree.specs.Leaf.{ChangesPage, TakesFrom}
use Rattle.hg_btree.specs.Deleting.{Lacks, IsTreeWithout, Deletes, pages_mine}
use Rattle.hg_btree.proofs.Orders.{same_not_behind, same_back, not_before_itself, before_then}
use Rattle.hg_btree.proofs.Reading.{all_append}
use Rattle.hg_btree.proofs.Walking.{leaf_here, reached_used, times_has, all_weaker, ordered_front, ordered_behind}
use Rattle.hg_btree.proofs.Changing.{ordered_without, all_from, before_without, from_without}
use Rattle.hg_btree.proofs.Seeking.{AskedLeaf, used_free, free_stays, bytes_stay}
use Rattle.hg_btree.proofs.Leaves.{tree_stays, tree_stays-levels, tree_leaf}

-- the leaf where the way has come to may be looked at
pub asked_here : (file : File) (a b : Space) (top leaf : ℕ) (page : PageId) (t : Entry) → NoPins a → Looks a b → (h : HasTree file a top)
    → Reached top h.tree.levels t 0 leaf → page ≡ record { file = file; no = leaf } → AskedLeaf b page
asked_here file a b top leaf page t out l h r e =
    let p = leaf_here (pages_of file a) top h.tree.levels h.es t leaf h.tree.chained h.tree.sorted r in
    let f = used_free file a top h.es h.pages h.leaves leaf out h.tree (let u = reached_used top h.tree.levels t 0 leaf r in let o = h.tree.owns leaf in omega arith) in
    subst (AskedLeaf b) (sym e) (
      free_stays a b (record { file = file; no = leaf }) l f,
      (
        p.at.page,
        first_page r.behind,
        p.own,
        bytes_stay a b (record { file = file; no = leaf }) l f ∙ ap (λ n. a.bytes (key_in file n)) (sym r.page_is) ∙ p.at.told,
        p.at.node,
      ),
    )

-- one that is before t, or behind it, is not the same
pub before_other : (e t : Entry) → Before e t → IsSame e t → ⊥
before_other e t b s = not_before_itself e (before_then e t e b (same_not_behind t e (same_back e t s)))

pub behind_other : (e t : Entry) → Before t e → IsSame e t → ⊥
behind_other e t b s = not_before_itself t (before_then t e t b (same_not_behind e t s))

-- ---- the leaf of a space that was only looked at

pub record AtLeaf (file : File) (m : Space) (top : ℕ) (es : List Entry) (pages : List ℕ) (leaves leaf : ℕ) (t : Entry) : Type 0 where
  pub tree : IsTree file m top es pages leaves
  pub way : Reached top tree.levels t 0 leaf

pub at_leaf : (file : File) (a m : Space) (top : ℕ) (es : List Entry) (pages : List ℕ) (leaves leaf : ℕ) (t : Entry) → Looks a m → (h : IsTree file a top es pages leaves)
    → Reached top h.levels t 0 leaf → AtLeaf file m top es pages leaves leaf t
at_leaf file a m top es pages leaves leaf t l h r = record {
  tree = tree_stays file a m top es pages leaves l h;
  way = subst (λ k. Reached top k t 0 leaf) (sym (tree_stays-levels file a m top es pages leaves l h)) r;
}

regrouped : (p d q r : List Entry) (x : Entry) → p ++ ((d ++ x ∷ q) ++ r) ≡ (p ++ d) ++ x ∷ (q ++ r)
regrouped p d q r x = ap (λ k. p ++ k) (append_assoc d (x ∷ q) r) ∙ sym (append_assoc p d (x ∷ (q ++ r)))

regrouped_without : (p d q r : List Entry) → p ++ ((d ++ q) ++ r) ≡ (p ++ d) ++ (q ++ r)
regrouped_without p d q r = ap (λ k. p ++ k) (append_assoc d q r) ∙ sym (append_assoc p d (q ++ r))

deleted_true : (file : File) (m b : Space) (page : PageId) (top : ℕ) (es : List Entry) (pages : List ℕ) (leaves leaf : ℕ) (t : Entry)
    → AtLeaf file m top es pages leaves leaf t → page ≡ record { file = file; no = leaf } → TakesFrom m b page t true → IsTreeWithout file b top es pages leaves t
deleted_true file m b page top es pages leaves leaf t at pe ch =
    let h = at.tree in
    let r = at.way in
    let l = leaf_here (pages_of file m) top h.levels es t leaf h.chained h.sorted r in
    let told : m.bytes (key page) ≡ Some l.at.page =
    ap (λ p. m.bytes (key p)) pe ∙ ap (λ n. m.bytes (key_in file n)) (sym r.page_is) ∙ l.at.told in
    let o = ch.bytes l.at.page told in
    let q = o.are (first_page r.behind) l.own l.at.node in
    let own_is = q.all in
    let es_is : es ≡ (l.before ++ q.done) ++ q.x ∷ (q.todo ++ l.after) =
    l.all ∙ ap (λ k. l.before ++ (k ++ l.after)) own_is ∙ regrouped l.before q.done q.todo l.after q.x in
    let now_is = regrouped_without l.before q.done q.todo l.after in
    let asc : Ordered Before ((l.before ++ q.done) ++ (q.todo ++ l.after)) =
    ordered_without Before (l.before ++ q.done) q.x (q.todo ++ l.after) (subst (Ordered Before) es_is h.ascending) in
    record {
      now = l.before ++ ((q.done ++ q.todo) ++ l.after);
      out = record { before = l.before ++ q.done; x = q.x; after = q.todo ++ l.after; was = es_is; now = now_is; same = q.same };
      tree = tree_leaf file m b page _ top es pages leaves leaf t h r l pe ch o.bytes (q.done ++ q.todo) o.told q.node
          (from_without r.x q.x q.done q.todo (subst (AllBy (NotBehind r.x)) own_is l.at.from))
          (before_without q.done q.x q.todo r.behind (subst (λ k. AllBefore k r.behind) own_is l.at.to))
          (subst (Ordered Before) (sym now_is) asc);
    }

lacks_at : (before own after done todo : List Entry) (t : Entry) → own ≡ done ++ todo → AllBy (λ e. Before e t) before → AllBy (λ e. Before e t) done → IsBehind todo t
    → Ordered Before own → AllBy (λ e. Before t e) after → Lacks (before ++ (own ++ after)) t
lacks_at before own after done todo t e b d i o a =
    let N : Entry → Type 0 = λ x. IsSame x t → ⊥ in
    let todo_behind = all_from todo t (ordered_behind Before done todo (subst (Ordered Before) e o)) i in
    all_append N before (own ++ after) (all_weaker (λ x. Before x t) N before (λ x k. before_other x t k) b)
    (all_append N own after
    (subst (AllBy N) (sym e) (all_append N done todo (all_weaker (λ x. Before x t) N done (λ x k. before_other x t k) d)
    (all_weaker (λ x. Before t x) N todo (λ x k. behind_other x t k) todo_behind)))
    (all_weaker (λ x. Before t x) N after (λ x k. behind_other x t k) a))

deleted_false : (file : File) (m b : Space) (page : PageId) (top : ℕ) (es : List Entry) (pages : List ℕ) (leaves leaf : ℕ) (t : Entry)
    → AtLeaf file m top es pages leaves leaf t → page ≡ record { file = file; no = leaf } → TakesFrom m b page t false → Lacks es t × IsTree file b top es pages leaves
deleted_false file m b page top es pages leaves leaf t at pe ch =
    let h = at.tree in
    let r = at.way in
    let l = leaf_here (pages_of file m) top h.levels es t leaf h.chained h.sorted r in
    let told : m.bytes (key page) ≡ Some l.at.page =
    ap (λ p. m.bytes (key p)) pe ∙ ap (λ n. m.bytes (key_in file n)) (sym r.page_is) ∙ l.at.told in
    let q = ch.is l.at.page told (first_page r.behind) l.own l.at.node in
    let asc = ordered_front Before l.own l.after (ordered_behind Before l.before (l.own ++ l.after) (subst (Ordered Before) l.all h.ascending)) in (
      subst (λ k. Lacks k t) (sym l.all) (lacks_at l.before l.own l.after q.done q.todo t q.all l.below_t q.below q.behind asc l.behind_t),
      tree_stays file m b top es pages leaves ch.looks h,
    )

pub deleted : (file : File) (a m b : Space) (page : PageId) (top : ℕ) (es : List Entry) (pages : List ℕ) (leaves leaf : ℕ) (t : Entry) (gone : Bool) → Looks a m
    → (h : IsTree file a top es pages leaves) → Reached top h.levels t 0 leaf → page ≡ record { file = file; no = leaf } → TakesFrom m b page t gone
    → Deletes file b top es pages leaves t gone
deleted file a m b page top es pages leaves leaf t true l h r pe ch = deleted_true file m b page top es pages leaves leaf t (at_leaf file a m top es pages leaves leaf t l h r) pe ch
deleted file a m b page top es pages leaves leaf t false l h r pe ch = deleted_false file m b page top es pages leaves leaf t (at_leaf file a m top es pages leaves leaf t l h r) pe ch

-- ---- what else stays

pub none_wider : (w : Mine) (a b : Space) → Steady none_mine a b → Steady w a b
none_wider w a b s = Steady_wider none_mine w a b (λ q x. absurd x) (λ q x. absurd x) (λ q x. absurd x) s

pub changed_steady : (file : File) (m b : Space) (page : PageId) (P : List ℕ → List ℕ → Type 0) (pages : List ℕ) (leaf : ℕ) (told : Bool) → m.told ≡ told
    → page ≡ record { file = file; no = leaf } → (told ≡ true → has_page pages leaf ≡ true) → ChangesPage m b page P → Steady (pages_mine file pages) m b
changed_steady file m b page P pages leaf true e pe h ch =
    Steady_wider (page_mine page) (pages_mine file pages) m b (λ q x. (leaf, x ∙ ap key pe, h refl)) (λ q x. absurd x) (λ q x. absurd x) ch.steady
changed_steady file m b page P pages leaf false e pe h ch = none_wider (pages_mine file pages) m b (ch.hidden e)

pub taken_steady : (file : File) (a m b : Space) (page : PageId) (top : ℕ) (pages : List ℕ) (leaf : ℕ) (t : Entry) (gone : Bool) → Looks a m
    → ((es : List Entry) (ps : List ℕ) (leaves : ℕ) (h : IsTree file a top es ps leaves) → Reached top h.levels t 0 leaf)
    → (a.told ≡ true → HasTree file a top) → page ≡ record { file = file; no = leaf } → IsLine file a (Some top) pages → TakesFrom m b page t gone
    → Steady (pages_mine file pages) a b
taken_steady file a m b page top pages leaf t true l r has pe line ch =
    Steady_then (pages_mine file pages) a m b (none_wider (pages_mine file pages) a m l.steady)
    (changed_steady file m b page _ pages leaf m.told refl pe
    (λ told.
    let h = has (sym l.steady.told ∙ told) in
    let u = reached_used top h.tree.levels t 0 leaf (r h.es h.pages h.leaves h.tree) in
    let o = h.tree.owns leaf in
    subst (λ k. has_page k leaf ≡ true) (line_one file a (Some top) h.pages pages h.tree.line line) (times_has h.pages leaf (omega arith)))
    ch)
taken_steady file a m b page top pages leaf t false l r has pe line ch =
    Steady_then (pages_mine file pages) a m b (none_wider (pages_mine file pages) a m l.steady) (none_wider (pages_mine file pages) m b ch.looks.steady)

pub taken_same_pages : (m b : Space) (page : PageId) (t : Entry) (gone : Bool) → TakesFrom m b page t gone → b.taken ≡ m.taken
taken_same_pages m b page t true ch = ch.taken
taken_same_pages m b page t false ch = ch.looks.taken
