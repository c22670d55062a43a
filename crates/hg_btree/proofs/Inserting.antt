-- An insertion into a leaf, from the leaf to the tree.
use Rattle.std.specs.Prelude.{◌≡◌, ℕ, ◌+◌, true, false, List, [], ◌∷◌, ◌++◌, length, Some}
use Rattle.std.proofs.Common.{sym, ◌∙◌, ap, subst, refl, append_assoc}
use Rattle.hg_base.specs.Space.{Space, key, key_in}
use Rattle.hg_base.specs.declared.File.{File}
use Rattle.hg_base.specs.declared.PageId.{PageId}
use Rattle.hg_btree.specs.declared.change.Put.{Put}
use Rattle.hg_btree.specs.declared.change.Put.TheVariants as put
use Rattle.hg_btree.specs.Entries.{Entry, AllBy, Before, Ordered, NotBehind}
use Rattle.hg_btree.specs.Nodes.{spelling, IsNode, IsSpot, IsThere}
use Rattle.hg_btree.specs.Trees.{pages_of, first_page, AllBefore, IsTree, Reached}
use Rattle.hg_btree.specs.Steps.{Looks}
use Rattle.hg_btree.specs.Putting.{Adds, Has, PutsInto, IsTreeWith, Puts}
use Rattle.hg_btree.proofs.Reading.{all_append}
use Rattle.hg_btree.proofs.Walking.{leaf_here, ordered_front, ordered_behind}
use Rattle.hg_btree.proofs.Changing.{ordered_with, all_from, before_with, from_with}
use Rattle.hg_btree.proofs.Leaves.{tree_stays, tree_leaf}
use Rattle.hg_btree.proofs.Deleting.{AtLeaf, at_leaf}

-- ---- at a spot

has_at : (done todo : List Entry) (t : Entry) (at after : ℕ) → IsThere false todo t at after → Has (done ++ todo) t
has_at done [] t at after i = absurd i
has_at done (x ∷ rest) t at after i = record { before = done; x = x; after = rest; all = refl; same = i.0 }

pub has_spot : (es : List Entry) (t : Entry) (at after : ℕ) → IsSpot false es t at after true → Has es t
has_spot es t at after s = subst (λ l. Has l t) (sym s.passed.all) (has_at s.passed.done s.passed.todo t at after (s.here refl))

pub adds_spot : (page new : List ℕ) (link : ℕ) (es : List Entry) (t : Entry) (at after : ℕ) → IsNode false page 0 link es → IsSpot false es t at after false
    → ((level link : ℕ) (done todo : List Entry) → IsNode false page level link (done ++ todo) → at ≡ 16 + length (spelling false done) → IsNode false new level link (done ++ t ∷ todo))
    → Adds new link es t
adds_spot page new link es t at after h s f = record {
  done = s.passed.done;
  todo = s.passed.todo;
  all = s.passed.all;
  below = s.passed.are;
  behind = (s.not_here refl).1;
  node = f 0 link s.passed.done s.passed.todo (subst (IsNode false page 0 link) s.passed.all h) s.passed.place;
}

-- ---- in the tree

put_new : (file : File) (m b : Space) (page : PageId) (top : ℕ) (es : List Entry) (pages : List ℕ) (leaves leaf : ℕ) (t : Entry)
    → AtLeaf file m top es pages leaves leaf t → page ≡ record { file = file; no = leaf } → PutsInto m b page t put.New → IsTreeWith file b top es pages leaves t
put_new file m b page top es pages leaves leaf t at pe ch =
    let h = at.tree in
    let r = at.way in
    let l = leaf_here (pages_of file m) top h.levels es t leaf h.chained h.sorted r in
    let told : m.bytes (key page) ≡ Some l.at.page =
    ap (λ p. m.bytes (key p)) pe ∙ ap (λ n. m.bytes (key_in file n)) (sym r.page_is) ∙ l.at.told in
    let o = ch.bytes l.at.page told in
    let q = o.are (first_page r.behind) l.own l.at.node in
    let es_is : es ≡ (l.before ++ q.done) ++ (q.todo ++ l.after) =
    l.all ∙ ap (λ k. l.before ++ (k ++ l.after)) q.all ∙ ap (λ k. l.before ++ k) (append_assoc q.done q.todo l.after)
    ∙ sym (append_assoc l.before q.done (q.todo ++ l.after)) in
    let now_is : l.before ++ ((q.done ++ t ∷ q.todo) ++ l.after) ≡ (l.before ++ q.done) ++ t ∷ (q.todo ++ l.after) =
    ap (λ k. l.before ++ k) (append_assoc q.done (t ∷ q.todo) l.after) ∙ sym (append_assoc l.before q.done (t ∷ (q.todo ++ l.after))) in
    let own_asc = ordered_front Before l.own l.after (ordered_behind Before l.before (l.own ++ l.after) (subst (Ordered Before) l.all h.ascending)) in
    let todo_behind = all_from q.todo t (ordered_behind Before q.done q.todo (subst (Ordered Before) q.all own_asc)) q.behind in
    let below = all_append (λ e. Before e t) l.before q.done l.below_t q.below in
    let behind = all_append (λ e. Before t e) q.todo l.after todo_behind l.behind_t in
    let asc = ordered_with (l.before ++ q.done) t (q.todo ++ l.after) (subst (Ordered Before) es_is h.ascending) below behind in
    record {
      now = l.before ++ ((q.done ++ t ∷ q.todo) ++ l.after);
      put = record { before = l.before ++ q.done; after = q.todo ++ l.after; was = es_is; now = now_is; below = below; behind = behind };
      tree = tree_leaf file m b page _ top es pages leaves leaf t h r l pe ch o.bytes (q.done ++ t ∷ q.todo) o.told q.node
          (from_with r.x t q.done q.todo r.from (subst (AllBy (NotBehind r.x)) q.all l.at.from))
          (before_with q.done t q.todo r.behind r.to (subst (λ k. AllBefore k r.behind) q.all l.at.to))
          (subst (Ordered Before) (sym now_is) asc);
    }

put_old : (file : File) (m b : Space) (page : PageId) (top : ℕ) (es : List Entry) (pages : List ℕ) (leaves leaf : ℕ) (t : Entry)
    → AtLeaf file m top es pages leaves leaf t → page ≡ record { file = file; no = leaf } → PutsInto m b page t put.Old → Has es t × IsTree file b top es pages leaves
put_old file m b page top es pages leaves leaf t at pe ch =
    let h = at.tree in
    let r = at.way in
    let l = leaf_here (pages_of file m) top h.levels es t leaf h.chained h.sorted r in
    let told : m.bytes (key page) ≡ Some l.at.page =
    ap (λ p. m.bytes (key p)) pe ∙ ap (λ n. m.bytes (key_in file n)) (sym r.page_is) ∙ l.at.told in
    let q = ch.is l.at.page told (first_page r.behind) l.own l.at.node in (
      record {
        before = l.before ++ q.before;
        x = q.x;
        after = q.after ++ l.after;
        all = l.all ∙ ap (λ k. l.before ++ (k ++ l.after)) q.all ∙ ap (λ k. l.before ++ k) (append_assoc q.before (q.x ∷ q.after) l.after)
            ∙ sym (append_assoc l.before q.before (q.x ∷ (q.after ++ l.after)));
        same = q.same;
      },
      tree_stays file m b top es pages leaves ch.looks h,
    )

pub puts : (file : File) (a m b : Space) (page : PageId) (top : ℕ) (es : List Entry) (pages : List ℕ) (leaves leaf : ℕ) (t : Entry) (how : Put) → Looks a m
    → (h : IsTree file a top es pages leaves) → Reached top h.levels t 0 leaf → page ≡ record { file = file; no = leaf } → PutsInto m b page t how
    → Puts file b top es pages leaves t how
puts file a m b page top es pages leaves leaf t put.New l h r pe ch = put_new file m b page top es pages leaves leaf t (at_leaf file a m top es pages leaves leaf t l h r) pe ch
puts file a m b page top es pages leaves leaf t put.Old l h r pe ch = put_old file m b page top es pages leaves leaf t (at_leaf file a m top es pages leaves leaf t l h r) pe ch
puts file a m b page top es pages leaves leaf t put.NoRoom l h r pe ch =
    tree_stays file m b top es pages leaves ch.looks (at_leaf file a m top es pages leaves leaf t l h r).tree

-- by the three ways in which it may end
pub into : (a d : Space) (page : PageId) (t : Entry) (how : Put) → (how ≡ put.New → PutsInto a d page t put.New) → (how ≡ put.Old → PutsInto a d page t put.Old)
    → (how ≡ put.NoRoom → PutsInto a d page t put.NoRoom) → PutsInto a d page t how
into a d page t put.New f g h = f refl
into a d page t put.Old f g h = g refl
into a d page t put.NoRoom f g h = h refl
