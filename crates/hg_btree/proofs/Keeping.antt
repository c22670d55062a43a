-- A tree and its line between calls.
use Rattle.std.specs.Prelude.{◌≡◌, ℕ, Bool, true, false, List, [], ◌∷◌, length, Some, Result, Ok, Err, IfOk, OnOk, OnErr}
use Rattle.std.proofs.Common.{sym, ◌∙◌, ap, subst}
use Rattle.hg_base.specs.Space.{Space, key_in}
use Rattle.hg_base.specs.Steadiness.{Steady}
use Rattle.hg_base.specs.Lines.{IsLine}
use Rattle.hg_base.specs.LineLaws.{IsSameLink, line_stays, all_map}
use Rattle.hg_base.specs.declared.File.{File}
use Rattle.hg_base.specs.declared.PageId.{PageId}
use Rattle.hg_base.specs.declared.Tree.{Tree}
use Rattle.hg_base.specs.declared.pages.PageFault.{PageFault}
use Rattle.hg_btree.specs.Entries.{Entry}
use Rattle.hg_btree.specs.Trees.{IsTree, HasTree}
use Rattle.hg_btree.specs.Steps.{Looks}
use Rattle.hg_btree.specs.Leaf.{ChangesPage, TakesFrom}
use Rattle.hg_btree.specs.Deleting.{Deletes, pages_mine}
use Rattle.hg_btree.specs.Life.{Makes}
use Rattle.hg_btree.specs.Growing.{LineGrows, Inserts, most_pages}
use Rattle.hg_btree.specs.Kept.{IsReady}
use Rattle.hg_btree.proofs.Leaves.{tree_stays}
use Rattle.hg_btree.proofs.Grown.{line_stays_looked}

-- a page was changed, and no link
pub line_changed : (file : File) (m b : Space) (page : PageId) (P : List ℕ → List ℕ → Type 0) (top : ℕ) (pages : List ℕ) → ChangesPage m b page P → IsLine file m (Some top) pages
    → IsLine file b (Some top) pages
line_changed file m b page P top pages ch l =
    line_stays file m b (Some top) pages ch.steady.limit
    (all_map (λ x. m.of_heap (key_in file x) ≡ false) (λ x. IsSameLink m b (key_in file x)) pages
    (λ x _. record { taken = ap (λ f. f (key_in file x)) ch.taken; of_heap = ap (λ f. f (key_in file x)) ch.of_heap; next = ap (λ f. f (key_in file x)) ch.links }) l.no_heap) l

-- an entry was taken out of a leaf, or was not there
pub line_taken : (file : File) (a m b : Space) (page : PageId) (top : ℕ) (pages : List ℕ) (t : Entry) (gone : Bool) → Looks a m → TakesFrom m b page t gone
    → IsLine file a (Some top) pages → IsLine file b (Some top) pages
line_taken file a m b page top pages t true k ch l = line_changed file m b page _ top pages ch (line_stays_looked file a m top pages k l)
line_taken file a m b page top pages t false k ch l = line_stays_looked file m b top pages ch.looks (line_stays_looked file a m top pages k l)

-- ---- what a caller holds

pub inserted : (file : File) (b : Space) (top : ℕ) (es : List Entry) (most leaves : ℕ) (t : Entry) (result : Result Bool PageFault) → Inserts file b top es most leaves t result → HasTree file b top
inserted file b top es most leaves t (Ok true) w = record { es = w.now; pages = w.tree.pages; leaves = w.tree.leaves_now; tree = w.tree.tree }
inserted file b top es most leaves t (Ok false) w = record { es = es; pages = w.1.pages; leaves = w.1.leaves_now; tree = w.1.tree }
inserted file b top es most leaves t (Err f) w = record { es = es; pages = w.pages; leaves = w.leaves_now; tree = w.tree }

pub ready_inserted : (a b : Space) (tree : Tree) (t : Entry) (result : Result Bool PageFault)
    → ((es : List Entry) (pages : List ℕ) (leaves : ℕ) (h : IsTree tree.file a tree.top es pages leaves)
    → Inserts tree.file b tree.top es (most_pages tree.file a tree.top h.levels (length pages) t) leaves t result)
    → ((pages : List ℕ) → IsLine tree.file a (Some tree.top) pages → LineGrows tree.file a b tree.top pages) → IsReady a tree → IsReady b tree
ready_inserted a b tree t result inserts grows r =
    let g : LineGrows tree.file a b tree.top r.pages = grows r.pages r.line in
    record {
      no_pins = g.steady.pins_after;
      pages = g.now;
      line = g.line;
      there = λ told.
          let h : HasTree tree.file a tree.top = r.there (sym g.steady.told ∙ told) in
          inserted tree.file b tree.top h.es (most_pages tree.file a tree.top h.tree.levels (length h.pages) t) h.leaves t result (inserts h.es h.pages h.leaves h.tree);
    }

pub ready_looked : (a b : Space) (tree : Tree) → Looks a b → IsReady a tree → IsReady b tree
ready_looked a b tree l r = record {
  no_pins = l.steady.pins_after;
  pages = r.pages;
  line = line_stays_looked tree.file a b tree.top r.pages l r.line;
  there = λ told.
      let h : HasTree tree.file a tree.top = r.there (sym l.steady.told ∙ told) in
      record { es = h.es; pages = h.pages; leaves = h.leaves; tree = tree_stays tree.file a b tree.top h.es h.pages h.leaves l h.tree };
}

pub ready_made : (file : File) (a b : Space) (tree : Tree) → Makes file a b tree → IsReady b tree
ready_made file a b tree m = record {
  no_pins = m.steady.pins_after;
  pages = tree.top ∷ [];
  line = subst (λ f. IsLine f b (Some tree.top) (tree.top ∷ [])) (sym m.in_file) m.line;
  there = λ told. record {
    es = [];
    pages = tree.top ∷ [];
    leaves = 1;
    tree = subst (λ f. IsTree f b tree.top [] (tree.top ∷ []) 1) (sym m.in_file) (m.is_tree (sym m.steady.told ∙ told));
  };
}

deleted_has : (file : File) (b : Space) (top : ℕ) (es : List Entry) (pages : List ℕ) (leaves : ℕ) (t : Entry) (gone : Bool) → Deletes file b top es pages leaves t gone → HasTree file b top
deleted_has file b top es pages leaves t true w = record { es = w.now; pages = pages; leaves = leaves; tree = w.tree }
deleted_has file b top es pages leaves t false w = record { es = es; pages = pages; leaves = leaves; tree = w.1 }

pub ready_deleted : (a b : Space) (tree : Tree) (t : Entry) (result : Result Bool PageFault)
    → IfOk result (λ gone. (es : List Entry) (pages : List ℕ) (leaves : ℕ) → IsTree tree.file a tree.top es pages leaves → Deletes tree.file b tree.top es pages leaves t gone)
    → OnOk result ((pages : List ℕ) → IsLine tree.file a (Some tree.top) pages → Steady (pages_mine tree.file pages) a b)
    → OnErr result (Looks a b) → ((pages : List ℕ) → IsLine tree.file a (Some tree.top) pages → IsLine tree.file b (Some tree.top) pages) → IsReady a tree → IsReady b tree
ready_deleted a b tree t (Ok gone) deletes steady err line r =
    let s : Steady (pages_mine tree.file r.pages) a b = steady r.pages r.line in
    record {
      no_pins = s.pins_after;
      pages = r.pages;
      line = line r.pages r.line;
      there = λ told.
          let h : HasTree tree.file a tree.top = r.there (sym s.told ∙ told) in
          deleted_has tree.file b tree.top h.es h.pages h.leaves t gone (deletes h.es h.pages h.leaves h.tree);
    }
ready_deleted a b tree t (Err f) deletes steady err line r = ready_looked a b tree err r

pub ready_begun : (file : File) (a b : Space) (result : Result Tree PageFault) → IfOk result (Makes file a b) → IfOk result (λ tree. IsReady b tree)
ready_begun file a b (Ok tree) m = ready_made file a b tree m
ready_begun file a b (Err f) m = tt
