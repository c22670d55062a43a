-- How a tree begins and ends. Our own rule.
use Rattle.std.specs.Prelude.{◌≡◌, ℕ, ◌+◌, ◌<◌, ◌≤◌, true, false, List, [], ◌∷◌, ◌++◌, length, Option, Some, None}
use Rattle.std.specs.List.{AllByRecursion}
use Rattle.hg_base.specs.Space.{Space, key, key_in, at}
use Rattle.hg_base.specs.Steadiness.{Steady}
use Rattle.hg_base.specs.Lines.{IsLine}
use Rattle.hg_base.specs.declared.File.{File}
use Rattle.hg_base.specs.declared.PageId.{PageId}
use Rattle.hg_base.specs.declared.Tree.{Tree}
use Rattle.hg_btree.specs.Nodes.{IsNode}
use Rattle.hg_btree.specs.Trees.{IsTree}
use Rattle.hg_btree.specs.Steps.{page_mine}
use Rattle.hg_btree.specs.Leaf.{Holds}
use Rattle.hg_btree.specs.Deleting.{pages_mine}

-- A page was taken that is a leaf with no entries.
pub record MakesLeaf (file : File) (a b : Space) (page : PageId) : Type 0 where
  pub in_file : page.file ≡ file
  pub below_limit : page.no < a.limit file
  pub not_taken : a.taken (key page) ≡ false
  pub taken : b.taken ≡ at a.taken (key page) true
  pub no_heap : b.of_heap (key page) ≡ false
  pub no_next : b.next (key page) ≡ None
  pub steady : Steady (page_mine page) a b
  pub bytes : a.told ≡ true → Holds b page (λ bytes. IsNode false bytes 0 4294967295 [])

-- A tree was made: it has no entry, one page, which was not taken, and one leaf.
pub record Makes (file : File) (a b : Space) (tree : Tree) : Type 0 where
  pub in_file : tree.file ≡ file
  pub not_taken : a.taken (key_in file tree.top) ≡ false
  pub taken : b.taken ≡ at a.taken (key_in file tree.top) true
  pub steady : Steady (pages_mine file (tree.top ∷ [])) a b
  pub line : IsLine file b (Some tree.top) (tree.top ∷ [])
  pub is_tree : a.told ≡ true → IsTree file b tree.top [] (tree.top ∷ []) 1

-- The pages are not taken any more, and all else is as it was, counts too.
pub record Ends (file : File) (a b : Space) (pages : List ℕ) : Type 0 where
  pub gone : AllByRecursion (λ x. b.taken (key_in file x) ≡ false) pages
  pub steady : Steady (pages_mine file pages) a b
  pub counts : b.counts ≡ a.counts

-- Some of the pages were given back already.
pub record Releases (file : File) (a b : Space) (pages : List ℕ) (next : Option ℕ) (turns : ℕ) : Type 0 where
  pub done : List ℕ
  pub rest : List ℕ
  pub all : pages ≡ done ++ rest
  pub line : IsLine file b next rest
  pub gone : AllByRecursion (λ x. b.taken (key_in file x) ≡ false) done
  pub steady : Steady (pages_mine file pages) a b
  pub counts : b.counts ≡ a.counts
  pub few : turns + length rest ≤ length pages
