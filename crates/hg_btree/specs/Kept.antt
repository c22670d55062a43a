-- A tree that a caller holds between its calls. Our own rule.
use Rattle.std.specs.Prelude.{◌≡◌, ℕ, true, List, Some}
use Rattle.hg_base.specs.Space.{Space, NoPins}
use Rattle.hg_base.specs.Lines.{IsLine}
use Rattle.hg_base.specs.declared.Tree.{Tree}
use Rattle.hg_btree.specs.Trees.{HasTree}

-- No pin is out, and these pages are the tree's; where the space tells, it is a tree.
pub record IsReady (s : Space) (tree : Tree) : Type 0 where
  pub no_pins : NoPins s
  pub pages : List ℕ
  pub line : IsLine tree.file s (Some tree.top) pages
  pub there : s.told ≡ true → HasTree tree.file s tree.top
