use Rattle.std.specs.Prelude.{ℕ, List, None, ◌<◌}
use Rattle.hg_base.specs.Causes.{HasCause}
use Rattle.hg_btree.specs.Entries.{Entry}
use Rattle.hg_btree.specs.Trees.{IsTree, LedTo}
use Rattle.hg_btree.specs.Steps.{Looks}
use Rattle.hg_btree.proofs.seek.leaf_of.Given as goal

abbrev pub invariant-loop-found : goal.invariant-loop-found
invariant-loop-found g l = record {
  looks : Looks (g.S.Pages.state l.fn.space) (g.S.Pages.state l.space);
  cause : HasCause (g.S.Pages.state l.fn.space) (g.S.Pages.state l.space) None;
  above : 0 < l.found.level;
  led : (es : List Entry) (pages : List ℕ) (leaves : ℕ) (h : IsTree l.tree.file (g.S.Pages.state l.fn.space) l.tree.top es pages leaves)
      → LedTo l.tree.top h.levels (record { key = l.key; place = l.place; child = 0 }) l.found.level l.found.child;
}

abbrev pub decreases-loop-found : goal.decreases-loop-found
decreases-loop-found g l = l.found.level
