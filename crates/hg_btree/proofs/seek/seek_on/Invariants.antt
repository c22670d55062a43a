use Rattle.std.specs.Prelude.{ℕ, List, None}
use Rattle.hg_base.specs.Causes.{HasCause}
use Rattle.hg_btree.specs.Entries.{Entry}
use Rattle.hg_btree.specs.Trees.{IsTree, Along, pages_of}
use Rattle.hg_btree.specs.Steps.{Looks}
use Rattle.hg_btree.proofs.seek.seek_on.Given as goal

abbrev pub invariant-loop-turn : goal.invariant-loop-turn
invariant-loop-turn g l = record {
  looks : Looks (g.S.Pages.state l.fn.space) (g.S.Pages.state l.space);
  cause : HasCause (g.S.Pages.state l.fn.space) (g.S.Pages.state l.space) None;
  along : (es : List Entry) (pages : List ℕ) (leaves : ℕ) → IsTree l.tree.file (g.S.Pages.state l.fn.space) l.tree.top es pages leaves
      → Along (pages_of l.tree.file (g.S.Pages.state l.fn.space)) es pages (record { key = l.key; place = l.place; child = 0 }) l.second 1
      → Along (pages_of l.tree.file (g.S.Pages.state l.fn.space)) es pages (record { key = l.key; place = l.place; child = 0 }) l.leaf l._turn;
}
