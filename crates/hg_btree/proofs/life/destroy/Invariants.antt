use Rattle.std.specs.Prelude.{ℕ, List, Some}
use Rattle.hg_base.specs.Lines.{IsLine}
use Rattle.hg_btree.specs.Life.{Releases}
use Rattle.hg_btree.proofs.life.destroy.Given as goal

abbrev pub invariant-loop-turn : goal.invariant-loop-turn
invariant-loop-turn g l = record {
  releases : (pages : List ℕ) → IsLine l.tree.file (g.S.Pages.state l.fn.space) (Some l.tree.top) pages
      → Releases l.tree.file (g.S.Pages.state l.fn.space) (g.S.Pages.state l.space) pages l.next l._turn;
}
