use Rattle.hg_btree.specs.Kept.{IsReady}
use Rattle.hg_btree.proofs.tests.fill.Given as goal

abbrev pub invariant-loop-n : goal.invariant-loop-n
invariant-loop-n g l = IsReady (g.S.Pages.state l.space) l.tree
