use Rattle.hg_btree.specs.Kept.{IsReady}
use Rattle.hg_btree.proofs.mixed_tests.walk.Given as goal

abbrev pub invariant-loop-entry : goal.invariant-loop-entry
invariant-loop-entry g l = IsReady (g.S.Pages.state l.space) l.tree
