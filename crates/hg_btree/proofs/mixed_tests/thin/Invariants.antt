use Rattle.hg_btree.specs.Kept.{IsReady}
use Rattle.hg_btree.proofs.mixed_tests.thin.Given as goal

abbrev pub invariant-loop-place : goal.invariant-loop-place
invariant-loop-place g l = IsReady (g.S.Pages.state l.space) l.tree
