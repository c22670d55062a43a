use Rattle.hg_table.specs.Kept.{IsReady}
use Rattle.hg_table.proofs.tests.seen_of.Given as goal

abbrev pub invariant-loop-born : goal.invariant-loop-born
invariant-loop-born g l = IsReady (g.S.Pages.state l.space) l.table 4
