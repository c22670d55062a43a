use Rattle.hg_table.specs.Kept.{IsReady}
use Rattle.hg_table.proofs.tests.fill.Given as goal

abbrev pub invariant-loop-number : goal.invariant-loop-number
invariant-loop-number g l = IsReady (g.S.Pages.state l.space) l.table 4
