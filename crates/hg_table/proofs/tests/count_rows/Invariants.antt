use Rattle.hg_table.specs.Kept.{IsReadyAt}
use Rattle.hg_table.proofs.tests.count_rows.Given as goal

abbrev pub invariant-loop-number : goal.invariant-loop-number
invariant-loop-number g l = IsReadyAt (g.S.Pages.state l.space) l.table 4 l.at
