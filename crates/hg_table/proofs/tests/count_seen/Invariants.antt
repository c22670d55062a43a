use Rattle.hg_table.specs.Kept.{IsReadyAt}
use Rattle.hg_table.proofs.tests.count_seen.Given as goal

abbrev pub invariant-loop-turn : goal.invariant-loop-turn
invariant-loop-turn g l = IsReadyAt (g.S.Pages.state l.space) l.table 4 l.at
