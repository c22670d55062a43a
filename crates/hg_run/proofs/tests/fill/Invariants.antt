use Rattle.hg_run.specs.Kept.{IsReady}
use Rattle.hg_run.proofs.tests.fill.Given as goal

abbrev pub invariant-loop-turn : goal.invariant-loop-turn
invariant-loop-turn g l = IsReady (g.S.Pages.state l.space) l.run
