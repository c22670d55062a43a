use Rattle.hg_index.specs.Calls.{IsReady}
use Rattle.hg_index.proofs.tests.list_same.Given as goal

abbrev pub invariant-loop-turn : goal.invariant-loop-turn
invariant-loop-turn g l = IsReady (g.S.Pages.state l.space) l.index
