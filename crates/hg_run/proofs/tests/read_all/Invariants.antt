use Rattle.hg_run.specs.Calls.{HasWay}
use Rattle.hg_run.specs.Kept.{IsReady}
use Rattle.hg_run.proofs.tests.read_all.Given as goal

abbrev pub invariant-loop-number : goal.invariant-loop-number
invariant-loop-number g l = record {
  ready : IsReady (g.S.Pages.state l.space) l.run;
  way : HasWay (g.S.Pages.state l.space) l.run l.at;
}
