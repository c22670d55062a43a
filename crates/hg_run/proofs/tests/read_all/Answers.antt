use Rattle.std.proofs.Common.{sym, subst}
use Rattle.hg_run.specs.Calls.{HasWay}
use Rattle.hg_run.specs.Kept.{way_first}
use Rattle.hg_run.proofs.tests.read_all.Goals as goal

pub loop-number-init : goal.loop-number-init
loop-number-init g c = record {
  ready = c.requires;
  way = subst (HasWay (g.S.Pages.state c.args.space.now) c.args.run.now) (sym c.start-at.ensures) (way_first (g.S.Pages.state c.args.space.now) c.args.run.now c.requires);
}
