use Rattle.std.proofs.Common.{subst}
use Rattle.hg_engine.specs.Shown.{IsSomeEngine}
use Rattle.hg_engine.proofs.engine.Engine.stands_for_a_state.Goals as goal

pub returns : goal.returns
returns g c = subst (IsSomeEngine g.M.PageDevice g.T.PageDevice) c.self.view_is c.self.invariant
