use Rattle.std.proofs.Common.{arith}
use Rattle.hg_clock.proofs.Sweeps.{least_at_end}
use Rattle.hg_clock.proofs.sweep.least_in.Goals as goal

pub returns-clause-found : goal.returns-clause-found
returns-clause-found c = least_at_end _ _ _ _ _ c.loop-frame.best (omega arith) c.loop-frame.invariant.least
