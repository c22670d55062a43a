use Rattle.std.proofs.Common.{arith}
use Rattle.hg_clock.proofs.Sweeps.{lowers_at_end}
use Rattle.hg_clock.proofs.sweep.lower.Goals as goal

pub returns : goal.returns
returns c = lowers_at_end _ _ _ _ _ _ _ (omega arith) c.loop-frame.invariant
