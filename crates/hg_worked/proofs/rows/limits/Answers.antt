use Rattle.hg_worked.proofs.LimitsByHand.{limits_hold}
use Rattle.hg_worked.proofs.rows.limits.Goals as goal

pub returns : goal.returns
returns c = limits_hold
