use Rattle.hg_worked.proofs.JoinsByHand.{joins_hold}
use Rattle.hg_worked.proofs.rows.joins.Goals as goal

pub returns : goal.returns
returns c = joins_hold
