use Rattle.hg_worked.proofs.OrderingByHand.{ordering_hold}
use Rattle.hg_worked.proofs.rows.ordered_statements.Goals as goal

pub returns : goal.returns
returns c = ordering_hold
