use Rattle.hg_worked.proofs.GroupingByHand.{grouping_hold}
use Rattle.hg_worked.proofs.rows.grouped_statements.Goals as goal

pub returns : goal.returns
returns c = grouping_hold
