use Rattle.hg_model.proofs.Leaves.{row_values_lie_below, group_values_lie_below}
use Rattle.hg_model.proofs.laws.values_lie_below_their_bounds.Goals as goal

pub returns : goal.returns
returns c = record { row = row_values_lie_below; group = group_values_lie_below }
