use Rattle.hg_worked.proofs.FiltersByHand.{filters_hold}
use Rattle.hg_worked.proofs.rows.filters.Goals as goal

pub returns : goal.returns
returns c = filters_hold
