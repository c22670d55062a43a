use Rattle.hg_worked.proofs.RefusalsByHand.{refusals_hold}
use Rattle.hg_worked.proofs.rows.refused_statements.Goals as goal

pub returns : goal.returns
returns c = refusals_hold
