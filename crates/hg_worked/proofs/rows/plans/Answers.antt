use Rattle.hg_worked.proofs.PlansByHand.{conditions_hold, indexes_hold}
use Rattle.hg_worked.proofs.rows.plans.Goals as goal

pub returns : goal.returns
returns c = record { conditions = conditions_hold; indexes = indexes_hold }
