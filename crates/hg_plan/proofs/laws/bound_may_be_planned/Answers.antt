use Rattle.hg_plan.proofs.Bound.{bound_may_be_planned}
use Rattle.hg_plan.proofs.laws.bound_may_be_planned.Goals as goal

pub returns : goal.returns
returns c = bound_may_be_planned c.places_are_positions.ensures.columns
