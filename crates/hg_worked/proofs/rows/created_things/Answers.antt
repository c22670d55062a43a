use Rattle.hg_worked.proofs.CreationsByHand.{creations_hold}
use Rattle.hg_worked.proofs.rows.created_things.Goals as goal

pub returns : goal.returns
returns c = creations_hold
