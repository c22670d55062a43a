use Rattle.hg_worked.proofs.ChangesByHand.{changes_hold}
use Rattle.hg_worked.proofs.rows.changed_tables.Goals as goal

pub returns : goal.returns
returns c = changes_hold
