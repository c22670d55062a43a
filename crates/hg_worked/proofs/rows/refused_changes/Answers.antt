use Rattle.hg_worked.proofs.ChangeRefusalsByHand as proved
use Rattle.hg_worked.proofs.rows.refused_changes.Goals as goal

pub returns : goal.returns
returns c = record { insert = proved.insert_refusals_hold; update = proved.update_refusals_hold; delete = proved.delete_refusals_hold; vacuum = proved.vacuums_hold; codes = proved.codes_hold }
