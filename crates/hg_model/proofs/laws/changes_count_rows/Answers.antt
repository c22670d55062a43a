use Rattle.hg_model.proofs.ChangeCounts as proved
use Rattle.hg_model.proofs.laws.changes_count_rows.Goals as goal

pub returns : goal.returns
returns c = record { insert = proved.inserts_counted; update = proved.updates_counted; delete = proved.deletes_counted; vacuum = proved.vacuum_keeps_tables }
