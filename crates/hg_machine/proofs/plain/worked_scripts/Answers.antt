use Rattle.hg_machine.proofs.WorkedRows as proved
use Rattle.hg_machine.proofs.plain.worked_scripts.Goals as goal

pub returns : goal.returns
returns c = record { waiting = proved.the_second_waits; opened = proved.cursors_stay_as_opened; rows = proved.rows_come_back }
