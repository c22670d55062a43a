use Rattle.hg_machine.proofs.Rooms as proved
use Rattle.hg_machine.proofs.plain.rows_and_memory_fit_a_reply.Goals as goal

pub returns : goal.returns
returns c = record { rows = proved.working_rows_print_short; memory = proved.memory_fits }
