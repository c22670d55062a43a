use Rattle.hg_machine.proofs.Resting as proved
use Rattle.hg_machine.proofs.plain.lines_end_at_rest.Goals as goal

pub returns : goal.returns
returns c = proved.lines_end_at_rest
