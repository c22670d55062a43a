use Rattle.hg_machine.proofs.Fitting as proved
use Rattle.hg_machine.proofs.plain.fitting_lines_never_fill.Goals as goal

pub returns : goal.returns
returns c = proved.fitting_lines_never_fill
