use Rattle.hg_machine.proofs.StepsSteady as proved
use Rattle.hg_machine.proofs.plain.runs_are_steady.Goals as goal

pub returns : goal.returns
returns c = record { beginning = proved.beginning_is_steady; lines = proved.lines_keep_steady }
