use Rattle.hg_machine.proofs.LooseRuns as proved
use Rattle.hg_machine.proofs.plain.runs_are_loose_runs.Goals as goal

pub returns : goal.returns
returns c = proved.runs_are_loose_runs
