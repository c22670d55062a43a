use Rattle.hg_machine.proofs.LooseSteady as proved
use Rattle.hg_machine.proofs.plain.steps_keep_steady.Goals as goal

pub returns : goal.returns
returns c = record { exact = proved.exact_steps_keep_steady; loose = proved.loose_steps_keep_steady; loose_lines = proved.loose_lines_keep_steady }
