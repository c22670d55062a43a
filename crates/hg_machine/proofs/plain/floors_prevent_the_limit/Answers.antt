use Rattle.hg_machine.proofs.Floors as proved
use Rattle.hg_machine.proofs.plain.floors_prevent_the_limit.Goals as goal

pub returns : goal.returns
returns c = proved.floors_prevent_the_limit
