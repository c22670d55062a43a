use Rattle.hg_machine.proofs.Turns as proved
use Rattle.hg_machine.proofs.plain.turns_end.Goals as goal

pub returns : goal.returns
returns c = proved.turns_end
