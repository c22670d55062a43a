use Rattle.hg_machine.proofs.Owing as proved
use Rattle.hg_machine.proofs.plain.turns_take_what_they_give.Goals as goal

pub returns : goal.returns
returns c = proved.turns_take_what_they_give
