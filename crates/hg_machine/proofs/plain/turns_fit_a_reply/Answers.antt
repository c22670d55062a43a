use Rattle.hg_machine.proofs.TurnRooms as proved
use Rattle.hg_machine.proofs.plain.turns_fit_a_reply.Goals as goal

pub returns : goal.returns
returns c = proved.turns_fit
