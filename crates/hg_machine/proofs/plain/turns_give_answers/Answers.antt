use Rattle.hg_machine.proofs.Answering as proved
use Rattle.hg_machine.proofs.plain.turns_give_answers.Goals as goal

pub returns : goal.returns
returns c = record { turns = proved.turns_give_answers; ended = proved.ended_turns_give_answers }
