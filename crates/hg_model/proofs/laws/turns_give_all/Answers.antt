use Rattle.hg_model.proofs.InTurn as proved
use Rattle.hg_model.proofs.laws.turns_give_all.Goals as goal

pub returns : goal.returns
returns c = proved.turns_give_all
