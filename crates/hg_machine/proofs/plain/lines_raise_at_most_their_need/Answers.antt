use Rattle.hg_machine.proofs.Raising as proved
use Rattle.hg_machine.proofs.plain.lines_raise_at_most_their_need.Goals as goal

pub returns : goal.returns
returns c = proved.lines_raise_at_most_their_need
