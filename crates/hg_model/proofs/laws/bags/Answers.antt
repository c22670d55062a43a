use Rattle.hg_model.proofs.InTurn as proved
use Rattle.hg_model.proofs.laws.bags.Goals as goal

pub returns : goal.returns
returns g c = record { equal = proved.bags_equal _; counts = proved.bags_count_alike _; append = proved.bags_append _; take_one = proved.bags_take_one _ }
