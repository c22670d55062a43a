use Rattle.hg_worked.proofs.NeedsByHand as proved
use Rattle.hg_worked.proofs.rows.needs.Goals as goal

pub returns : goal.returns
returns c = record { intakes = proved.intakes_hold; commands = proved.command_needs_hold; join = proved.join_needs; counted_join = proved.counted_join_needs }
