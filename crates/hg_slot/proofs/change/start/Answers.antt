use Rattle.std.proofs.Common.{refl, ◌∙◌}
use Rattle.hg_slot.proofs.Steps.{started}
use Rattle.hg_slot.proofs.change.start.Goals as goal

pub returns : goal.returns
returns c = started c.clear.new.bytes _ c.set_number.new.page c.set_number-2.new.page (c.clear.auto.bytes ∙ c.requires) c.clear.ensures refl c.set_number.ensures c.set_number-2.ensures
