use Rattle.hg_base.proofs.PlainSteps.{start-no_pins}
use Rattle.hg_base.proofs.plain.PlainSpace.new.Goals as goal

pub returns-clause-no_pins : goal.returns-clause-no_pins
returns-clause-no_pins c = start-no_pins _ c.new.ensures.start
