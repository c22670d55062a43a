use Rattle.hg_machine.specs.Plain.Run.{dropped}
use Rattle.hg_engine.proofs.engine.EngineMachine.drop_command.Goals as goal

pub invariant_of-self : goal.invariant_of-self
invariant_of-self g c = let old = c.self.invariant in (dropped old.0, c.drop_command.ensures.drops.to old.0 old.1)
