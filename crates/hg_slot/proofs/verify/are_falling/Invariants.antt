use Rattle.hg_slot.specs.Slotted.{AreFrom, AreRight}
use Rattle.hg_slot.proofs.verify.are_falling.Given as goal

abbrev pub invariant-loop-slot : goal.invariant-loop-slot
invariant-loop-slot l = record { right : AreRight l.page l.slot; below : AreFrom l.page l.slot l.below }
