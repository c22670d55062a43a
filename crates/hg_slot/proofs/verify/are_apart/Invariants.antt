use Rattle.hg_slot.specs.Slotted.{AreMarked, AreRight}
use Rattle.hg_slot.proofs.verify.are_apart.Given as goal

abbrev pub invariant-loop-slot : goal.invariant-loop-slot
invariant-loop-slot l = record { right : AreRight l.page l.slot; marked : AreMarked l.page l.slot l.marks }
