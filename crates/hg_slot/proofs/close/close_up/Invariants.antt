use Rattle.hg_slot.specs.Changing.{Rebuilds}
use Rattle.hg_slot.proofs.close.close_up.Given as goal

abbrev pub invariant-loop-slot : goal.invariant-loop-slot
invariant-loop-slot l = Rebuilds l.page l.built l.slot
