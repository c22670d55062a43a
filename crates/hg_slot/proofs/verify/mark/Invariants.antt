use Rattle.std.proofs.Common.{◌-◌, ◌≤◌}
use Rattle.hg_slot.specs.Writing.{MarksAll}
use Rattle.hg_slot.proofs.verify.mark.Given as goal

abbrev pub invariant-loop-at : goal.invariant-loop-at
invariant-loop-at l = record { marks : MarksAll l.initial.marks l.marks l.from (l.at - l.from); behind : l.from ≤ l.at }
