use Rattle.std.proofs.Common.{◌≡◌, ◌≤◌, ◌*◌}
use Rattle.hg_slot.specs.Slotted.{lengths}
use Rattle.hg_slot.proofs.find.total_length.Given as goal

abbrev pub invariant-loop-slot : goal.invariant-loop-slot
invariant-loop-slot l = record { sum : l.total ≡ lengths l.page l.slot; small : l.total ≤ 65536 * l.slot }
