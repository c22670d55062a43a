use Rattle.std.proofs.Common.{◌≤◌}
use Rattle.hg_slot.specs.Slotted.{IsLowestRecord}
use Rattle.hg_slot.proofs.find.lowest_record.Given as goal

abbrev pub invariant-loop-slot : goal.invariant-loop-slot
invariant-loop-slot l = record { lowest : IsLowestRecord l.page l.slot l.lowest; inside : l.lowest ≤ 4096 }
