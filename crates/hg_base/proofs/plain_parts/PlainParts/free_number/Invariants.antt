use Rattle.std.proofs.Common.{◌≡◌}
use Rattle.hg_base.specs.HeapStates.{sum_below, one_heap}
use Rattle.hg_base.specs.PlainSpaces.{state_of}
use Rattle.hg_base.proofs.plain_parts.PlainParts.free_number.Given as goal

abbrev pub invariant-loop-number : goal.invariant-loop-number
invariant-loop-number l = sum_below (λ h. one_heap ((state_of l.self).heaps.heap h)) l.number ≡ l.number
