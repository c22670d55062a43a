use Rattle.std.proofs.Common.{◌≡◌, ◌≤◌, ◌*◌}
use Rattle.hg_base.specs.HeapStates.{sum_below, pages_for}
use Rattle.hg_base.specs.PlainSpaces.{state_of}
use Rattle.hg_base.proofs.plain_parts.PlainParts.held.Given as goal

abbrev pub invariant-loop-number : goal.invariant-loop-number
invariant-loop-number l = record {
  count : l.count ≡ sum_below (λ h. pages_for l.r ((state_of l.self).heaps.heap h)) l.number;
  few : l.count ≤ 65528 * l.number;
}
