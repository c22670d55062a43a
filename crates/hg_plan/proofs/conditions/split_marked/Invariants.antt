use Rattle.std.proofs.Common.{◌≤◌, length}
use Rattle.hg_plan.proofs.Splitting.{Splits}
use Rattle.hg_plan.proofs.conditions.split_marked.Given as goal

abbrev pub invariant-loop-k : goal.invariant-loop-k
invariant-loop-k l = record {
  within : l.k ≤ length l.nodes;
  splits : Splits l.nodes l.fn.marks l.marks l.k;
}

abbrev pub decreases-loop-k : goal.decreases-loop-k
decreases-loop-k l = l.k
