use Rattle.std.proofs.Common.{◌≡◌, ◌≤◌, ◌+◌, ◌*◌, ◌^◌, drop}
use Rattle.std.specs.List.{sum_by}
use Rattle.std.specs.Prelude.{slice_index}
use Rattle.hg_bind.proofs.lengths.group_length.Given as goal

abbrev pub invariant-loop-node : goal.invariant-loop-node
invariant-loop-node l = record {
  rest : l.sum + sum_by (slice_index l.lengths) (drop l.node-index l.group) ≡ sum_by (slice_index l.lengths) l.group;
  small : l.sum ≤ 2 ^ 32 * l.node-index;
}
