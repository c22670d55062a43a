use Rattle.std.proofs.Common.{◌≡◌, ◌≤◌, ◌+◌, ◌*◌, ◌^◌, drop}
use Rattle.hg_model.specs.Binding as binding
use Rattle.hg_bind.proofs.lengths.aggregate_lengths.Given as goal

abbrev pub invariant-loop-place : goal.invariant-loop-place
invariant-loop-place l = record {
  rest : l.sum + binding.aggregate_lengths (drop l.place l.nodes) (drop l.place l.lengths) ≡ binding.aggregate_lengths l.nodes l.lengths;
  small : l.sum ≤ 2 ^ 32 * l.place;
}
