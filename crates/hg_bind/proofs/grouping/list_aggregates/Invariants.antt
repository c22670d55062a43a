use Rattle.std.proofs.Common.{◌≡◌, [], drop, length}
use Rattle.hg_model.specs.Binding as binding
use Rattle.hg_bind.proofs.grouping.list_aggregates.Given as goal

abbrev pub invariant-loop-node : goal.invariant-loop-node
invariant-loop-node l = record {
  rest : binding.aggregates_from (drop l.node-index l.nodes) l.has.items ≡ binding.aggregates_from l.nodes [];
  count : length l.has.items ≡ l.node-index;
}
