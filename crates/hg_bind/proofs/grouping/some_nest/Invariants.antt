use Rattle.std.proofs.Common.{◌≡◌, drop}
use Rattle.std.specs.List.{list_any}
use Rattle.hg_model.specs.Binding as binding
use Rattle.hg_bind.proofs.grouping.some_nest.Given as goal

abbrev pub invariant-loop-node : goal.invariant-loop-node
invariant-loop-node l = list_any (binding.nests_aggregate l.has) (drop l.node-index l.nodes) ≡ list_any (binding.nests_aggregate l.has) l.nodes
