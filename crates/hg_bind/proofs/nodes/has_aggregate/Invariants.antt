use Rattle.std.proofs.Common.{◌≡◌, drop}
use Rattle.std.specs.List.{list_any}
use Rattle.hg_model.specs.SelectMeaning.{is_aggregate}
use Rattle.hg_bind.proofs.nodes.has_aggregate.Given as goal

abbrev pub invariant-loop-node : goal.invariant-loop-node
invariant-loop-node l = list_any is_aggregate (drop l.node-index l.nodes) ≡ list_any is_aggregate l.nodes
