use Rattle.std.proofs.Common.{◌≡◌, ◌++◌, drop, map}
use Rattle.hg_model.specs.Evaluation as evaluation
use Rattle.hg_slow.proofs.slow_groups.values_at.Given as goal

abbrev pub invariant-loop-node : goal.invariant-loop-node
invariant-loop-node l = l.values.items ++ map (evaluation.value_of l.evaluated) (drop l.node-index l.nodes) ≡ map (evaluation.value_of l.evaluated) l.nodes
