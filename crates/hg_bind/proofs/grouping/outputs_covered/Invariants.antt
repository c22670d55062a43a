use Rattle.std.proofs.Common.{◌≡◌, drop}
use Rattle.std.specs.List.{list_all}
use Rattle.hg_model.specs.declared.trees.Output.{Output}
use Rattle.hg_bind.specs.Selecting as selecting
use Rattle.hg_bind.proofs.grouping.outputs_covered.Given as goal

abbrev pub invariant-loop-output : goal.invariant-loop-output
invariant-loop-output l = list_all (λ (o : Output). selecting.covered_at l.covered o.node) (drop l.output-index l.outputs) ≡ list_all (λ (o : Output). selecting.covered_at l.covered o.node) l.outputs
