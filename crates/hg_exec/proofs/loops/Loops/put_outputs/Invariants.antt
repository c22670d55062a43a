use Rattle.std.proofs.Common.{◌≡◌, ◌++◌, drop, map}
use Rattle.hg_expr.specs.Over.{values_over}
use Rattle.hg_model.specs.Evaluation.{value_of}
use Rattle.hg_model.specs.declared.trees.Output.{Output}
use Rattle.hg_exec.specs.Joins.{form_of, output_of}
use Rattle.hg_exec.proofs.loops.Loops.put_outputs.Given as goal

abbrev pub invariant-loop-output : goal.invariant-loop-output
invariant-loop-output l =
    l.out ++ map (λ (o : Output). value_of (values_over l.statement.texts.now l.statement.slots.now l.statement.nodes.now l.self.joined) o.node) (drop l.output-index l.statement.outputs.now)
    ≡ output_of (form_of l.statement) l.self.joined
