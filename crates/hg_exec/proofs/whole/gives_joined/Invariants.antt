use Rattle.hg_expr.specs.Over.{values_over}
use Rattle.hg_model.specs.Evaluation.{value_of}
use Rattle.hg_model.specs.declared.trees.Output.{Output}
use Rattle.hg_exec.proofs.Taking.{IsSameFrom}
use Rattle.hg_exec.proofs.whole.gives_joined.Given as goal

abbrev pub invariant-loop-place : goal.invariant-loop-place
invariant-loop-place l =
    IsSameFrom (λ (o : Output). value_of (values_over l.statement.texts.now l.statement.slots.now l.statement.nodes.now l.joined) o.node) l.statement.outputs.now l.joined l.place
