use Rattle.std.proofs.Common.{◌≡◌, drop}
use Rattle.std.specs.List.{list_all}
use Rattle.hg_model.specs.Evaluation.{truth_of}
use Rattle.hg_model.specs.NullLogic.{is_true}
use Rattle.hg_expr.specs.Over.{values_over}
use Rattle.hg_expr.proofs.evaluation.Evaluation.keeps.Given as goal

abbrev pub invariant-loop-condition : goal.invariant-loop-condition
invariant-loop-condition l =
    list_all (λ n. is_true (truth_of (values_over l.self.texts.now l.self.slots.now l.self.nodes.now l.self.row.now) n)) (drop l.condition-index l.conditions)
    ≡ list_all (λ n. is_true (truth_of (values_over l.self.texts.now l.self.slots.now l.self.nodes.now l.self.row.now) n)) l.conditions
