use Rattle.hg_expr.proofs.evaluation.Evaluation.+value.Given as goal

abbrev pub decreases-value : goal.decreases-value
decreases-value l = l.n
