use Rattle.hg_expr.proofs.evaluation.Evaluation.+truth.Given as goal

abbrev pub decreases-truth : goal.decreases-truth
decreases-truth l = l.n
