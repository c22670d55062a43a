use Rattle.std.proofs.Common.{◌≡◌, List, length}
use Rattle.hg_model.specs.Evaluation.{value_at}
use Rattle.hg_model.specs.declared.values.Value.{Value}
use Rattle.hg_exec.proofs.Taking.{IsSameFrom}
use Rattle.hg_exec.proofs.whole.are_all.Given as goal

abbrev pub invariant-loop-place : goal.invariant-loop-place
invariant-loop-place l = (row : List Value) → length row ≡ l.count → IsSameFrom (value_at row) l.columns row l.place
