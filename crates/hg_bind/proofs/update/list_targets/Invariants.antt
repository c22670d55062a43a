use Rattle.std.proofs.Common.{◌≡◌, [], drop, take, map}
use Rattle.hg_model.specs.ChangeBinding.{column_number, columns_cause}
use Rattle.hg_model.specs.Refusal.{first_cause}
use Rattle.hg_bind.specs.Bound.{names_set}
use Rattle.hg_bind.proofs.update.list_targets.Given as goal

abbrev pub invariant-loop-place : goal.invariant-loop-place
invariant-loop-place l = record {
  targets : l.targets.items ≡ map (column_number l.columns) (take l.place (names_set l.sets));
  cause : first_cause (columns_cause l.columns (take l.place (names_set l.sets)) (drop l.place (names_set l.sets))) ≡ first_cause (columns_cause l.columns [] (names_set l.sets));
}
