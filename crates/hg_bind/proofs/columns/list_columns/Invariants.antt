use Rattle.std.proofs.Common.{◌≡◌, [], drop, take, map}
use Rattle.hg_model.specs.ChangeBinding.{column_number, columns_cause}
use Rattle.hg_model.specs.Refusal.{first_cause}
use Rattle.hg_bind.proofs.columns.list_columns.Given as goal

abbrev pub invariant-loop-place : goal.invariant-loop-place
invariant-loop-place l = record {
  numbers : l.numbers.items ≡ map (column_number l.columns) (take l.place l.names);
  cause : first_cause (columns_cause l.columns (take l.place l.names) (drop l.place l.names)) ≡ first_cause (columns_cause l.columns [] l.names);
}
