use Rattle.std.proofs.Common.{◌≡◌, drop, take, map}
use Rattle.hg_model.specs.ChangeBinding.{column_number}
use Rattle.hg_model.specs.Creation.{unknown_column}
use Rattle.hg_bind.proofs.create_index.list_known.Given as goal

abbrev pub invariant-loop-name : goal.invariant-loop-name
invariant-loop-name l = record {
  numbers : l.numbers.items ≡ map (column_number l.columns) (take l.name-index l.names);
  cause : unknown_column l.columns (drop l.name-index l.names) ≡ unknown_column l.columns l.names;
}
