use Rattle.std.proofs.Common.{◌≡◌, take, map}
use Rattle.hg_model.specs.Creation.{created_column}
use Rattle.hg_engine.proofs.create.made_columns.Given as goal

abbrev pub invariant-loop-column : goal.invariant-loop-column
invariant-loop-column l = l.made.items ≡ map created_column (take l.column-index l.columns)
