use Rattle.std.proofs.Common.{◌≡◌, drop}
use Rattle.std.specs.List.{list_any}
use Rattle.hg_model.specs.Tables.{same_name}
use Rattle.hg_bind.specs.Bound.{names_made}
use Rattle.hg_bind.proofs.create.is_new_column.Given as goal

abbrev pub invariant-loop-column : goal.invariant-loop-column
invariant-loop-column l = list_any (same_name l.name) (names_made (drop l.column-index l.columns)) ≡ list_any (same_name l.name) (names_made l.columns)
