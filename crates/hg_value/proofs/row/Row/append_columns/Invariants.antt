use Rattle.std.proofs.Common.{◌<◌, length, drop}
use Rattle.std.specs.List.{AllByRecursion}
use Rattle.hg_value.specs.RowParts.{row_values}
use Rattle.hg_value.proofs.Chosen.{HasPut}
use Rattle.hg_value.proofs.row.Row.append_columns.Given as goal

abbrev pub invariant-loop-column : goal.invariant-loop-column
invariant-loop-column l = record {
  put : HasPut l.initial.self l.self (row_values l.ends l.bytes) l.columns (drop l.column-index l.columns);
  columns : AllByRecursion (λ k. k < length l.ends) (drop l.column-index l.columns);
}
