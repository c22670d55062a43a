use Rattle.std.proofs.Common.{◌≡◌, drop}
use Rattle.hg_model.specs.Tables as tables
use Rattle.hg_slow.specs.SlowTables as slow_tables
use Rattle.hg_slow.proofs.scope.find_table.Given as goal

abbrev pub invariant-loop-table : goal.invariant-loop-table
invariant-loop-table l = tables.table_named (slow_tables.tables_of (drop l.table-index l.table-items)) l.name ≡ tables.table_named (slow_tables.tables_of l.table-items) l.name
