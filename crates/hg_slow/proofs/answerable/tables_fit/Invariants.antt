use Rattle.std.proofs.Common.{◌≡◌, drop}
use Rattle.std.specs.List.{list_all}
use Rattle.hg_model.specs.Tables as tables
use Rattle.hg_slow.specs.SlowTables as slow_tables
use Rattle.hg_slow.proofs.answerable.tables_fit.Given as goal

abbrev pub invariant-loop-table : goal.invariant-loop-table
invariant-loop-table l = list_all tables.table_fits (slow_tables.tables_of (drop l.table-index l.table-items)) ≡ list_all tables.table_fits (slow_tables.tables_of l.table-items)
