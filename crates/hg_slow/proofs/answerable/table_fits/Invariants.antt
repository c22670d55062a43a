use Rattle.std.proofs.Common.{◌≡◌, drop}
use Rattle.std.specs.List.{list_all}
use Rattle.hg_model.specs.Tables as tables
use Rattle.hg_slow.specs.SlowTables as slow_tables
use Rattle.hg_slow.proofs.answerable.table_fits.Given as goal

abbrev pub invariant-loop-row : goal.invariant-loop-row
invariant-loop-row l = list_all (tables.fits_columns l.table.columns.items) (slow_tables.rows_seen (drop l.row-index l.row-items)) ≡ list_all (tables.fits_columns l.table.columns.items) (slow_tables.rows_seen l.row-items)
