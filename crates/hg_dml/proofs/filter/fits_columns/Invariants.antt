use Rattle.std.proofs.Common.{◌≡◌, drop}
use Rattle.hg_model.specs.Tables as tables
use Rattle.hg_dml.proofs.filter.fits_columns.Given as goal

abbrev pub invariant-loop-place : goal.invariant-loop-place
invariant-loop-place l = tables.fits_columns (drop l.place l.columns) (drop l.place l.row) ≡ tables.fits_columns l.columns l.row
