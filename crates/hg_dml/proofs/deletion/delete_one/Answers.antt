use Rattle.std.proofs.Common.{sym, ◌∙◌}
use Rattle.hg_dml.proofs.FilterLaws.{small-row}
use Rattle.hg_dml.proofs.deletion.delete_one.Goals as goal

pub passes-requires-clause-small : goal.passes-requires-clause-small
passes-requires-clause-small g c = small-row c.args.columns.now c.args.row.now (sym c.fits_columns.ensures ∙ c.if-not-fits_columns.false)
