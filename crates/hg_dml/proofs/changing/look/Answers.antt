use Rattle.std.proofs.Common.{sym, ◌∙◌}
use Rattle.hg_dml.proofs.FilterLaws.{small-row}
use Rattle.hg_dml.proofs.MakingLaws.{fits-length}
use Rattle.hg_dml.proofs.changing.look.Goals as goal

pub passes-requires-clause-small : goal.passes-requires-clause-small
passes-requires-clause-small c = small-row c.args.change.now.columns.now c.args.room.now.row (sym c.fits_columns.ensures ∙ c.if-not-fits_columns.false)

pub make_row-requires-clause-small : goal.make_row-requires-clause-small
make_row-requires-clause-small c = small-row c.args.change.now.columns.now c.args.room.now.row (sym c.fits_columns.ensures ∙ c.if-not-fits_columns.false)

pub make_row-requires-clause-as_long : goal.make_row-requires-clause-as_long
make_row-requires-clause-as_long c = fits-length c.args.change.now.columns.now c.args.room.now.row (sym c.fits_columns.ensures ∙ c.if-not-fits_columns.false)
