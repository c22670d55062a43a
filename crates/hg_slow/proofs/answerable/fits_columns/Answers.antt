use Rattle.std.proofs.Common.{sym}
use Rattle.hg_slow.proofs.Answering as answering
use Rattle.hg_slow.proofs.answerable.fits_columns.Goals as goal

pub returns-then-columns-row : goal.returns-then-columns-row
returns-then-columns-row c = sym (answering.unlike_lengths c.args.columns.now c.args.row.now c.if-columns-row.true)
