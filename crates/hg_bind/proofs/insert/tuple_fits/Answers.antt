use Rattle.std.proofs.Common.{sym}
use Rattle.hg_bind.proofs.Tuples.{uneven}
use Rattle.hg_bind.proofs.insert.tuple_fits.Goals as goal

pub returns-then-targets-tuple : goal.returns-then-targets-tuple
returns-then-targets-tuple c = sym (uneven c.args.columns.now c.args.targets.now c.args.tuple.now c.if-targets-tuple.true)
