use Rattle.std.proofs.Common.{arith}
use Rattle.hg_dml.proofs.tuples.look_at.Goals as goal

pub returns-in-Text-clause-small : goal.returns-in-Text-clause-small
returns-in-Text-clause-small c = omega (arith, c.part.ensures.short)
