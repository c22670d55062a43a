use Rattle.std.proofs.Common.{arith}
use Rattle.hg_space.proofs.BitLemmas.{first-in}
use Rattle.hg_space.proofs.bits.first_in.Goals as goal

pub returns-clause-first : goal.returns-clause-first
returns-clause-first c = first-in c.args.words.now c.args.word c.requires.not_zero (omega (arith, c.type_inv.words c.args.word))
