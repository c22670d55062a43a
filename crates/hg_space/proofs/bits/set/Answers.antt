use Rattle.std.proofs.Common.{refl}
use Rattle.hg_space.proofs.BitLemmas.{sets-word}
use Rattle.hg_space.proofs.bits.set.Goals as goal

pub returns-clause-changed : goal.returns-clause-changed
returns-clause-changed c = sets-word c.args.words.now c.args.bit _ c.requires refl
