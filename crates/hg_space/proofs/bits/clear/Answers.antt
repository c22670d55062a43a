use Rattle.std.proofs.Common.{refl}
use Rattle.hg_space.proofs.BitLemmas.{clears-word, had-bits}
use Rattle.hg_space.proofs.bits.clear.Goals as goal

pub returns-clause-changed : goal.returns-clause-changed
returns-clause-changed c = clears-word c.args.words.now c.args.bit _ c.requires refl

pub returns-clause-had : goal.returns-clause-had
returns-clause-had c = had-bits _ _ _ refl
