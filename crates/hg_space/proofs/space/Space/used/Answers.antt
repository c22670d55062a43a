use Rattle.hg_space.proofs.KeptLemmas.{sound-seen}
use Rattle.hg_space.proofs.space.Space.used.Goals as goal

pub returns-clause-sound : goal.returns-clause-sound
returns-clause-sound c = sound-seen _ _ c.self.view_is c.self.invariant.0.within
