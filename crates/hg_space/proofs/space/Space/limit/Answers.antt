use Rattle.hg_space.proofs.KeptLemmas.{limit-seen}
use Rattle.hg_space.proofs.space.Space.limit.Goals as goal

pub returns : goal.returns
returns c = limit-seen _ _ c.self.view_is
