use Rattle.hg_pool.proofs.Leaving.{none-released}
use Rattle.hg_pool.proofs.tests.give_back.Goals as goal

pub returns-clause-none_out : goal.returns-clause-none_out
returns-clause-none_out c = none-released _ _ _ c.requires.none_out c.release.ensures.after
