use Rattle.hg_pool.proofs.Leaving.{none-same, none-resized}
use Rattle.hg_pool.proofs.tests.resize.Goals as goal

pub returns-in-Err-clause-none_out : goal.returns-in-Err-clause-none_out
returns-in-Err-clause-none_out c = none-same _ _ c.requires.none_out c.in-Err.ensures.err

pub returns-in-Ok-clause-none_out : goal.returns-in-Ok-clause-none_out
returns-in-Ok-clause-none_out c = none-resized _ _ _ c.requires.none_out c.in-Ok.ensures.ok
