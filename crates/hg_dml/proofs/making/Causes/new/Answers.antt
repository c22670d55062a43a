use Rattle.hg_dml.proofs.MakingLaws.{no-causes}
use Rattle.hg_dml.proofs.making.Causes.new.Goals as goal

pub returns : goal.returns
returns c = λ columns. no-causes columns
