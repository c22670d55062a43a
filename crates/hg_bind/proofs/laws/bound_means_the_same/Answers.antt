use Rattle.hg_bind.proofs.SameMeaning.{bound_means_the_same}
use Rattle.hg_bind.proofs.laws.bound_means_the_same.Goals as goal

pub returns : goal.returns
returns c = bound_means_the_same
