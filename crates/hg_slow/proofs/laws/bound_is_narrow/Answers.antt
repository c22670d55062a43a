use Rattle.hg_slow.proofs.Premises.{narrow_if_bound}
use Rattle.hg_slow.proofs.laws.bound_is_narrow.Goals as goal

pub returns : goal.returns
returns c = narrow_if_bound
