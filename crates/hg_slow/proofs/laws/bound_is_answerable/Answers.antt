use Rattle.hg_slow.proofs.Premises.{narrow_if_bound}
use Rattle.hg_slow.proofs.laws.bound_is_answerable.Goals as goal

pub returns : goal.returns
returns c = λ tables q texts shape bound rows few. record { tree = shape.tree; texts_fit = shape.texts_fit; narrow = narrow_if_bound tables q bound; rows = rows; few = few }
