use Rattle.hg_expr.proofs.Telling.{tables_so_far_tell}
use Rattle.hg_expr.proofs.laws.tables_so_far_tell.Goals as goal

pub returns : goal.returns
returns c = tables_so_far_tell
