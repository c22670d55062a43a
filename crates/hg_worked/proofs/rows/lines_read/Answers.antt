use Rattle.hg_worked.proofs.LinesByHand.{lines_hold}
use Rattle.hg_worked.proofs.rows.lines_read.Goals as goal

pub returns : goal.returns
returns c = lines_hold
