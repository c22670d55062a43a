use Rattle.hg_parse.proofs.OneReading.{reads_by_descent}
use Rattle.hg_parse.proofs.laws.a_line_is_read_by_descent.Goals as goal

pub returns : goal.returns
returns c = reads_by_descent
