use Rattle.hg_parse.proofs.OneReading.{has_one_reading}
use Rattle.hg_parse.proofs.laws.a_line_has_one_reading.Goals as goal

pub returns : goal.returns
returns c = has_one_reading
