use Rattle.hg_value.proofs.Codings.{length-coding, length-coded, one_row}
use Rattle.hg_value.proofs.laws.codings_tell.Goals as goal

pub returns-clause-value : goal.returns-clause-value
returns-clause-value c = length-coding

pub returns-clause-row : goal.returns-clause-row
returns-clause-row c = length-coded

pub returns-clause-tell : goal.returns-clause-tell
returns-clause-tell c = one_row
