use Rattle.hg_slow.proofs.ReadSelects.{reads_well}
use Rattle.hg_slow.proofs.laws.read_is_well_formed.Goals as goal

pub returns-clause-alone : goal.returns-clause-alone
returns-clause-alone c = λ max line q texts read. reads_well read

pub returns-clause-opened : goal.returns-clause-opened
returns-clause-opened c = λ max line cursor q texts read. reads_well read
