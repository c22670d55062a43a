use Rattle.hg_bind.proofs.ReadKeys.{reads_apart}
use Rattle.hg_bind.proofs.laws.read_keys_stand_apart.Goals as goal

pub returns-clause-alone : goal.returns-clause-alone
returns-clause-alone c = λ max line q texts read. reads_apart read

pub returns-clause-opened : goal.returns-clause-opened
returns-clause-opened c = λ max line cursor q texts read. reads_apart read
