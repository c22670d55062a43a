use Rattle.hg_value.proofs.Lengths.{length-index_key, length-working_key}
use Rattle.hg_value.proofs.laws.keys_are_as_long.Goals as goal

pub returns-clause-index : goal.returns-clause-index
returns-clause-index c = length-index_key

pub returns-clause-working : goal.returns-clause-working
returns-clause-working c = length-working_key
