use Rattle.hg_value.specs.Coding.{IsHeld}
use Rattle.hg_value.specs.Keys.{working_key}
use Rattle.hg_value.proofs.KeyOrder.{working_key_cmp, columns_cmp, columns_tell}
use Rattle.hg_value.proofs.laws.keys_compare.Goals as goal

pub returns-clause-compare : goal.returns-clause-compare
returns-clause-compare c = working_key_cmp

pub returns-clause-columns : goal.returns-clause-columns
returns-clause-columns c = columns_cmp working_key IsHeld working_key_cmp

pub returns-clause-tell : goal.returns-clause-tell
returns-clause-tell c = columns_tell working_key IsHeld working_key_cmp
