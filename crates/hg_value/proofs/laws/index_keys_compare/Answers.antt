use Rattle.hg_value.specs.Keys.{index_key}
use Rattle.hg_value.specs.Laws.{IsIndexed}
use Rattle.hg_value.proofs.KeyOrder.{index_key_cmp, columns_cmp, columns_tell}
use Rattle.hg_value.proofs.laws.index_keys_compare.Goals as goal

pub returns-clause-compare : goal.returns-clause-compare
returns-clause-compare c = index_key_cmp

pub returns-clause-columns : goal.returns-clause-columns
returns-clause-columns c = columns_cmp index_key IsIndexed index_key_cmp

pub returns-clause-tell : goal.returns-clause-tell
returns-clause-tell c = columns_tell index_key IsIndexed index_key_cmp
