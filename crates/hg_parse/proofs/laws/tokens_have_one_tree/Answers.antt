use Rattle.hg_parse.proofs.OneReading.{one_tree}
use Rattle.hg_parse.proofs.laws.tokens_have_one_tree.Goals as goal

pub returns : goal.returns
returns c = one_tree
