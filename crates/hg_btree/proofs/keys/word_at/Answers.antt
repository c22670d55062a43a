use Rattle.std.proofs.Common.{◌∙◌}
use Rattle.hg_btree.proofs.Comparing.{word_is}
use Rattle.hg_btree.proofs.keys.word_at.Goals as goal

pub returns : goal.returns
returns c = c.from_be_bytes.ensures ∙ word_is c.args.bytes.now c.args.at c.requires
