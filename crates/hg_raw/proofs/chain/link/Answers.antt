use Rattle.hg_raw.proofs.Chains.{unlinked}
use Rattle.hg_raw.proofs.chain.link.Goals as goal

pub returns-else-from-ne-NIL : goal.returns-else-from-ne-NIL
returns-else-from-ne-NIL c = unlinked c.args.words.now c.requires.size c.args.from c.args.at c.args.to c.requires.no_nil c.if-from-ne-NIL.false
