use Rattle.std.proofs.Common.{sym, subst, arith}
use Rattle.hg_btree.specs.Nodes.{IsNode}
use Rattle.hg_btree.proofs.Splitting.{linked}
use Rattle.hg_btree.proofs.split.set_link.Goals as goal

pub returns : goal.returns
returns c = λ level old es h.
    subst (λ p. IsNode c.args.inner p level c.args.link es) (sym c.put_u32.ensures)
    (linked c.args.inner c.args.page.now level old c.args.link c.link_place.result es h c.link_place.ensures (omega arith))
