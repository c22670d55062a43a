use Rattle.hg_btree.proofs.Parting.{inner_halves}
use Rattle.hg_btree.proofs.halve.halve_high.Goals as goal

pub returns-clause-halves : goal.returns-clause-halves
returns-clause-halves c = λ first es t h.
    inner_halves c.args.page.now c.keep_lower.new.page c.take_upper.new.page c.args.level first es t c.in_ok-halves.halves c.halve_inner.new.bound.items h (c.in_ok-halves.ensures.halves c.args.level first es h)
    (c.in_ok-halves.ensures.room.0) (c.in_ok-halves.ensures.room.1) c.take_upper.ensures c.keep_lower.ensures
