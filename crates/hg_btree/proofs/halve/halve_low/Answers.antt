use Rattle.hg_btree.specs.Entries.{Entry}
use Rattle.hg_btree.proofs.Parting.{leaf_halves}
use Rattle.hg_btree.proofs.halve.halve_low.Goals as goal

pub returns-clause-halves : goal.returns-clause-halves
returns-clause-halves c = λ link es h.
    let t : Entry = record { key = c.args.key.now; place = c.args.place; child = 0 } in
    leaf_halves c.args.page.now c.keep_lower.new.page c.take_upper.new.page link es t c.in_ok-halves.halves c.halve_leaf.new.bound.items h (c.in_ok-halves.ensures.halves link es h)
    (c.in_ok-halves.ensures.room.0) (c.in_ok-halves.ensures.room.1) c.take_upper.ensures c.keep_lower.ensures
