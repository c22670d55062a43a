use Rattle.std.proofs.Common.{arith, refl}
use Rattle.hg_btree.specs.Entries.{Entry}
use Rattle.hg_btree.proofs.Splitting.{halves_last}
use Rattle.hg_btree.proofs.split.halve_leaf.Goals as goal

pub returns-clause-halves : goal.returns-clause-halves
returns-clause-halves c = λ link es h.
    let t : Entry = record { key = c.args.key.now; place = c.args.place; child = 0 } in
    let v = c.number_at-end.ensures.value in
    halves_last c.args.page.now link es t c.in_ok-spot.spot.at c.in_ok-spot.spot.after c.in_ok-spot.spot.there _ c.set_key.new.key.items h
    (c.in_ok-spot.ensures.spot 0 link es h) (let q = c.if-spot-end.false in omega arith) v v
    (let n = c.number_at.ensures.value in let f = c.number_at.ensures.small in omega arith) refl c.page_number_at-next.ensures c.set_key.ensures refl
