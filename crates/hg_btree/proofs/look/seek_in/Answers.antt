use Rattle.std.proofs.Common.{subst}
use Rattle.hg_btree.specs.Entries.{Entry}
use Rattle.hg_btree.specs.Nodes.{IsFirst}
use Rattle.hg_btree.specs.Looking.{SeeksOn}
use Rattle.hg_btree.proofs.look.seek_in.Goals as goal

pub returns-in-Some-clause-seeks : goal.returns-in-Some-clause-seeks
returns-in-Some-clause-seeks c = λ link es h.
    let t : Entry = record { key = c.args.key.now; place = c.args.place; child = 0 } in
    subst (λ o. IsFirst es t o c.first_from.new.out.items) c.in-Some.is (c.in_ok-found.ensures.first 0 link es h)

pub returns-in-None-clause-seeks : goal.returns-in-None-clause-seeks
returns-in-None-clause-seeks c = λ link es h.
    let t : Entry = record { key = c.args.key.now; place = c.args.place; child = 0 } in
    subst (λ k. SeeksOn es k t c.first_from.new.out.items c.next_leaf.result) h.link_is
    (c.next_leaf.ensures es t c.first_from.new.out.items (subst (λ o. IsFirst es t o c.first_from.new.out.items) c.in-None.is (c.in_ok-found.ensures.first 0 link es h)))
