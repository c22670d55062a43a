use Rattle.std.specs.Prelude.{◌+◌, ◌-◌, drop}
use Rattle.std.proofs.Common.{arith, refl, length-take}
use Rattle.hg_btree.proofs.Splitting.{halves_middle}
use Rattle.hg_btree.proofs.split.halve_middle.Goals as goal

pub set_key-requires : goal.set_key-requires
set_key-requires c =
    let e = c.in_ok-cut.ensures.entry in
    let l = length-take (c.in_ok-cut.cut.after - (c.in_ok-cut.cut.at + 10)) (drop (c.in_ok-cut.cut.at + 10) c.args.page.now) in
    omega arith

pub returns-clause-halves : goal.returns-clause-halves
returns-clause-halves c = λ link es t h.
    let e = c.in_ok-cut.ensures.entry in
    halves_middle c.args.page.now link es t _ c.in_ok-cut.cut.after c.set_key.new.key.items h (c.in_ok-cut.ensures.cut 0 link es h)
    (e.0) (refl) (let b = c.saturating_sub.ensures in let d = c.number_at-total.ensures.value in let f = c.number_at-total.ensures.small in omega arith)
    c.set_key.ensures c.place_of.ensures c.page_number_at.ensures
