use Rattle.std.specs.Prelude.{◌≡◌, length}
use Rattle.std.proofs.Common.{arith}
use Rattle.hg_table.specs.Calls.{insert_mine, newborn}
use Rattle.hg_table.specs.Kept.{ready_inserted}
use Rattle.hg_table.proofs.Standing.{stands_inserted}
use Rattle.hg_table.proofs.tests.add.Goals as goal

pub returns-clause-ready : goal.returns-clause-ready
returns-clause-ready g c =
    let four : length c.args.row.now ≡ 4 = omega (arith, c.len.ensures.count, c.if-len-ne4.false) in
    ready_inserted (g.S.Pages.state c.args.space.now) (g.S.Pages.state c.insert.new.space) c.args.table.now c.insert.new.self 4
    (newborn c.args.row.now c.args.born.0 c.in_ok-place.place) (insert_mine c.args.table.now c.in_ok-place.place)
    c.in_ok-place.ensures.steady four c.in_ok-place.ensures.ok c.requires

pub returns-clause-there : goal.returns-clause-there
returns-clause-there g c =
    let four : length c.args.row.now ≡ 4 = omega (arith, c.len.ensures.count, c.if-len-ne4.false) in
    stands_inserted (g.S.Pages.state c.args.space.now) (g.S.Pages.state c.insert.new.space) c.args.table.now c.insert.new.self 4
    (newborn c.args.row.now c.args.born.0 c.in_ok-place.place)
    c.in_ok-place.ensures.steady.told four c.in_ok-place.ensures.ok c.requires
