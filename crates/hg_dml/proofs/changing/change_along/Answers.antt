use Rattle.std.proofs.Common.{subst, arith}
use Rattle.std.specs.Prelude.{◌-◌, ◌*◌, ◌≤◌}
use Rattle.hg_table.specs.Marks.{committed}
use Rattle.hg_dml.specs.Making.{goes_by, stand}
use Rattle.hg_dml.proofs.AsideLaws.{has-run}
use Rattle.hg_dml.proofs.ChangeLaws.{change-begins, side-numbers, change-found, change-ends, change-failed, change-step, change-stops, change-over}
use Rattle.hg_dml.proofs.WalkLaws.{counted-few, one-less, way-on, there-is, row-fits}
use Rattle.hg_dml.proofs.changing.change_along.Goals as goal

pub loop-turn-init : goal.loop-turn-init
loop-turn-init g c = record {
  few = omega arith;
  changed = change-begins (g.S.Pages.state c.args.space.now) c.args.table c.args.change.now (committed c.args.stamps.now) (c.args.stamp.0 - 1) c.args.stamp.0 c.args.run.now c.args.causes.now c.requires.out c.requires.run c.requires.causes;
}

pub next_visible-requires-clause-way : goal.next_visible-requires-clause-way
next_visible-requires-clause-way g c =
    way-on (g.S.Pages.state c.args.space.now) c.args.table c.args.change.now.columns.now (committed c.args.stamps.now) (c.args.stamp.0 - 1) c.args.stamp.0 (goes_by c.args.change.now)
    (g.S.Pages.state c.loop-turn.space) (stand c.loop-turn.causes) c.loop-turn.at c.loop-turn._turn c.loop-turn.invariant.changed.gone c.requires.whole c.loop-turn.invariant.changed.walk

pub returns-in-Err-clause-err : goal.returns-in-Err-clause-err
returns-in-Err-clause-err g c =
    change-failed (g.S.Pages.state c.args.space.now) c.args.table c.args.change.now (committed c.args.stamps.now) (c.args.stamp.0 - 1) c.args.stamp.0 (g.S.Pages.state c.loop-turn.space) (g.S.Pages.state c.next_visible.new.space) c.loop-turn.run c.loop-turn.causes c.loop-turn.at c.loop-turn._turn c.loop-turn.count c.loop-turn.invariant.changed
    c.next_visible.ensures.steady c.next_visible.ensures.takes_none c.in-Err.fault c.in-Err.ensures.fault c.in-Err.ensures.cause c.in-Err.ensures.page

pub returns-in_default-clause-ok : goal.returns-in_default-clause-ok
returns-in_default-clause-ok g c =
    change-ends (g.S.Pages.state c.args.space.now) c.args.table c.args.change.now (committed c.args.stamps.now) (c.args.stamp.0 - 1) c.args.stamp.0 (g.S.Pages.state c.loop-turn.space) (g.S.Pages.state c.next_visible.new.space) c.loop-turn.run c.loop-turn.causes c.loop-turn.at c.loop-turn._turn c.loop-turn.count c.loop-turn.invariant.changed
    c.next_visible.ensures.steady c.next_visible.ensures.takes_none c.in-Ok.found c.loop-turn.room.row c.next_visible.new.out c.in_default.is
    (one-less c.args.stamp.0 c.requires.stamp) c.in-Ok.ensures.seen c.in-Ok.ensures.cause

pub change_one-requires-clause-chain : goal.change_one-requires-clause-chain
change_one-requires-clause-chain g c =
    let found = change-found (g.S.Pages.state c.args.space.now) c.args.table c.args.change.now (committed c.args.stamps.now) (c.args.stamp.0 - 1) c.args.stamp.0 (g.S.Pages.state c.loop-turn.space) (g.S.Pages.state c.next_visible.new.space) c.loop-turn.run c.loop-turn.causes c.loop-turn.at c.loop-turn._turn c.loop-turn.count c.loop-turn.invariant.changed
    c.next_visible.ensures.steady c.next_visible.ensures.takes_none c.in-Ok.found c.in-Some.place c.loop-turn.room.row c.next_visible.new.out c.in-Some.is
    c.in-Ok.ensures.seen c.in-Ok.ensures.on_pages c.in-Ok.ensures.cause in
    (found.side.temp, found.side.aside.chain)

pub change_one-requires-clause-run : goal.change_one-requires-clause-run
change_one-requires-clause-run g c =
    let found = change-found (g.S.Pages.state c.args.space.now) c.args.table c.args.change.now (committed c.args.stamps.now) (c.args.stamp.0 - 1) c.args.stamp.0 (g.S.Pages.state c.loop-turn.space) (g.S.Pages.state c.next_visible.new.space) c.loop-turn.run c.loop-turn.causes c.loop-turn.at c.loop-turn._turn c.loop-turn.count c.loop-turn.invariant.changed
    c.next_visible.ensures.steady c.next_visible.ensures.takes_none c.in-Ok.found c.in-Some.place c.loop-turn.room.row c.next_visible.new.out c.in-Some.is
    c.in-Ok.ensures.seen c.in-Ok.ensures.on_pages c.in-Ok.ensures.cause in
    has-run (g.S.Pages.state c.next_visible.new.space) c.loop-turn.run found.side.temp found.side.rows found.side.aside

pub change_one-requires-clause-numbers : goal.change_one-requires-clause-numbers
change_one-requires-clause-numbers g c =
    let found = change-found (g.S.Pages.state c.args.space.now) c.args.table c.args.change.now (committed c.args.stamps.now) (c.args.stamp.0 - 1) c.args.stamp.0 (g.S.Pages.state c.loop-turn.space) (g.S.Pages.state c.next_visible.new.space) c.loop-turn.run c.loop-turn.causes c.loop-turn.at c.loop-turn._turn c.loop-turn.count c.loop-turn.invariant.changed
    c.next_visible.ensures.steady c.next_visible.ensures.takes_none c.in-Ok.found c.in-Some.place c.loop-turn.room.row c.next_visible.new.out c.in-Some.is
    c.in-Ok.ensures.seen c.in-Ok.ensures.on_pages c.in-Ok.ensures.cause in
    side-numbers (g.S.Pages.state c.args.space.now) c.args.table c.args.change.now (committed c.args.stamps.now) (c.args.stamp.0 - 1) c.args.stamp.0 (g.S.Pages.state c.next_visible.new.space) c.loop-turn.run c.loop-turn.causes found.gone c.requires.numbers found.side

pub change_one-requires-clause-there : goal.change_one-requires-clause-there
change_one-requires-clause-there g c = λ told.
    let found = change-found (g.S.Pages.state c.args.space.now) c.args.table c.args.change.now (committed c.args.stamps.now) (c.args.stamp.0 - 1) c.args.stamp.0 (g.S.Pages.state c.loop-turn.space) (g.S.Pages.state c.next_visible.new.space) c.loop-turn.run c.loop-turn.causes c.loop-turn.at c.loop-turn._turn c.loop-turn.count c.loop-turn.invariant.changed
    c.next_visible.ensures.steady c.next_visible.ensures.takes_none c.in-Ok.found c.in-Some.place c.loop-turn.room.row c.next_visible.new.out c.in-Some.is
    c.in-Ok.ensures.seen c.in-Ok.ensures.on_pages c.in-Ok.ensures.cause in
    there-is (g.S.Pages.state c.args.space.now) c.args.table c.args.change.now.columns.now (committed c.args.stamps.now) (c.args.stamp.0 - 1) c.args.stamp.0 (goes_by c.args.change.now)
    (g.S.Pages.state c.next_visible.new.space) (stand c.loop-turn.causes) c.in-Some.place c.next_visible.new.out c.loop-turn._turn found.gone found.next c.requires.whole told

pub change_one-requires-clause-fits : goal.change_one-requires-clause-fits
change_one-requires-clause-fits g c = λ told.
    let found = change-found (g.S.Pages.state c.args.space.now) c.args.table c.args.change.now (committed c.args.stamps.now) (c.args.stamp.0 - 1) c.args.stamp.0 (g.S.Pages.state c.loop-turn.space) (g.S.Pages.state c.next_visible.new.space) c.loop-turn.run c.loop-turn.causes c.loop-turn.at c.loop-turn._turn c.loop-turn.count c.loop-turn.invariant.changed
    c.next_visible.ensures.steady c.next_visible.ensures.takes_none c.in-Ok.found c.in-Some.place c.loop-turn.room.row c.next_visible.new.out c.in-Some.is
    c.in-Ok.ensures.seen c.in-Ok.ensures.on_pages c.in-Ok.ensures.cause in
    row-fits (g.S.Pages.state c.args.space.now) c.args.table c.args.change.now.columns.now (committed c.args.stamps.now) (c.args.stamp.0 - 1) c.args.stamp.0 (goes_by c.args.change.now)
    (g.S.Pages.state c.next_visible.new.space) (stand c.loop-turn.causes) c.in-Some.place c.next_visible.new.out c.loop-turn._turn found.gone found.next c.requires.whole told

pub returns-in-Err-change_one-clause-err : goal.returns-in-Err-change_one-clause-err
returns-in-Err-change_one-clause-err g c =
    let found = change-found (g.S.Pages.state c.args.space.now) c.args.table c.args.change.now (committed c.args.stamps.now) (c.args.stamp.0 - 1) c.args.stamp.0 (g.S.Pages.state c.loop-turn.space) (g.S.Pages.state c.next_visible.new.space) c.loop-turn.run c.loop-turn.causes c.loop-turn.at c.loop-turn._turn c.loop-turn.count c.loop-turn.invariant.changed
    c.next_visible.ensures.steady c.next_visible.ensures.takes_none c.in-Ok.found c.in-Some.place c.loop-turn.room.row c.next_visible.new.out c.in-Some.is
    c.in-Ok.ensures.seen c.in-Ok.ensures.on_pages c.in-Ok.ensures.cause in
    change-stops (g.S.Pages.state c.args.space.now) c.args.table c.args.change.now (committed c.args.stamps.now) (c.args.stamp.0 - 1) c.args.stamp.0 (g.S.Pages.state c.next_visible.new.space) (g.S.Pages.state c.change_one.new.space) c.loop-turn.run c.change_one.new.run c.loop-turn.causes c.change_one.new.causes
    c.in-Some.place c.next_visible.new.out c.loop-turn._turn c.loop-turn.count c.requires.change found c.in-Err-change_one.fault (c.in-Err-change_one.ensures {u = tt}).err

pub loop-turn-preserved : goal.loop-turn-preserved
loop-turn-preserved g c =
    let found = change-found (g.S.Pages.state c.args.space.now) c.args.table c.args.change.now (committed c.args.stamps.now) (c.args.stamp.0 - 1) c.args.stamp.0 (g.S.Pages.state c.loop-turn.space) (g.S.Pages.state c.next_visible.new.space) c.loop-turn.run c.loop-turn.causes c.loop-turn.at c.loop-turn._turn c.loop-turn.count c.loop-turn.invariant.changed
    c.next_visible.ensures.steady c.next_visible.ensures.takes_none c.in-Ok.found c.in-Some.place c.loop-turn.room.row c.next_visible.new.out c.in-Some.is
    c.in-Ok.ensures.seen c.in-Ok.ensures.on_pages c.in-Ok.ensures.cause in
    record {
      few = counted-few c.loop-turn.count c.counted-count.result c.loop-turn._turn c.in-Ok-change_one.goes c.loop-turn.invariant.few c.counted-count.ensures;
      changed = change-step (g.S.Pages.state c.args.space.now) c.args.table c.args.change.now (committed c.args.stamps.now) (c.args.stamp.0 - 1) c.args.stamp.0 (g.S.Pages.state c.next_visible.new.space) (g.S.Pages.state c.change_one.new.space) c.loop-turn.run c.change_one.new.run c.loop-turn.causes c.change_one.new.causes
          c.in-Some.place c.next_visible.new.out c.loop-turn._turn c.loop-turn.count c.requires.change found c.in-Ok-change_one.goes c.in-Ok-change_one.ensures.ok c.in-Ok-change_one.ensures.fits c.counted-count.result c.counted-count.ensures;
    }

pub returns-clause-ok : goal.returns-clause-ok
returns-clause-ok g c =
    change-over (g.S.Pages.state c.args.space.now) c.args.table c.args.change.now (committed c.args.stamps.now) (c.args.stamp.0 - 1) c.args.stamp.0 (g.S.Pages.state c.loop-turn.space) c.loop-turn.run c.loop-turn.causes c.loop-turn.at c.loop-turn._turn c.loop-turn.count (one-less c.args.stamp.0 c.requires.stamp) c.loop-turn.invariant.changed
    (subst (λ k. k * 128 ≤ c.loop-turn._turn) c.taken.ensures.count (omega (arith, c.loop-turn-test.false)))
