use Rattle.std.proofs.Common.{subst, arith}
use Rattle.std.specs.Prelude.{◌-◌, ◌*◌, ◌≤◌, Bool, false, List}
use Rattle.hg_model.specs.declared.values.Value.{Value}
use Rattle.hg_table.specs.Marks.{committed}
use Rattle.hg_dml.specs.Filtering.{row_passes}
use Rattle.hg_dml.specs.declared.filter.Filter.{Filter}
use Rattle.hg_dml.proofs.WalkLaws.{counted-few, one-less, way-on, there-is, row-fits}
use Rattle.hg_dml.proofs.DeleteLaws.{delete-begins, delete-found, delete-ends, delete-failed, delete-step, delete-stops, delete-over}
use Rattle.hg_dml.proofs.deletion.delete_along.Goals as goal

abbrev goes : Filter → List Value → Bool
goes f row = row_passes f.texts.now f.columns.now f.nodes.now f.condition row

pub loop-turn-init : goal.loop-turn-init
loop-turn-init g c = record {
  few = omega arith;
  walked = delete-begins (g.S.Pages.state c.args.space.now) c.args.table c.args.columns.now (committed c.args.stamps.now) (c.args.stamp.0 - 1) c.args.stamp.0 (goes c.args.filter.now) c.requires.out;
}

pub next_visible-requires-clause-way : goal.next_visible-requires-clause-way
next_visible-requires-clause-way g c =
    way-on (g.S.Pages.state c.args.space.now) c.args.table c.args.columns.now (committed c.args.stamps.now) (c.args.stamp.0 - 1) c.args.stamp.0
    (goes c.args.filter.now)
    (g.S.Pages.state c.loop-turn.space) false c.loop-turn.at c.loop-turn._turn c.loop-turn.invariant.walked.gone c.requires.whole c.loop-turn.invariant.walked.walk

pub returns-in-Err-clause-err : goal.returns-in-Err-clause-err
returns-in-Err-clause-err g c = λ pages chain.
    delete-failed (g.S.Pages.state c.args.space.now) c.args.table c.args.columns.now (committed c.args.stamps.now) (c.args.stamp.0 - 1) c.args.stamp.0
    (goes c.args.filter.now)
    (g.S.Pages.state c.loop-turn.space) (g.S.Pages.state c.next_visible.new.space) c.loop-turn.at c.loop-turn._turn c.loop-turn.count c.loop-turn.invariant.walked
    c.next_visible.ensures.steady c.next_visible.ensures.takes_none c.in-Err.fault c.in-Err.ensures.fault c.in-Err.ensures.cause pages chain
    (c.in-Err.ensures.page pages (c.loop-turn.invariant.walked.within pages chain).chain)

pub returns-in_default-clause-ok : goal.returns-in_default-clause-ok
returns-in_default-clause-ok g c = λ pages chain.
    delete-ends (g.S.Pages.state c.args.space.now) c.args.table c.args.columns.now (committed c.args.stamps.now) (c.args.stamp.0 - 1) c.args.stamp.0
    (goes c.args.filter.now)
    (g.S.Pages.state c.loop-turn.space) (g.S.Pages.state c.next_visible.new.space) c.loop-turn.at c.loop-turn._turn c.loop-turn.count c.loop-turn.invariant.walked
    c.next_visible.ensures.steady c.next_visible.ensures.takes_none c.in-Ok.found c.loop-turn.row c.next_visible.new.out c.in_default.is
    (one-less c.args.stamp.0 c.requires.stamp) c.in-Ok.ensures.seen c.in-Ok.ensures.cause pages chain

pub delete_one-requires-clause-there : goal.delete_one-requires-clause-there
delete_one-requires-clause-there g c = λ told.
    let a = g.S.Pages.state c.args.space.now in
    let b = g.S.Pages.state c.next_visible.new.space in
    let found = delete-found a c.args.table c.args.columns.now (committed c.args.stamps.now) (c.args.stamp.0 - 1) c.args.stamp.0 (goes c.args.filter.now)
    (g.S.Pages.state c.loop-turn.space) b c.loop-turn.at c.loop-turn._turn c.loop-turn.count c.loop-turn.invariant.walked
    c.next_visible.ensures.steady c.next_visible.ensures.takes_none c.in-Ok.found c.in-Some.place c.loop-turn.row c.next_visible.new.out c.in-Some.is
    c.in-Ok.ensures.seen c.in-Ok.ensures.on_pages c.in-Ok.ensures.cause in
    there-is a c.args.table c.args.columns.now (committed c.args.stamps.now) (c.args.stamp.0 - 1) c.args.stamp.0 (goes c.args.filter.now) b false c.in-Some.place c.next_visible.new.out c.loop-turn._turn found.gone found.next c.requires.whole told

pub delete_one-requires-clause-fits : goal.delete_one-requires-clause-fits
delete_one-requires-clause-fits g c = λ told.
    let a = g.S.Pages.state c.args.space.now in
    let b = g.S.Pages.state c.next_visible.new.space in
    let found = delete-found a c.args.table c.args.columns.now (committed c.args.stamps.now) (c.args.stamp.0 - 1) c.args.stamp.0 (goes c.args.filter.now)
    (g.S.Pages.state c.loop-turn.space) b c.loop-turn.at c.loop-turn._turn c.loop-turn.count c.loop-turn.invariant.walked
    c.next_visible.ensures.steady c.next_visible.ensures.takes_none c.in-Ok.found c.in-Some.place c.loop-turn.row c.next_visible.new.out c.in-Some.is
    c.in-Ok.ensures.seen c.in-Ok.ensures.on_pages c.in-Ok.ensures.cause in
    row-fits a c.args.table c.args.columns.now (committed c.args.stamps.now) (c.args.stamp.0 - 1) c.args.stamp.0 (goes c.args.filter.now) b false c.in-Some.place c.next_visible.new.out c.loop-turn._turn found.gone found.next c.requires.whole told

pub returns-in-Err-delete_one-clause-err : goal.returns-in-Err-delete_one-clause-err
returns-in-Err-delete_one-clause-err g c = λ pages chain.
    let a = g.S.Pages.state c.args.space.now in
    let b = g.S.Pages.state c.next_visible.new.space in
    let found = delete-found a c.args.table c.args.columns.now (committed c.args.stamps.now) (c.args.stamp.0 - 1) c.args.stamp.0 (goes c.args.filter.now)
    (g.S.Pages.state c.loop-turn.space) b c.loop-turn.at c.loop-turn._turn c.loop-turn.count c.loop-turn.invariant.walked
    c.next_visible.ensures.steady c.next_visible.ensures.takes_none c.in-Ok.found c.in-Some.place c.loop-turn.row c.next_visible.new.out c.in-Some.is
    c.in-Ok.ensures.seen c.in-Ok.ensures.on_pages c.in-Ok.ensures.cause in
    delete-stops a c.args.table c.args.columns.now (committed c.args.stamps.now) (c.args.stamp.0 - 1) c.args.stamp.0 (goes c.args.filter.now) b (g.S.Pages.state c.delete_one.new.space) c.in-Some.place c.next_visible.new.out c.loop-turn._turn c.loop-turn.count found c.in-Err-delete_one.fault
    c.in-Err-delete_one.ensures.err_steady c.delete_one.ensures.takes_none c.in-Err-delete_one.ensures.fault c.in-Err-delete_one.ensures.page
    c.in-Err-delete_one.ensures.cause pages chain

pub loop-turn-preserved : goal.loop-turn-preserved
loop-turn-preserved g c =
    let a = g.S.Pages.state c.args.space.now in
    let b = g.S.Pages.state c.next_visible.new.space in
    let found = delete-found a c.args.table c.args.columns.now (committed c.args.stamps.now) (c.args.stamp.0 - 1) c.args.stamp.0 (goes c.args.filter.now)
    (g.S.Pages.state c.loop-turn.space) b c.loop-turn.at c.loop-turn._turn c.loop-turn.count c.loop-turn.invariant.walked
    c.next_visible.ensures.steady c.next_visible.ensures.takes_none c.in-Ok.found c.in-Some.place c.loop-turn.row c.next_visible.new.out c.in-Some.is
    c.in-Ok.ensures.seen c.in-Ok.ensures.on_pages c.in-Ok.ensures.cause in
    record {
      few = let was = c.loop-turn.invariant.few in let now = c.counted-count.ensures in counted-few c.loop-turn.count c.counted-count.result c.loop-turn._turn c.in-Ok-delete_one.gone was now;
      walked = delete-step a c.args.table c.args.columns.now (committed c.args.stamps.now) (c.args.stamp.0 - 1) c.args.stamp.0 (goes c.args.filter.now) b (g.S.Pages.state c.delete_one.new.space) c.in-Some.place c.next_visible.new.out c.loop-turn._turn c.loop-turn.count found c.in-Ok-delete_one.gone
          c.in-Ok-delete_one.ensures.ok c.in-Ok-delete_one.ensures.gone c.in-Ok-delete_one.ensures.fits c.delete_one.ensures.takes_none c.in-Ok-delete_one.ensures.cause c.counted-count.result c.counted-count.ensures;
    }

pub returns-clause-ok : goal.returns-clause-ok
returns-clause-ok g c = λ pages chain.
    delete-over (g.S.Pages.state c.args.space.now) c.args.table c.args.columns.now (committed c.args.stamps.now) (c.args.stamp.0 - 1) c.args.stamp.0
    (goes c.args.filter.now)
    (g.S.Pages.state c.loop-turn.space) c.loop-turn.at c.loop-turn._turn c.loop-turn.count (one-less c.args.stamp.0 c.requires.stamp) c.loop-turn.invariant.walked
    (subst (λ k. k * 128 ≤ c.loop-turn._turn) c.taken.ensures.count (omega (arith, c.loop-turn-test.false))) pages chain
