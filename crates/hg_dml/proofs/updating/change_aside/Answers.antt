use Rattle.std.specs.Prelude.{◌-◌}
use Rattle.hg_table.specs.Marks.{committed}
use Rattle.hg_dml.specs.Making.{goes_by, made_by}
use Rattle.hg_dml.proofs.UpdateLaws.{walk-fails, walk-refused, as-many, stands-after, pins-after, stored-pins, failed-pins, stored-updates, stored-fails}
use Rattle.hg_dml.proofs.UpdatedLaws.{storable-rows}
use Rattle.hg_dml.proofs.updating.change_aside.Goals as goal

pub change_along-requires-clause-causes : goal.change_along-requires-clause-causes
change_along-requires-clause-causes g c = c.new-causes.ensures c.args.change.now.columns.now

pub returns-in-Err-clause-fault : goal.returns-in-Err-clause-fault
returns-in-Err-clause-fault g c = walk-fails (g.S.Pages.state c.args.space.now) (g.S.Pages.state c.change_along.new.space) c.args.data.now c.args.change.now.columns.now (committed c.args.stamps.now) (c.args.stamp.0 - 1) c.args.stamp.0 (goes_by c.args.change.now) (made_by c.args.change.now) c.change_along.new.run c.in-Err.fault (c.in-Err.ensures {u = tt}).err

pub returns-in-Err-first-clause-refused : goal.returns-in-Err-first-clause-refused
returns-in-Err-first-clause-refused g c = walk-refused (g.S.Pages.state c.args.space.now) (g.S.Pages.state c.change_along.new.space) c.args.data.now c.args.change.now.columns.now (committed c.args.stamps.now) (c.args.stamp.0 - 1) c.args.stamp.0 (goes_by c.args.change.now) (made_by c.args.change.now) c.change_along.new.run c.change_along.new.causes c.in-Ok.count c.in-Err-first.error c.in-Err-first.ensures.err c.in-Ok.ensures.ok

pub store_rows-requires-clause-aside : goal.store_rows-requires-clause-aside
store_rows-requires-clause-aside g c =
    let w = c.in-Ok.ensures.ok in
    let none = (c.in-Ok-first.ensures {u = tt}).none in (
      w.temp,
      w.rows,
      w.aside,
      storable-rows c.codings_tell.ensures.row c.args.change.now (goes_by c.args.change.now) w.gone w.rows c.change_along.new.causes c.requires.change w.each w.are none (w.all none) w.storable,
    )

pub store_rows-requires-clause-whole : goal.store_rows-requires-clause-whole
store_rows-requires-clause-whole g c = stands-after (g.S.Pages.state c.args.space.now) (g.S.Pages.state c.change_along.new.space) c.args.data.now c.args.change.now.columns.now (committed c.args.stamps.now) (c.args.stamp.0 - 1) c.args.stamp.0 (goes_by c.args.change.now) (made_by c.args.change.now) c.change_along.new.run c.change_along.new.causes c.in-Ok.count c.in-Ok.ensures.ok (c.in-Ok-first.ensures {u = tt}).none c.requires.whole

pub store_rows-requires-clause-out : goal.store_rows-requires-clause-out
store_rows-requires-clause-out g c = pins-after (g.S.Pages.state c.args.space.now) (g.S.Pages.state c.change_along.new.space) c.args.data.now c.args.change.now.columns.now (committed c.args.stamps.now) (c.args.stamp.0 - 1) c.args.stamp.0 (goes_by c.args.change.now) (made_by c.args.change.now) c.change_along.new.run c.change_along.new.causes c.in-Ok.count c.in-Ok.ensures.ok (c.in-Ok-first.ensures {u = tt}).none c.requires.whole

pub returns-in-Ok-store_rows-clause-ok : goal.returns-in-Ok-store_rows-clause-ok
returns-in-Ok-store_rows-clause-ok g c =
    let w = c.in-Ok.ensures.ok in
    let none = (c.in-Ok-first.ensures {u = tt}).none in
    let can = storable-rows c.codings_tell.ensures.row c.args.change.now (goes_by c.args.change.now) w.gone w.rows c.change_along.new.causes c.requires.change w.each w.are none (w.all none) w.storable in
    stored-updates (g.S.Pages.state c.args.space.now) (g.S.Pages.state c.change_along.new.space) c.args.data.now c.args.change.now.columns.now (committed c.args.stamps.now) (c.args.stamp.0 - 1) c.args.stamp.0 (goes_by c.args.change.now) (made_by c.args.change.now) c.change_along.new.run c.change_along.new.causes c.in-Ok.count w none c.requires.whole (g.S.Pages.state c.store_rows.new.space) c.store_rows.new.data
    ((c.in-Ok-store_rows.ensures {u = tt}).ok w.temp w.rows w.aside can (as-many (g.S.Pages.state c.args.space.now) (g.S.Pages.state c.change_along.new.space) c.args.data.now c.args.change.now.columns.now (committed c.args.stamps.now) (c.args.stamp.0 - 1) c.args.stamp.0 (goes_by c.args.change.now) (made_by c.args.change.now) c.change_along.new.run c.change_along.new.causes c.in-Ok.count w none c.requires.whole))
    ((c.in-Ok-first.ensures {u = tt}).ok c.args.change.now.columns.now _ w.are)

pub returns-in-Ok-store_rows-clause-pins : goal.returns-in-Ok-store_rows-clause-pins
returns-in-Ok-store_rows-clause-pins g c =
    let w = c.in-Ok.ensures.ok in
    let none = (c.in-Ok-first.ensures {u = tt}).none in
    let can = storable-rows c.codings_tell.ensures.row c.args.change.now (goes_by c.args.change.now) w.gone w.rows c.change_along.new.causes c.requires.change w.each w.are none (w.all none) w.storable in
    stored-pins (g.S.Pages.state c.args.space.now) (g.S.Pages.state c.change_along.new.space) c.args.data.now c.args.change.now.columns.now (committed c.args.stamps.now) (c.args.stamp.0 - 1) c.args.stamp.0 (goes_by c.args.change.now) (made_by c.args.change.now) c.change_along.new.run c.change_along.new.causes c.in-Ok.count w none c.requires.whole (g.S.Pages.state c.store_rows.new.space) c.store_rows.new.data
    ((c.in-Ok-store_rows.ensures {u = tt}).ok w.temp w.rows w.aside can (as-many (g.S.Pages.state c.args.space.now) (g.S.Pages.state c.change_along.new.space) c.args.data.now c.args.change.now.columns.now (committed c.args.stamps.now) (c.args.stamp.0 - 1) c.args.stamp.0 (goes_by c.args.change.now) (made_by c.args.change.now) c.change_along.new.run c.change_along.new.causes c.in-Ok.count w none c.requires.whole))

pub returns-in-Err-store_rows-clause-fault : goal.returns-in-Err-store_rows-clause-fault
returns-in-Err-store_rows-clause-fault g c =
    let w = c.in-Ok.ensures.ok in
    let none = (c.in-Ok-first.ensures {u = tt}).none in
    let can = storable-rows c.codings_tell.ensures.row c.args.change.now (goes_by c.args.change.now) w.gone w.rows c.change_along.new.causes c.requires.change w.each w.are none (w.all none) w.storable in
    stored-fails (g.S.Pages.state c.args.space.now) (g.S.Pages.state c.change_along.new.space) c.args.data.now c.args.change.now.columns.now (committed c.args.stamps.now) (c.args.stamp.0 - 1) c.args.stamp.0 (goes_by c.args.change.now) (made_by c.args.change.now) c.change_along.new.run c.change_along.new.causes c.in-Ok.count w none c.requires.whole (g.S.Pages.state c.store_rows.new.space) c.store_rows.new.data c.in-Err-store_rows.fault
    ((c.in-Err-store_rows.ensures {u = tt}).err w.temp w.rows w.aside can (as-many (g.S.Pages.state c.args.space.now) (g.S.Pages.state c.change_along.new.space) c.args.data.now c.args.change.now.columns.now (committed c.args.stamps.now) (c.args.stamp.0 - 1) c.args.stamp.0 (goes_by c.args.change.now) (made_by c.args.change.now) c.change_along.new.run c.change_along.new.causes c.in-Ok.count w none c.requires.whole))

pub returns-in-Err-store_rows-clause-pins : goal.returns-in-Err-store_rows-clause-pins
returns-in-Err-store_rows-clause-pins g c =
    let w = c.in-Ok.ensures.ok in
    let none = (c.in-Ok-first.ensures {u = tt}).none in
    let can = storable-rows c.codings_tell.ensures.row c.args.change.now (goes_by c.args.change.now) w.gone w.rows c.change_along.new.causes c.requires.change w.each w.are none (w.all none) w.storable in
    failed-pins (g.S.Pages.state c.args.space.now) (g.S.Pages.state c.change_along.new.space) c.args.data.now c.args.change.now.columns.now (committed c.args.stamps.now) (c.args.stamp.0 - 1) c.args.stamp.0 (goes_by c.args.change.now) (made_by c.args.change.now) c.change_along.new.run c.change_along.new.causes c.in-Ok.count w none c.requires.whole (g.S.Pages.state c.store_rows.new.space) c.store_rows.new.data c.in-Err-store_rows.fault
    ((c.in-Err-store_rows.ensures {u = tt}).err w.temp w.rows w.aside can (as-many (g.S.Pages.state c.args.space.now) (g.S.Pages.state c.change_along.new.space) c.args.data.now c.args.change.now.columns.now (committed c.args.stamps.now) (c.args.stamp.0 - 1) c.args.stamp.0 (goes_by c.args.change.now) (made_by c.args.change.now) c.change_along.new.run c.change_along.new.causes c.in-Ok.count w none c.requires.whole))
