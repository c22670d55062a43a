use Rattle.hg_table.specs.Marks.{committed}
use Rattle.hg_dml.proofs.BoundLaws.{insert-done, insert-refused}
use Rattle.hg_dml.proofs.edges.insert.Goals as goal

pub returns-in-Ok-clause-ok : goal.returns-in-Ok-clause-ok
returns-in-Ok-clause-ok g c = λ t at pages chain.
    let done = c.in-Ok.ensures {u = tt} in
    insert-done c.args.texts.now c.args.b.now c.as_bytes.result.now c.as_slice.result.now c.as_slice-2.result.now c.as_slice-3.result.now c.as_bytes.ensures.value c.as_slice.ensures.value c.as_slice-2.ensures.value c.as_slice-3.ensures.value
    (g.S.Pages.state c.args.space.now) (g.S.Pages.state c.insert_rows.new.space) c.args.catalog.now c.insert_rows.new.catalog (committed c.args.stamps.now) c.args.stamp.0 c.in-Ok.count t pages chain done.count (done.ok t at)

pub returns-in-Err-clause-refused : goal.returns-in-Err-clause-refused
returns-in-Err-clause-refused g c =
    insert-refused c.args.texts.now c.args.b.now c.as_bytes.result.now c.as_slice.result.now c.as_slice-2.result.now c.as_slice-3.result.now c.as_bytes.ensures.value c.as_slice.ensures.value c.as_slice-2.ensures.value c.as_slice-3.ensures.value
    c.args.catalog.now.tables c.in-Err.error (c.in-Err.ensures {u = tt}).refused
