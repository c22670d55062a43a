use Rattle.std.proofs.Common.{sym, ◌∙◌, subst}
use Rattle.hg_dml.specs.Fitting.{AreReady}
use Rattle.hg_dml.specs.Tuples.{rows_from}
use Rattle.hg_dml.proofs.Told.{refused-told, all-told, part-told}
use Rattle.hg_dml.proofs.insertion.insert_rows.Goals as goal

pub returns-in-Err-clause-refused : goal.returns-in-Err-clause-refused
returns-in-Err-clause-refused g c =
    let failed = c.in-Err.ensures {u = tt} in
    refused-told c.args.texts.now c.args.targets.now c.args.values.now c.args.ends.now c.check.new.sources.items c.in-Err.error c.args.catalog.now.tables c.args.table failed.err failed.sources

pub put-requires-clause-ready : goal.put-requires-clause-ready
put-requires-clause-ready g c = λ t at.
    subst (λ s. AreReady t.columns (rows_from c.args.texts.now s c.args.values.now c.args.ends.now)) (sym c.as_slice.ensures.value) ((c.in-Ok.ensures {u = tt}).ok t at)

pub returns-in-Ok-put-clause-ok : goal.returns-in-Ok-put-clause-ok
returns-in-Ok-put-clause-ok g c = λ t at.
    let checked = c.in-Ok.ensures {u = tt} in
    let moved = (c.in-Ok-put.ensures {u = tt}).moves in
    all-told c.args.texts.now c.args.targets.now c.args.values.now c.args.ends.now c.as_slice.result.now
    (g.S.Pages.state c.args.space.now) (g.S.Pages.state c.put.new.space) c.args.catalog.now c.put.new.catalog c.args.table c.args.stamp.0 t moved.0
    (c.as_slice.ensures.value ∙ checked.sources t at)
    (subst (λ s. AreReady t.columns (rows_from c.args.texts.now s c.args.values.now c.args.ends.now)) (sym c.as_slice.ensures.value) (checked.ok t at))
    moved.1 (moved.2 t at) (c.in-Ok-put.ensures {u = tt}).cause

pub returns-in-Err-put-clause-fault : goal.returns-in-Err-put-clause-fault
returns-in-Err-put-clause-fault g c = λ t at.
    let checked = c.in-Ok.ensures {u = tt} in
    let moved = (c.in-Err-put.ensures {u = tt}).moves in
    part-told c.args.texts.now c.args.targets.now c.args.values.now c.args.ends.now c.as_slice.result.now
    (g.S.Pages.state c.args.space.now) (g.S.Pages.state c.put.new.space) c.args.catalog.now c.put.new.catalog c.args.table c.args.stamp.0 t moved.0
    (c.as_slice.ensures.value ∙ checked.sources t at)
    (subst (λ s. AreReady t.columns (rows_from c.args.texts.now s c.args.values.now c.args.ends.now)) (sym c.as_slice.ensures.value) (checked.ok t at))
    moved.1 c.in-Err-put.fault (moved.2 t at) (c.in-Err-put.ensures {u = tt}).cause
