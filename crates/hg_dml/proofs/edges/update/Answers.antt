use Rattle.std.proofs.Common.{◌∙◌, ap}
use Rattle.hg_bind.specs.Bound.{numbers_of, tables_of}
use Rattle.hg_model.specs.Statements.{update_tree}
use Rattle.hg_table.specs.Marks.{committed}
use Rattle.hg_dml.proofs.BoundLaws.{update-filter, countable, filter-there, update-done, update-against}
use Rattle.hg_dml.proofs.edges.update.Goals as goal

pub update_rows-requires-clause-filter : goal.update_rows-requires-clause-filter
update_rows-requires-clause-filter g c =
    filter-there c.args.texts.now _ _ c.as_slice-3.result.now c.as_slice-2.result.now (c.as_slice-3.ensures.value ∙ c.list_numbers.ensures ∙ ap numbers_of c.as_slice.ensures.value) c.as_slice-2.ensures.value
    (update-filter (tables_of c.args.catalog.now) (update_tree c.args.b.now.update) c.args.texts.now c.args.b.now.table c.args.b.now.targets.items c.args.b.now.places.items c.requires.bound c.requires.texts)

pub overflow_cast-result : goal.overflow_cast-result
overflow_cast-result g c = record { fits = countable (g.S.Pages.state c.args.space.now) c.in-Ok.count (c.in-Ok.ensures {u = tt}).few c.requires.few_pages }

pub returns-in-Ok-clause-ok : goal.returns-in-Ok-clause-ok
returns-in-Ok-clause-ok g c = λ t at pages chain.
    update-done c.args.texts.now c.args.b.now c.as_slice-3.result.now c.as_slice-4.result.now c.as_slice-2.result.now c.as_slice-5.result.now
    (c.as_slice-3.ensures.value ∙ c.list_numbers.ensures ∙ ap numbers_of c.as_slice.ensures.value) c.as_slice-2.ensures.value c.as_slice-4.ensures.value c.as_slice-5.ensures.value
    (g.S.Pages.state c.args.space.now) (g.S.Pages.state c.update_rows.new.space) c.args.catalog.now c.update_rows.new.catalog (committed c.args.stamps.now) c.args.stamp.0 c.in-Ok.count t pages
    ((c.in-Ok.ensures {u = tt}).ok t at pages chain)

pub returns-in-Err-clause-refused : goal.returns-in-Err-clause-refused
returns-in-Err-clause-refused g c =
    update-against c.args.texts.now c.args.b.now c.as_slice-3.result.now c.as_slice-4.result.now c.as_slice-2.result.now c.as_slice-5.result.now
    (c.as_slice-3.ensures.value ∙ c.list_numbers.ensures ∙ ap numbers_of c.as_slice.ensures.value) c.as_slice-2.ensures.value c.as_slice-4.ensures.value c.as_slice-5.ensures.value
    (g.S.Pages.state c.args.space.now) (g.S.Pages.state c.update_rows.new.space) c.args.catalog.now.tables (committed c.args.stamps.now) c.args.stamp.0 c.in-Err.error
    (c.in-Err.ensures {u = tt}).refused
