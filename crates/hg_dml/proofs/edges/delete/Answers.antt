use Rattle.std.proofs.Common.{◌∙◌, ap}
use Rattle.hg_bind.specs.Bound.{numbers_of, tables_of}
use Rattle.hg_model.specs.Statements.{delete_tree}
use Rattle.hg_table.specs.Marks.{committed}
use Rattle.hg_dml.proofs.BoundLaws.{delete-filter, countable, filter-there, delete-done}
use Rattle.hg_dml.proofs.edges.delete.Goals as goal

pub delete_rows-requires-clause-filter : goal.delete_rows-requires-clause-filter
delete_rows-requires-clause-filter g c =
    filter-there c.args.texts.now _ _ c.as_slice-3.result.now c.as_slice-2.result.now (c.as_slice-3.ensures.value ∙ c.list_numbers.ensures ∙ ap numbers_of c.as_slice.ensures.value) c.as_slice-2.ensures.value
    (delete-filter (tables_of c.args.catalog.now) (delete_tree c.args.b.now.delete) c.args.texts.now c.args.b.now.table c.args.b.now.places.items c.requires.bound c.requires.texts)

pub overflow_cast-result : goal.overflow_cast-result
overflow_cast-result g c = record { fits = countable (g.S.Pages.state c.args.space.now) c.in-Ok.count (c.in-Ok.ensures {u = tt}).few c.requires.few_pages }

pub returns-in-Ok-clause-ok : goal.returns-in-Ok-clause-ok
returns-in-Ok-clause-ok g c = λ t at pages chain.
    delete-done c.args.texts.now c.args.b.now c.as_slice-3.result.now c.as_slice-2.result.now
    (c.as_slice-3.ensures.value ∙ c.list_numbers.ensures ∙ ap numbers_of c.as_slice.ensures.value) c.as_slice-2.ensures.value
    (g.S.Pages.state c.args.space.now) (g.S.Pages.state c.delete_rows.new.space) (committed c.args.stamps.now) c.args.stamp.0 c.in-Ok.count t pages ((c.in-Ok.ensures {u = tt}).ok t at pages chain)
