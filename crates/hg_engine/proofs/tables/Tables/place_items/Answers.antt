use Rattle.std.proofs.Common.{◌∙◌, sym, ap}
use Rattle.std.proofs.lemmas.Option.{none-some}
use Rattle.hg_bind.specs.Bound.{numbers_of}
use Rattle.hg_engine.proofs.Lookups.{number-none}
use Rattle.hg_engine.proofs.DeleteLaws.{numbers-of}
use Rattle.hg_engine.proofs.tables.Tables.place_items.Goals as goal

pub unreachable-requires : goal.unreachable-requires
unreachable-requires c =
    let placed = (c.in_ok-place_sets.ensures {u = tt}).ok in
    none-some placed.table_is.table
    (sym (number-none c.args.self.now.catalog c.args.update.now.table.now (sym c.table.ensures.value ∙ c.in-None.is)) ∙ placed.table_is.named)

pub returns-clause-columns : goal.returns-clause-columns
returns-clause-columns c =
    let placed = (c.in_ok-place_sets.ensures {u = tt}).ok in
    c.list_numbers.ensures ∙ ap numbers_of (c.as_slice.ensures.value ∙ placed.places_are) ∙ numbers-of _
