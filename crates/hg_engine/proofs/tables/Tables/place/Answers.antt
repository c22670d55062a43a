use Rattle.std.proofs.Common.{◌∙◌, sym}
use Rattle.std.proofs.lemmas.Option.{none-some}
use Rattle.hg_engine.proofs.Lookups.{number-none}
use Rattle.hg_engine.proofs.tables.Tables.place.Goals as goal

pub unreachable-requires : goal.unreachable-requires
unreachable-requires c =
    let placed = (c.in_ok-place_values.ensures {u = tt}).ok in
    none-some placed.table_is.table
    (sym (number-none c.args.self.now.catalog c.args.insert.now.table.now (sym c.table.ensures.value ∙ c.in-None.is)) ∙ placed.table_is.named)
