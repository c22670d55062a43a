use Rattle.std.proofs.Common.{◌+◌, sym, ◌∙◌, ap, Some}
use Rattle.std.specs.Prelude.{option_map}
use Rattle.hg_bind.specs.Bound.{error_of, tables_of}
use Rattle.hg_bind.proofs.NamedTables.{unnamed, is_there, number_is}
use Rattle.hg_bind.proofs.TablesInTurn.{unknown_here, known_here, numbers_next}
use Rattle.hg_bind.proofs.select.list_tables.Goals as goal

pub returns-in-None-clause-err : goal.returns-in-None-clause-err
returns-in-None-clause-err c =
    ap (option_map error_of) (sym c.loop-from.invariant.cause
    ∙ unknown_here (tables_of c.args.catalog.now) c.args.froms.now c.loop-from.from-index c.from-item.result c.loop-from-test.true c.from-item.is
    (unnamed c.from-item.result.table c.args.catalog.now (sym c.table.ensures.value ∙ c.in-None.is)))
    ∙ ap Some (sym c.unknown_table.ensures)

pub loop-from-preserved : goal.loop-from-preserved
loop-from-preserved c = record {
  numbers =
      numbers_next (tables_of c.args.catalog.now) c.args.froms.now c.loop-from.from-index c.from-item.result c.loop-from-test.true c.from-item.is
      c.loop-from.tables.items c.push.new.self.items c.in-Some.number c.push.ensures.items
      (number_is c.from-item.result.table c.args.catalog.now c.in-Some.number (sym c.table.ensures.value ∙ c.in-Some.is)) ∙ c.loop-from.invariant.numbers;
  cause =
      known_here (tables_of c.args.catalog.now) c.args.froms.now c.loop-from.from-index c.from-item.result c.loop-from-test.true c.from-item.is
      (is_there c.from-item.result.table c.args.catalog.now c.in-Some.number (sym c.table.ensures.value ∙ c.in-Some.is)) ∙ c.loop-from.invariant.cause;
  count = c.push.ensures.len ∙ ap (λ n. n + 1) c.loop-from.invariant.count;
}
