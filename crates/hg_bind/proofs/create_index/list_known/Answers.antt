use Rattle.std.proofs.Common.{sym, ◌∙◌, ap, Some}
use Rattle.std.specs.Prelude.{option_map}
use Rattle.hg_bind.specs.Bound.{error_of}
use Rattle.hg_bind.proofs.Indexing.{unknown_at, known_at}
use Rattle.hg_bind.proofs.NameCauses.{number_here}
use Rattle.hg_bind.proofs.create_index.list_known.Goals as goal

pub loop-name-preserved : goal.loop-name-preserved
loop-name-preserved c = record {
  numbers = c.push.ensures.items ∙ number_here c.args.columns.now c.args.names.now c.loop-name.name-index c.name-item.result c.loop-name-test.true c.name-item.is
      c.loop-name.numbers.items c.in-Some.number c.loop-name.invariant.numbers c.in-Some.ensures.number;
  cause = known_at c.args.columns.now c.args.names.now c.loop-name.name-index c.name-item.result c.loop-name-test.true c.name-item.is c.in-Some.ensures.there
      ∙ c.loop-name.invariant.cause;
}

pub returns-in-None-clause-err : goal.returns-in-None-clause-err
returns-in-None-clause-err c =
    ap (option_map error_of) (sym c.loop-name.invariant.cause
    ∙ unknown_at c.args.columns.now c.args.names.now c.loop-name.name-index c.name-item.result c.loop-name-test.true c.name-item.is c.in-None.ensures.none)
    ∙ ap Some (sym c.unknown_column.ensures)
