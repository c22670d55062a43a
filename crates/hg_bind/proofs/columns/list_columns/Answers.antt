use Rattle.std.proofs.Common.{sym, ◌∙◌, ap, arith, Some, take}
use Rattle.std.specs.Prelude.{option_map}
use Rattle.std.proofs.lemmas.List.{drop_all}
use Rattle.hg_model.specs.ChangeBinding.{columns_cause}
use Rattle.hg_model.specs.Refusal.{first_cause}
use Rattle.hg_bind.specs.Bound.{error_of}
use Rattle.hg_bind.proofs.NameCauses.{unknown_here, taken_here, none_here, number_here, cause_none}
use Rattle.hg_bind.proofs.columns.list_columns.Goals as goal

pub returns-in_default-clause-err : goal.returns-in_default-clause-err
returns-in_default-clause-err c =
    ap (option_map error_of) (sym c.loop-place.invariant.cause
    ∙ unknown_here c.args.columns.now c.args.names.now c.loop-place.place c.index-names-place.result c.loop-place-test.true c.index-names-place.is c.in_default.ensures.none)
    ∙ ap Some (sym c.unknown_column.ensures)

pub returns-then-is_among-clause-err : goal.returns-then-is_among-clause-err
returns-then-is_among-clause-err c =
    ap (option_map error_of) (sym c.loop-place.invariant.cause
    ∙ taken_here c.args.columns.now c.args.names.now c.loop-place.place c.index-names-place.result c.loop-place-test.true c.index-names-place.is
    c.in-Some.ensures.there (sym c.is_among.ensures ∙ c.if-is_among.true))
    ∙ ap Some (sym c.name_taken.ensures)

pub loop-place-preserved : goal.loop-place-preserved
loop-place-preserved c = record {
  numbers = c.push.ensures.items ∙ number_here c.args.columns.now c.args.names.now c.loop-place.place c.index-names-place.result c.loop-place-test.true c.index-names-place.is
      c.loop-place.numbers.items c.in-Some.number c.loop-place.invariant.numbers c.in-Some.ensures.number;
  cause = none_here c.args.columns.now c.args.names.now c.loop-place.place c.index-names-place.result c.loop-place-test.true c.index-names-place.is
      c.in-Some.ensures.there (sym c.is_among.ensures ∙ c.if-is_among.false) ∙ c.loop-place.invariant.cause;
}

pub returns-clause-ok : goal.returns-clause-ok
returns-clause-ok c =
    sym c.loop-place.invariant.cause
    ∙ ap (λ l. first_cause (columns_cause c.args.columns.now (take c.loop-place.place c.args.names.now) l)) (drop_all c.loop-place.place c.args.names.now (omega arith))
    ∙ cause_none
