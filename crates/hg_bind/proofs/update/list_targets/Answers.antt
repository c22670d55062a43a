use Rattle.std.proofs.Common.{sym, ◌∙◌, ap, arith, Some, take, get_or}
use Rattle.std.specs.Prelude.{option_map}
use Rattle.std.specs.List.{list_any}
use Rattle.std.proofs.lemmas.List.{drop_all, length-map, take-map}
use Rattle.hg_model.specs.ChangeBinding.{columns_cause}
use Rattle.hg_model.specs.Refusal.{first_cause}
use Rattle.hg_model.specs.Tables.{same_name}
use Rattle.hg_bind.specs.Bound.{error_of, names_set}
use Rattle.hg_bind.proofs.NameCauses.{unknown_here, taken_here, none_here, number_here, cause_none}
use Rattle.hg_bind.proofs.SetItems.{name_of, within, name_here}
use Rattle.hg_bind.proofs.update.list_targets.Goals as goal

pub returns-in_default-clause-err : goal.returns-in_default-clause-err
returns-in_default-clause-err c =
    ap (option_map error_of) (sym c.loop-place.invariant.cause
    ∙ unknown_here c.args.columns.now (names_set c.args.sets.now) c.loop-place.place (get_or c.args.sets.now c.loop-place.place c.index-sets-place.result).0
    (within c.args.sets.now c.loop-place.place c.index-sets-place.result c.loop-place-test.true)
    (name_here c.args.sets.now c.loop-place.place c.index-sets-place.result c.loop-place-test.true) c.in_default.ensures.none)
    ∙ ap Some (sym c.unknown_column.ensures)

pub returns-then-is_set-clause-err : goal.returns-then-is_set-clause-err
returns-then-is_set-clause-err c =
    ap (option_map error_of) (sym c.loop-place.invariant.cause
    ∙ taken_here c.args.columns.now (names_set c.args.sets.now) c.loop-place.place (get_or c.args.sets.now c.loop-place.place c.index-sets-place.result).0
    (within c.args.sets.now c.loop-place.place c.index-sets-place.result c.loop-place-test.true)
    (name_here c.args.sets.now c.loop-place.place c.index-sets-place.result c.loop-place-test.true)
    c.in-Some.ensures.there (ap (list_any (same_name (get_or c.args.sets.now c.loop-place.place c.index-sets-place.result).0)) (take-map name_of c.loop-place.place c.args.sets.now) ∙ sym c.is_set.ensures ∙ c.if-is_set.true))
    ∙ ap Some (sym c.name_taken.ensures)

pub loop-place-preserved : goal.loop-place-preserved
loop-place-preserved c = record {
  targets = c.push.ensures.items ∙ number_here c.args.columns.now (names_set c.args.sets.now) c.loop-place.place (get_or c.args.sets.now c.loop-place.place c.index-sets-place.result).0
      (within c.args.sets.now c.loop-place.place c.index-sets-place.result c.loop-place-test.true)
      (name_here c.args.sets.now c.loop-place.place c.index-sets-place.result c.loop-place-test.true)
      c.loop-place.targets.items c.in-Some.number c.loop-place.invariant.targets c.in-Some.ensures.number;
  cause = none_here c.args.columns.now (names_set c.args.sets.now) c.loop-place.place (get_or c.args.sets.now c.loop-place.place c.index-sets-place.result).0
      (within c.args.sets.now c.loop-place.place c.index-sets-place.result c.loop-place-test.true)
      (name_here c.args.sets.now c.loop-place.place c.index-sets-place.result c.loop-place-test.true)
      c.in-Some.ensures.there (ap (list_any (same_name (get_or c.args.sets.now c.loop-place.place c.index-sets-place.result).0)) (take-map name_of c.loop-place.place c.args.sets.now) ∙ sym c.is_set.ensures ∙ c.if-is_set.false) ∙ c.loop-place.invariant.cause;
}

pub returns-clause-ok : goal.returns-clause-ok
returns-clause-ok c =
    sym c.loop-place.invariant.cause
    ∙ ap (λ l. first_cause (columns_cause c.args.columns.now (take c.loop-place.place (names_set c.args.sets.now)) l))
    (drop_all c.loop-place.place (names_set c.args.sets.now) (omega (arith, length-map c.args.sets.now name_of)))
    ∙ cause_none
