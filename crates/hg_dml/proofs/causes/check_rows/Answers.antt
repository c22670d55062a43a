use Rattle.std.proofs.Common.{sym, ◌∙◌, ap, refl, Some, None}
use Rattle.std.specs.Prelude.{option_map, if◌then◌else◌}
use Rattle.hg_model.specs.Refusal.{NullNotAllowed, DoesNotFit, RowTooLong}
use Rattle.hg_model.specs.declared.trees.Column.{Column}
use Rattle.hg_dml.proofs.FirstCauses.{first-of, first-later, first-none}
use Rattle.hg_dml.proofs.causes.check_rows.Goals as goal

pub returns-in-Some-clause-err : goal.returns-in-Some-clause-err
returns-in-Some-clause-err c =
    let f = c.in-Some.ensures in
    (NullNotAllowed f.0.name, first-of _ _ _ f.2, (refl, ap (option_map (λ (x : Column). x.name)) f.1))

pub returns-in-Some-misfit_column-clause-err : goal.returns-in-Some-misfit_column-clause-err
returns-in-Some-misfit_column-clause-err c =
    let f = c.in-Some-misfit_column.ensures in
    (DoesNotFit f.0.name, first-later _ _ c.in_default.ensures ∙ first-of _ _ _ f.2, (refl, ap (option_map (λ (x : Column). x.name)) f.1))

pub returns-then-any_long-clause-err : goal.returns-then-any_long-clause-err
returns-then-any_long-clause-err c = (
  RowTooLong,
  first-later _ _ c.in_default.ensures
      ∙ first-later _ _ c.in_default-misfit_column.ensures
      ∙ first-of _ _ _ (ap (λ b. if b then Some RowTooLong else None) (sym c.any_long.ensures ∙ c.if-any_long.true)),
  (refl, refl),
)

pub returns-clause-ok : goal.returns-clause-ok
returns-clause-ok c =
    first-later _ _ c.in_default.ensures
    ∙ first-later _ _ c.in_default-misfit_column.ensures
    ∙ first-later _ _ (ap (λ b. if b then Some RowTooLong else None) (sym c.any_long.ensures ∙ c.if-any_long.false))
    ∙ first-none
