use Rattle.std.proofs.Common.{◌∙◌, ap, refl}
use Rattle.std.specs.Prelude.{option_map}
use Rattle.hg_model.specs.Refusal.{NullNotAllowed, DoesNotFit, RowTooLong}
use Rattle.hg_model.specs.declared.trees.Column.{Column}
use Rattle.hg_dml.proofs.FirstCauses.{first-of, first-later}
use Rattle.hg_dml.proofs.MakingLaws.{null-first, misfit-first, long-first, no-null, no-misfit, no-cause, nothing-stands}
use Rattle.hg_dml.proofs.making.Causes.first.Goals as goal

pub returns-in-Some-clause-err : goal.returns-in-Some-clause-err
returns-in-Some-clause-err c = λ columns rows are.
    let f = null-first columns rows c.args.self.now are c.in-Some.column c.in-Some.is in
    (NullNotAllowed f.0.name, first-of _ _ _ f.2, (refl, ap (option_map (λ (x : Column). x.name)) f.1))

pub returns-in-Some-misfit-clause-err : goal.returns-in-Some-misfit-clause-err
returns-in-Some-misfit-clause-err c = λ columns rows are.
    let f = misfit-first columns rows c.args.self.now are c.in-Some-misfit.column c.in-Some-misfit.is in
    (DoesNotFit f.0.name, first-later _ _ (no-null columns rows c.args.self.now are c.in_default.is) ∙ first-of _ _ _ f.2, (refl, ap (option_map (λ (x : Column). x.name)) f.1))

pub returns-then-self-clause-err : goal.returns-then-self-clause-err
returns-then-self-clause-err c = λ columns rows are. (
  RowTooLong,
  first-later _ _ (no-null columns rows c.args.self.now are c.in_default.is)
      ∙ first-later _ _ (no-misfit columns rows c.args.self.now are c.in_default-misfit.is)
      ∙ first-of _ _ _ (long-first columns rows c.args.self.now are c.if-self.true),
  (refl, refl),
)

pub returns-clause-ok : goal.returns-clause-ok
returns-clause-ok c = λ columns rows are. no-cause columns rows c.args.self.now are c.in_default.is c.in_default-misfit.is c.if-self.false

pub returns-clause-none : goal.returns-clause-none
returns-clause-none c = nothing-stands c.args.self.now c.in_default.is c.in_default-misfit.is c.if-self.false
