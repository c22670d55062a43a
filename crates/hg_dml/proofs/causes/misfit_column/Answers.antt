use Rattle.std.proofs.Common.{sym, ◌∙◌, arith}
use Rattle.std.specs.Prelude.{not}
use Rattle.hg_model.specs.Changes.{tuples_from}
use Rattle.hg_model.specs.Refusal.{DoesNotFit}
use Rattle.hg_model.specs.Tables.{fits_type}
use Rattle.hg_dml.specs.Tuples.{rows_from}
use Rattle.hg_dml.proofs.FirstCauses.{misfit_test, found-here, not-here, any-at}
use Rattle.hg_dml.proofs.causes.misfit_column.Goals as goal

pub returns-then-any_misfit : goal.returns-then-any_misfit
returns-then-any_misfit c =
    found-here (misfit_test (rows_from c.args.texts.now c.args.sources.now c.args.values.now c.args.ends.now)) DoesNotFit c.args.columns.now c.loop-place.place c.index-columns-place.result
    c.loop-place-test.true c.index-columns-place.is _
    (any-at (λ v. not (fits_type c.index-columns-place.result.ty v)) c.args.texts.now c.args.sources.now c.loop-place.place _ (omega arith) (tuples_from 0 c.args.ends.now c.args.values.now)
    ∙ sym c.any_misfit.ensures ∙ c.if-any_misfit.true)
    c.loop-place.invariant

pub loop-place-preserved : goal.loop-place-preserved
loop-place-preserved c =
    not-here (misfit_test (rows_from c.args.texts.now c.args.sources.now c.args.values.now c.args.ends.now)) DoesNotFit c.args.columns.now c.loop-place.place c.index-columns-place.result
    c.loop-place-test.true c.index-columns-place.is _
    (any-at (λ v. not (fits_type c.index-columns-place.result.ty v)) c.args.texts.now c.args.sources.now c.loop-place.place _ (omega arith) (tuples_from 0 c.args.ends.now c.args.values.now)
    ∙ sym c.any_misfit.ensures ∙ c.if-any_misfit.false)
    c.loop-place.invariant
