use Rattle.std.proofs.Common.{sym, ◌∙◌, ap, arith}
use Rattle.std.specs.Prelude.{◌&&◌}
use Rattle.hg_model.specs.Changes.{tuples_from}
use Rattle.hg_model.specs.NullLogic.{is_null}
use Rattle.hg_model.specs.Refusal.{NullNotAllowed}
use Rattle.hg_dml.specs.Tuples.{rows_from}
use Rattle.hg_dml.proofs.FirstCauses.{null_test, found-here, not-here, any-at}
use Rattle.hg_dml.proofs.causes.null_column.Goals as goal

pub returns-then-has_forbidden_null : goal.returns-then-has_forbidden_null
returns-then-has_forbidden_null c =
    found-here (null_test (rows_from c.args.texts.now c.args.sources.now c.args.values.now c.args.ends.now)) NullNotAllowed c.args.columns.now c.loop-place.place c.index-columns-place.result
    c.loop-place-test.true c.index-columns-place.is _
    (ap (λ b. c.index-columns-place.result.not_null && b) (any-at is_null c.args.texts.now c.args.sources.now c.loop-place.place _ (omega arith) (tuples_from 0 c.args.ends.now c.args.values.now))
    ∙ sym c.has_forbidden_null.ensures ∙ c.if-has_forbidden_null.true)
    c.loop-place.invariant

pub loop-place-preserved : goal.loop-place-preserved
loop-place-preserved c =
    not-here (null_test (rows_from c.args.texts.now c.args.sources.now c.args.values.now c.args.ends.now)) NullNotAllowed c.args.columns.now c.loop-place.place c.index-columns-place.result
    c.loop-place-test.true c.index-columns-place.is _
    (ap (λ b. c.index-columns-place.result.not_null && b) (any-at is_null c.args.texts.now c.args.sources.now c.loop-place.place _ (omega arith) (tuples_from 0 c.args.ends.now c.args.values.now))
    ∙ sym c.has_forbidden_null.ensures ∙ c.if-has_forbidden_null.false)
    c.loop-place.invariant
