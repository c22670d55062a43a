use Rattle.std.proofs.Common.{◌+◌, ◌&&◌, drop, sym, ◌∙◌, ap, arith}
use Rattle.hg_model.specs.Tables as tables
use Rattle.hg_value.specs.Looks.{value_of}
use Rattle.hg_dml.proofs.FilterLaws.{unlike-lengths, fits-more}
use Rattle.hg_dml.proofs.filter.fits_columns.Goals as goal

pub returns-then-columns-len : goal.returns-then-columns-len
returns-then-columns-len c = sym (unlike-lengths c.args.columns.now c.args.row.now (λ e. c.if-columns-len.true (e ∙ sym c.len.ensures.count)))

pub returns-then-not-may_hold : goal.returns-then-not-may_hold
returns-then-not-may_hold c =
    let k = c.loop-place.place in
    sym (sym c.loop-place.invariant
    ∙ fits-more c.args.columns.now c.args.row.now k c.index-columns-place.result (value_of c.look.result) c.loop-place-test.true
    (omega (arith, c.len.ensures.count, c.if-columns-len.false, c.loop-place-test.true)) c.index-columns-place.is c.look.ensures.value
    ∙ ap (λ b. b && tables.fits_columns (drop (k + 1) c.args.columns.now) (drop (k + 1) c.args.row.now)) (sym c.may_hold.ensures.fits ∙ c.if-not-may_hold.true))

pub loop-place-preserved : goal.loop-place-preserved
loop-place-preserved c =
    let k = c.loop-place.place in
    sym (sym c.loop-place.invariant
    ∙ fits-more c.args.columns.now c.args.row.now k c.index-columns-place.result (value_of c.look.result) c.loop-place-test.true
    (omega (arith, c.len.ensures.count, c.if-columns-len.false, c.loop-place-test.true)) c.index-columns-place.is c.look.ensures.value
    ∙ ap (λ b. b && tables.fits_columns (drop (k + 1) c.args.columns.now) (drop (k + 1) c.args.row.now)) (sym c.may_hold.ensures.fits ∙ c.if-not-may_hold.false))
