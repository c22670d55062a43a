use Rattle.std.specs.Prelude.{length, drop, ◌+◌}
use Rattle.std.proofs.Common.{sym, ◌∙◌, refl}
use Rattle.std.proofs.lemmas.Option.{slice_get_read}
use Rattle.hg_model.specs.Tables.{fits_columns, fits_type, is_allowed}
use Rattle.hg_value.specs.Looks.{value_of as seen}
use Rattle.hg_exec.proofs.Fitting.{unlike-lengths, fits-at, misfit-first, misfit-second, fits-both}
use Rattle.hg_exec.proofs.fits.fits_columns.Goals.{then-not-fits_type-via-then-not-fits_type, then-not-fits_type-via-else-not-fits_type+then-not-is_allowed}
use Rattle.hg_exec.proofs.fits.fits_columns.Goals as goal

pub returns-then-columns-len : goal.returns-then-columns-len
returns-then-columns-len c = unlike-lengths c.args.columns.now c.args.row.now (λ e. c.if-columns-len.true (e ∙ sym c.len.ensures.count))

pub loop-place-preserved : goal.loop-place-preserved
loop-place-preserved c =
    fits-both (fits_type c.index-columns-place.result.ty (seen c.look-look.result)) (is_allowed c.index-columns-place.result (seen c.look-look.result)) _ _
    (sym (fits-at c.args.columns.now c.args.row.now c.loop-place.place c.index-columns-place.result (seen c.look-look.result)
    (slice_get_read c.args.columns.now (length c.args.columns.now) c.loop-place.place c.index-columns-place.result refl c.loop-place-test.true c.index-columns-place.is)
    c.look-look.ensures.value) ∙ c.loop-place.invariant)
    (sym c.fits_type.ensures ∙ c.if-not-fits_type.false) (sym c.is_allowed.ensures ∙ c.if-not-is_allowed.false)

pub returns-then-not-fits_type : goal.returns-then-not-fits_type
returns-then-not-fits_type c =
    let e = sym (fits-at c.args.columns.now c.args.row.now c.loop-place.place c.index-columns-place.result (seen c.look-look.result)
    (slice_get_read c.args.columns.now (length c.args.columns.now) c.loop-place.place c.index-columns-place.result refl c.loop-place-test.true c.index-columns-place.is)
    c.look-look.ensures.value) ∙ c.loop-place.invariant in
    elim c.then-not-fits_type.branch [
      | then-not-fits_type-via-then-not-fits_type w ↦ misfit-first (fits_type c.index-columns-place.result.ty (seen c.look-look.result)) (is_allowed c.index-columns-place.result (seen c.look-look.result))
          (fits_columns (drop (c.loop-place.place + 1) c.args.columns.now) (drop (c.loop-place.place + 1) c.args.row.now)) (fits_columns c.args.columns.now c.args.row.now) e (sym c.fits_type.ensures ∙ w.if-not-fits_type.true)
      | then-not-fits_type-via-else-not-fits_type+then-not-is_allowed w ↦ misfit-second (fits_type c.index-columns-place.result.ty (seen c.look-look.result)) (is_allowed c.index-columns-place.result (seen c.look-look.result))
          (fits_columns (drop (c.loop-place.place + 1) c.args.columns.now) (drop (c.loop-place.place + 1) c.args.row.now)) (fits_columns c.args.columns.now c.args.row.now) e (sym c.fits_type.ensures ∙ w.if-not-fits_type.false) (sym w.is_allowed.ensures ∙ w.if-not-is_allowed.true)
    ]
