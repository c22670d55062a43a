use Rattle.std.proofs.Common.{sym, ◌∙◌, ap, subst, length, arith}
use Rattle.std.specs.Prelude.{slice_get}
use Rattle.hg_catalog.specs.Contents.{CatalogTable}
use Rattle.hg_dml.specs.Fitting.{AreReady}
use Rattle.hg_dml.specs.Steps.{IsRefusal}
use Rattle.hg_dml.specs.Tuples.{rows_from}
use Rattle.hg_dml.proofs.Fits.{ready}
use Rattle.hg_dml.proofs.Sources.{length-sources}
use Rattle.hg_dml.proofs.Told.{entry-is}
use Rattle.hg_dml.proofs.insertion.check.Goals as goal

pub check_rows-requires-clause-as_long : goal.check_rows-requires-clause-as_long
check_rows-requires-clause-as_long c =
    ap length (c.as_slice.ensures.value ∙ c.list_sources.ensures) ∙ length-sources c.args.targets.now (length c.as_slice-columns.result.now)

pub returns-clause-ok : goal.returns-clause-ok
returns-clause-ok c = λ t at.
    let columns = c.as_slice-columns.result.now in
    let same = entry-is (λ (x : CatalogTable). x.columns) (slice_get c.args.catalog.now.tables c.args.table) t c.columns.result.now.items c.columns.ensures.value at
    ∙ sym c.as_slice-columns.ensures.value in
    let long = ap length (c.as_slice.ensures.value ∙ c.list_sources.ensures) ∙ length-sources c.args.targets.now (length columns) in
    subst (λ cs. AreReady cs (rows_from c.args.texts.now c.list_sources.new.sources.items c.args.values.now c.args.ends.now)) (sym same)
    (subst (λ s. AreReady columns (rows_from c.args.texts.now s c.args.values.now c.args.ends.now)) c.as_slice.ensures.value
    (ready c.codings_tell.ensures.row columns c.args.texts.now c.as_slice.result.now c.args.values.now c.args.ends.now c.know_types.ensures
    (omega (arith, ap length c.as_slice-columns.ensures.value, c.columns.ensures.fits.few_columns)) long c.requires.printable (c.in-Ok.ensures {u = tt}).ok))

pub returns-in-Err-clause-err : goal.returns-in-Err-clause-err
returns-in-Err-clause-err c = λ t at.
    let columns = c.as_slice-columns.result.now in
    let same = entry-is (λ (x : CatalogTable). x.columns) (slice_get c.args.catalog.now.tables c.args.table) t c.columns.result.now.items c.columns.ensures.value at
    ∙ sym c.as_slice-columns.ensures.value in
    subst (λ cs. IsRefusal cs (rows_from c.args.texts.now c.list_sources.new.sources.items c.args.values.now c.args.ends.now) c.in-Err.error) (sym same)
    (subst (λ s. IsRefusal columns (rows_from c.args.texts.now s c.args.values.now c.args.ends.now) c.in-Err.error) c.as_slice.ensures.value (c.in-Err.ensures {u = tt}).err)
