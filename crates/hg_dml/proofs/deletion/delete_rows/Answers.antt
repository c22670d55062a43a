use Rattle.std.proofs.Common.{sym, ◌∙◌, ap, subst, length, arith}
use Rattle.std.specs.Prelude.{slice_get}
use Rattle.hg_catalog.specs.Contents.{CatalogTable}
use Rattle.hg_dml.specs.Inserting.{StandsOver}
use Rattle.hg_dml.proofs.Told.{entry-of, entry-is}
use Rattle.hg_dml.proofs.deletion.delete_rows.Goals as goal

pub delete_along-requires-clause-few : goal.delete_along-requires-clause-few
delete_along-requires-clause-few g c = omega (arith, ap length c.as_slice-columns.ensures.value, c.columns.ensures.fits.few_columns)

pub delete_along-requires-clause-whole : goal.delete_along-requires-clause-whole
delete_along-requires-clause-whole g c =
    let there = slice_get c.args.catalog.now.tables c.args.table in
    let e = entry-of (λ (x : CatalogTable). x.pages) there c.table_data-data.result c.table_data-data.ensures in
    let columns = entry-is (λ (x : CatalogTable). x.columns) there e.0 c.columns.result.now.items c.columns.ensures.value e.1 ∙ sym c.as_slice-columns.ensures.value in
    subst (λ d. StandsOver (g.S.Pages.state c.args.space.now) d c.as_slice-columns.result.now) e.2
    (subst (StandsOver (g.S.Pages.state c.args.space.now) e.0.pages) columns (c.requires.stands e.0 e.1))
