use Rattle.std.proofs.Common.{subst}
use Rattle.std.specs.Prelude.{slice_get}
use Rattle.hg_catalog.specs.Contents.{CatalogTable}
use Rattle.hg_dml.specs.Steps.{CanPut}
use Rattle.hg_dml.specs.Tuples.{rows_from}
use Rattle.hg_dml.proofs.Told.{entry-of}
use Rattle.hg_dml.proofs.insertion.put.Goals as goal

pub put_rows-result-requires-clause-whole : goal.put_rows-result-requires-clause-whole
put_rows-result-requires-clause-whole g c =
    let e = entry-of (λ (x : CatalogTable). x.pages) (slice_get c.args.catalog.now.tables c.args.table) c.table_data-data.result c.table_data-data.ensures in
    let stands = c.requires.stands e.0 e.1 in
    let ready = c.requires.ready e.0 e.1 in
    subst (λ d. CanPut (g.S.Pages.state c.args.space.now) d (rows_from c.args.texts.now c.args.sources.now c.args.values.now c.args.ends.now)) e.2
    (record { columns = e.0.columns; fit = ready.fit; pages = stands.pages; chain = stands.chain; whole = stands.whole })
