use Rattle.std.proofs.Common.{◌≡◌, Some, refl, subst, map}
use Rattle.hg_catalog.specs.Contents.{Contents, CatalogTable, table_of_entry}
use Rattle.std.specs.Prelude.{option_map, slice_get}
use Rattle.hg_catalog.proofs.Listing.{table_at}
use Rattle.hg_catalog.proofs.Soundness.{columns_fit}
use Rattle.hg_catalog.proofs.catalog.Catalog.columns.Goals as goal

pub returns-clause-value : goal.returns-clause-value
returns-clause-value c =
    subst (λ (v : Contents). option_map (λ (x : CatalogTable). x.columns) (slice_get v.tables c.args.t) ≡ Some c.index.result.now.columns.items) c.self.view_is
    (table_at (λ (x : CatalogTable). x.columns) (λ e. e.columns.items) (λ n v. refl) c.self.inside.tables.entries c.args.t c.index.result.now c.index.ensures)

pub returns-clause-fits : goal.returns-clause-fits
returns-clause-fits c =
    columns_fit (map table_of_entry c.self.inside.tables.entries) c.args.t c.index.result.now.columns.items c.self.invariant.0.tables_fit
    (table_at (λ (x : CatalogTable). x.columns) (λ e. e.columns.items) (λ n v. refl) c.self.inside.tables.entries c.args.t c.index.result.now c.index.ensures)
