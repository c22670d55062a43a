use Rattle.std.proofs.Common.{◌≡◌, Some, refl, subst}
use Rattle.hg_catalog.specs.Contents.{Contents, CatalogTable}
use Rattle.std.specs.Prelude.{option_map, slice_get}
use Rattle.hg_catalog.proofs.Listing.{table_at}
use Rattle.hg_catalog.proofs.catalog.Catalog.table_data.Goals as goal

pub returns : goal.returns
returns c =
    subst (λ (v : Contents). option_map (λ (x : CatalogTable). x.pages) (slice_get v.tables c.args.t) ≡ Some c.index.result.now.pages) c.self.view_is
    (table_at (λ (x : CatalogTable). x.pages) (λ e. e.pages) (λ n v. refl) c.self.inside.tables.entries c.args.t c.index.result.now c.index.ensures)
