use Rattle.std.proofs.Common.{sym, ap, ◌∙◌}
use Rattle.hg_catalog.specs.Contents.{table_number}
use Rattle.hg_catalog.proofs.Listing.{position_of_name}
use Rattle.hg_catalog.proofs.catalog.Catalog.table.Goals as goal

pub returns-in-Some-clause-value : goal.returns-in-Some-clause-value
returns-in-Some-clause-value c =
    sym c.in-Some.is ∙ c.get_index_of.ensures.index ∙ position_of_name c.args.name.now c.self.inside.tables.entries
    ∙ ap (λ v. table_number v c.args.name.now) c.self.view_is

pub returns-in-None-clause-value : goal.returns-in-None-clause-value
returns-in-None-clause-value c =
    sym c.in-None.is ∙ c.get_index_of.ensures.index ∙ position_of_name c.args.name.now c.self.inside.tables.entries
    ∙ ap (λ v. table_number v c.args.name.now) c.self.view_is
