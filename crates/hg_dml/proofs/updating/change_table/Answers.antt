use Rattle.std.proofs.Common.{◌≡◌, sym, ◌∙◌, ap, subst, arith, length, List, true, Some}
use Rattle.std.specs.Prelude.{◌-◌, slice_get}
use Rattle.hg_base.specs.declared.Table.{Table}
use Rattle.hg_catalog.specs.Contents.{CatalogTable}
use Rattle.hg_model.specs.SelectMeaning.{node_values}
use Rattle.hg_model.specs.Tables.{fits_columns}
use Rattle.hg_model.specs.declared.values.Value.{Value}
use Rattle.hg_table.specs.Marks.{committed}
use Rattle.hg_dml.specs.Filtering.{row_passes}
use Rattle.hg_dml.specs.Inserting.{StandsOver}
use Rattle.hg_dml.specs.Making.{no_nodes, row_picked}
use Rattle.hg_dml.specs.Updating.{row_set}
use Rattle.hg_dml.proofs.MakingLaws.{made-so, length-set_nodes, length-no_nodes, fits-length}
use Rattle.hg_dml.proofs.Told.{entry-of, entry-is}
use Rattle.hg_dml.proofs.UpdateLaws.{tell-updated, tell-refused, tell-failed}
use Rattle.hg_dml.proofs.updating.change_table.Goals as goal

pub list_nodes-requires-clause-few : goal.list_nodes-requires-clause-few
list_nodes-requires-clause-few g c = omega (arith, ap length c.as_slice-columns.ensures.value, c.columns.ensures.fits.few_columns)

pub change_rows-requires-clause-change : goal.change_rows-requires-clause-change
change_rows-requires-clause-change g c = record {
  filter = c.requires.filter;
  few = omega (arith, ap length c.as_slice-columns.ensures.value, c.columns.ensures.fits.few_columns);
  as_long = ap length (c.as_slice.ensures.value ∙ c.list_nodes.ensures)
      ∙ length-set_nodes c.args.sets.now.targets.now c.args.sets.now.items.now (no_nodes (length c.as_slice-columns.result.now)) ∙ length-no_nodes (length c.as_slice-columns.result.now);
}

pub change_rows-requires-clause-some : goal.change_rows-requires-clause-some
change_rows-requires-clause-some g c = omega (arith, ap length c.as_slice-columns.ensures.value, c.columns.ensures.fits.some_columns)

pub change_rows-requires-clause-whole : goal.change_rows-requires-clause-whole
change_rows-requires-clause-whole g c =
    let there = slice_get c.args.catalog.now.tables c.args.table in
    let e = entry-of (λ (x : CatalogTable). x.columns) there c.columns.result.now.items c.columns.ensures.value in
    let columns = e.2 ∙ sym c.as_slice-columns.ensures.value in
    subst (λ (d : Table). StandsOver (g.S.Pages.state c.args.space.now) d c.as_slice-columns.result.now) (sym (c.requires.data e.0 e.1))
    (subst (StandsOver (g.S.Pages.state c.args.space.now) e.0.pages) columns (c.requires.stands e.0 e.1))

pub returns-clause-ok : goal.returns-clause-ok
returns-clause-ok g c =
    let there = slice_get c.args.catalog.now.tables c.args.table in
    let width = length c.as_slice-columns.result.now in
    let known : (t : CatalogTable) → there ≡ Some t → (c.args.data.now ≡ t.pages) × (c.as_slice-columns.result.now ≡ t.columns) = λ t is.
    (c.requires.data t is, c.as_slice-columns.ensures.value ∙ sym (entry-is (λ (x : CatalogTable). x.columns) there t c.columns.result.now.items c.columns.ensures.value is)) in
    let same : (row : List Value) → fits_columns c.as_slice-columns.result.now row ≡ true
    → row_picked (node_values c.args.filter.now.texts.now c.args.filter.now.columns.now c.args.filter.now.nodes.now row) c.as_slice.result.now row ≡ row_set c.args.filter.now.texts.now c.args.filter.now.columns.now c.args.filter.now.nodes.now c.args.sets.now.targets.now c.args.sets.now.items.now row = λ row fits.
    ap (λ ns. row_picked (node_values c.args.filter.now.texts.now c.args.filter.now.columns.now c.args.filter.now.nodes.now row) ns row) (c.as_slice.ensures.value ∙ c.list_nodes.ensures)
    ∙ made-so (node_values c.args.filter.now.texts.now c.args.filter.now.columns.now c.args.filter.now.nodes.now row) c.args.sets.now.targets.now c.args.sets.now.items.now width row (fits-length c.as_slice-columns.result.now row fits) in
    tell-updated (g.S.Pages.state c.args.space.now) (g.S.Pages.state c.change_rows.new.space) c.args.data.now c.change_rows.new.data c.as_slice-columns.result.now (committed c.args.stamps.now) (c.args.stamp.0 - 1) c.args.stamp.0
    (row_passes c.args.filter.now.texts.now c.args.filter.now.columns.now c.args.filter.now.nodes.now c.args.filter.now.condition) (λ row. row_picked (node_values c.args.filter.now.texts.now c.args.filter.now.columns.now c.args.filter.now.nodes.now row) c.as_slice.result.now row)
    (row_set c.args.filter.now.texts.now c.args.filter.now.columns.now c.args.filter.now.nodes.now c.args.sets.now.targets.now c.args.sets.now.items.now) same c.args.catalog.now.tables c.args.table known c.change_rows.result c.change_rows.ensures.ok

pub returns-clause-refused : goal.returns-clause-refused
returns-clause-refused g c =
    let there = slice_get c.args.catalog.now.tables c.args.table in
    let width = length c.as_slice-columns.result.now in
    let known : (t : CatalogTable) → there ≡ Some t → (c.args.data.now ≡ t.pages) × (c.as_slice-columns.result.now ≡ t.columns) = λ t is.
    (c.requires.data t is, c.as_slice-columns.ensures.value ∙ sym (entry-is (λ (x : CatalogTable). x.columns) there t c.columns.result.now.items c.columns.ensures.value is)) in
    let same : (row : List Value) → fits_columns c.as_slice-columns.result.now row ≡ true
    → row_picked (node_values c.args.filter.now.texts.now c.args.filter.now.columns.now c.args.filter.now.nodes.now row) c.as_slice.result.now row ≡ row_set c.args.filter.now.texts.now c.args.filter.now.columns.now c.args.filter.now.nodes.now c.args.sets.now.targets.now c.args.sets.now.items.now row = λ row fits.
    ap (λ ns. row_picked (node_values c.args.filter.now.texts.now c.args.filter.now.columns.now c.args.filter.now.nodes.now row) ns row) (c.as_slice.ensures.value ∙ c.list_nodes.ensures)
    ∙ made-so (node_values c.args.filter.now.texts.now c.args.filter.now.columns.now c.args.filter.now.nodes.now row) c.args.sets.now.targets.now c.args.sets.now.items.now width row (fits-length c.as_slice-columns.result.now row fits) in
    tell-refused (g.S.Pages.state c.args.space.now) (g.S.Pages.state c.change_rows.new.space) c.args.data.now c.change_rows.new.data c.as_slice-columns.result.now (committed c.args.stamps.now) (c.args.stamp.0 - 1) c.args.stamp.0
    (row_passes c.args.filter.now.texts.now c.args.filter.now.columns.now c.args.filter.now.nodes.now c.args.filter.now.condition) (λ row. row_picked (node_values c.args.filter.now.texts.now c.args.filter.now.columns.now c.args.filter.now.nodes.now row) c.as_slice.result.now row)
    (row_set c.args.filter.now.texts.now c.args.filter.now.columns.now c.args.filter.now.nodes.now c.args.sets.now.targets.now c.args.sets.now.items.now) same c.args.catalog.now.tables c.args.table known c.change_rows.result c.change_rows.ensures.refused

pub returns-clause-fault : goal.returns-clause-fault
returns-clause-fault g c =
    let there = slice_get c.args.catalog.now.tables c.args.table in
    let width = length c.as_slice-columns.result.now in
    let known : (t : CatalogTable) → there ≡ Some t → (c.args.data.now ≡ t.pages) × (c.as_slice-columns.result.now ≡ t.columns) = λ t is.
    (c.requires.data t is, c.as_slice-columns.ensures.value ∙ sym (entry-is (λ (x : CatalogTable). x.columns) there t c.columns.result.now.items c.columns.ensures.value is)) in
    let same : (row : List Value) → fits_columns c.as_slice-columns.result.now row ≡ true
    → row_picked (node_values c.args.filter.now.texts.now c.args.filter.now.columns.now c.args.filter.now.nodes.now row) c.as_slice.result.now row ≡ row_set c.args.filter.now.texts.now c.args.filter.now.columns.now c.args.filter.now.nodes.now c.args.sets.now.targets.now c.args.sets.now.items.now row = λ row fits.
    ap (λ ns. row_picked (node_values c.args.filter.now.texts.now c.args.filter.now.columns.now c.args.filter.now.nodes.now row) ns row) (c.as_slice.ensures.value ∙ c.list_nodes.ensures)
    ∙ made-so (node_values c.args.filter.now.texts.now c.args.filter.now.columns.now c.args.filter.now.nodes.now row) c.args.sets.now.targets.now c.args.sets.now.items.now width row (fits-length c.as_slice-columns.result.now row fits) in
    tell-failed (g.S.Pages.state c.args.space.now) (g.S.Pages.state c.change_rows.new.space) c.args.data.now c.change_rows.new.data c.as_slice-columns.result.now (committed c.args.stamps.now) (c.args.stamp.0 - 1) c.args.stamp.0
    (row_passes c.args.filter.now.texts.now c.args.filter.now.columns.now c.args.filter.now.nodes.now c.args.filter.now.condition) (λ row. row_picked (node_values c.args.filter.now.texts.now c.args.filter.now.columns.now c.args.filter.now.nodes.now row) c.as_slice.result.now row)
    (row_set c.args.filter.now.texts.now c.args.filter.now.columns.now c.args.filter.now.nodes.now c.args.sets.now.targets.now c.args.sets.now.items.now) same c.args.catalog.now.tables c.args.table known c.change_rows.result c.change_rows.ensures.fault
