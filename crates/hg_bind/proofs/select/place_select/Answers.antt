use Rattle.std.proofs.Common.{◌≤◌, refl, sym, ◌∙◌, ap, subst, length}
use Rattle.hg_model.specs.Query.{query_of}
use Rattle.hg_model.specs.Scope.{positions_of, scope_from, scope_of}
use Rattle.hg_bind.specs.Bound.{tables_of}
use Rattle.hg_bind.specs.BoundSelect.{places_with, written_with}
use Rattle.hg_bind.proofs.NamedColumns.{named_count, positions_count}
use Rattle.hg_bind.proofs.Selection.{select_bound, select_refused, select_unknown}
use Rattle.hg_bind.proofs.select.place_select.Goals as goal

pub returns-in-Err-clause-err : goal.returns-in-Err-clause-err
returns-in-Err-clause-err c =
    let q = query_of c.args.select.now in
    let tables = tables_of c.args.catalog.now in
    select_unknown tables q c.as_slice.result.now (scope_of tables q) (positions_of (scope_of tables q) q) c.as_slice.ensures.value refl refl c.in-Err.error c.in-Err.ensures.err

pub refuse_select-requires-clause-each : goal.refuse_select-requires-clause-each
refuse_select-requires-clause-each c =
    ap length (c.as_slice-positions.ensures.value ∙ c.list_positions.ensures) ∙ positions_count c.as_slice-scope.result.now (query_of c.args.select.now) 0 c.args.select.now.nodes.items

pub returns-in-Some-clause-err : goal.returns-in-Some-clause-err
returns-in-Some-clause-err c =
    let q = query_of c.args.select.now in
    let tables = tables_of c.args.catalog.now in
    select_refused tables q c.as_slice.result.now c.as_slice-scope.result.now c.as_slice-positions.result.now c.as_slice.ensures.value
    (c.as_slice-scope.ensures.value ∙ c.list_scope.ensures.columns ∙ ap (scope_from tables 0) c.as_slice-2.ensures.value)
    (c.as_slice-positions.ensures.value ∙ c.list_positions.ensures) c.in_default.ensures.ok c.in-Some.error (sym c.refuse_select.ensures.value ∙ c.in-Some.is)

pub list_places-requires-clause-few : goal.list_places-requires-clause-few
list_places-requires-clause-few c =
    subst (λ n. n ≤ 96)
    (sym (ap length (c.as_slice-5.ensures.value ∙ c.list_named.ensures) ∙ named_count c.as_slice-scope.result.now c.as_slice-positions.result.now (query_of c.args.select.now) 0 c.args.select.now.nodes.items))
    c.requires.few_nodes

pub write_out-requires-clause-each : goal.write_out-requires-clause-each
write_out-requires-clause-each c =
    ap length (c.as_slice-6.ensures.value ∙ c.list_named.ensures) ∙ named_count c.as_slice-scope.result.now c.as_slice-positions.result.now (query_of c.args.select.now) 0 c.args.select.now.nodes.items

pub returns-clause-ok : goal.returns-clause-ok
returns-clause-ok c =
    let q = query_of c.args.select.now in
    let tables = tables_of c.args.catalog.now in
    select_bound tables q c.as_slice.result.now c.as_slice-scope.result.now c.as_slice-positions.result.now c.as_slice.ensures.value
    (c.as_slice-scope.ensures.value ∙ c.list_scope.ensures.columns ∙ ap (scope_from tables 0) c.as_slice-2.ensures.value)
    (c.as_slice-positions.ensures.value ∙ c.list_positions.ensures) c.in_default.ensures.ok c.list_tables.new.tables.items c.list_named.new.named.items c.list_keys.new.keys.items (query_of c.write_out.new.select)
    c.list_places.new.places.items (sym c.refuse_select.ensures.value ∙ c.in_default-refuse_select.is) c.in_default.ensures.tables c.list_named.ensures c.list_keys.ensures
    (c.write_out.ensures ∙ ap (λ n. written_with c.as_slice-scope.result.now n c.list_keys.new.keys.items q) c.as_slice-6.ensures.value)
    (c.list_places.ensures ∙ ap (λ n. places_with c.as_slice-scope.result.now n q) c.as_slice-5.ensures.value)
