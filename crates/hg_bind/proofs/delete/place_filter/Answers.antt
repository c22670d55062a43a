use Rattle.std.proofs.Common.{refl, sym, ◌∙◌, ap, subst, Some}
use Rattle.std.specs.Prelude.{option_map}
use Rattle.hg_bind.specs.Bound.{error_of, tables_of, IsPlacedDelete}
use Rattle.hg_bind.proofs.Deletion.{delete_unknown, delete_names, delete_mixes, delete_behind, delete_placed}
use Rattle.hg_bind.proofs.NameCauses.{unanswered}
use Rattle.hg_bind.proofs.NamedTables.{unnamed, table_is, columns_are}
use Rattle.hg_bind.proofs.delete.place_filter.Goals as goal

pub returns-in_default-clause-err : goal.returns-in_default-clause-err
returns-in_default-clause-err c =
    ap (option_map error_of) (delete_unknown (tables_of c.args.catalog.now) (record { table = c.args.table.now; filter = c.args.filter; nodes = c.args.nodes.now })
    (unnamed c.args.table.now c.args.catalog.now (sym c.table.ensures.value ∙ c.in_default.is))) ∙ ap Some (sym c.unknown_table.ensures)

pub returns-in-Err-clause-err : goal.returns-in-Err-clause-err
returns-in-Err-clause-err c =
    let number = sym c.table.ensures.value ∙ c.in-Some.is in
    let columns = c.columns.ensures.value ∙ ap Some (sym c.as_slice-columns.ensures.value) in
    delete_names (tables_of c.args.catalog.now) (record { table = c.args.table.now; filter = c.args.filter; nodes = c.args.nodes.now }) c.in-Some.number c.as_slice-columns.result.now
    (table_is c.args.table.now c.args.catalog.now c.in-Some.number c.as_slice-columns.result.now number columns)
    (columns_are c.args.table.now c.args.catalog.now c.in-Some.number c.as_slice-columns.result.now number columns)
    c.args.nodes.now refl c.in-Err.error c.in-Err.ensures.err

pub returns-then-not-types_fit-clause-err : goal.returns-then-not-types_fit-clause-err
returns-then-not-types_fit-clause-err c =
    let number = sym c.table.ensures.value ∙ c.in-Some.is in
    let columns = c.columns.ensures.value ∙ ap Some (sym c.as_slice-columns.ensures.value) in
    ap (option_map error_of) (delete_mixes (tables_of c.args.catalog.now) (record { table = c.args.table.now; filter = c.args.filter; nodes = c.args.nodes.now }) c.in-Some.number c.as_slice-columns.result.now
    (table_is c.args.table.now c.args.catalog.now c.in-Some.number c.as_slice-columns.result.now number columns)
    (columns_are c.args.table.now c.args.catalog.now c.in-Some.number c.as_slice-columns.result.now number columns)
    c.args.nodes.now refl
    c.as_slice.result.now (c.as_slice.ensures.value ∙ c.in_default-place_nodes.ensures.places) c.in_default-place_nodes.ensures.ok
    (sym c.types_fit.ensures ∙ c.if-not-types_fit.true)) ∙ ap Some (sym c.type_mismatch.ensures)

pub returns-in-Some-last_cause-clause-err : goal.returns-in-Some-last_cause-clause-err
returns-in-Some-last_cause-clause-err c =
    let number = sym c.table.ensures.value ∙ c.in-Some.is in
    let columns = c.columns.ensures.value ∙ ap Some (sym c.as_slice-columns.ensures.value) in
    ap (option_map error_of) (delete_behind (tables_of c.args.catalog.now) (record { table = c.args.table.now; filter = c.args.filter; nodes = c.args.nodes.now }) c.in-Some.number c.as_slice-columns.result.now
    (table_is c.args.table.now c.args.catalog.now c.in-Some.number c.as_slice-columns.result.now number columns)
    (columns_are c.args.table.now c.args.catalog.now c.in-Some.number c.as_slice-columns.result.now number columns)
    c.args.nodes.now refl
    c.as_slice.result.now (c.as_slice.ensures.value ∙ c.in_default-place_nodes.ensures.places) c.in_default-place_nodes.ensures.ok
    (sym c.types_fit.ensures ∙ c.if-not-types_fit.false)) ∙ sym c.last_cause.ensures ∙ c.in-Some-last_cause.is

pub returns-in-None-clause-ok : goal.returns-in-None-clause-ok
returns-in-None-clause-ok c =
    let number = sym c.table.ensures.value ∙ c.in-Some.is in
    let columns = c.columns.ensures.value ∙ ap Some (sym c.as_slice-columns.ensures.value) in
    subst (IsPlacedDelete (tables_of c.args.catalog.now) (record { table = c.args.table.now; filter = c.args.filter; nodes = c.args.nodes.now }) c.in-Some.number) c.as_slice.ensures.value
    (delete_placed (tables_of c.args.catalog.now) (record { table = c.args.table.now; filter = c.args.filter; nodes = c.args.nodes.now }) c.in-Some.number c.as_slice-columns.result.now
    (table_is c.args.table.now c.args.catalog.now c.in-Some.number c.as_slice-columns.result.now number columns)
    (columns_are c.args.table.now c.args.catalog.now c.in-Some.number c.as_slice-columns.result.now number columns)
    c.args.nodes.now refl
    c.as_slice.result.now (c.as_slice.ensures.value ∙ c.in_default-place_nodes.ensures.places) c.in_default-place_nodes.ensures.ok
    (sym c.types_fit.ensures ∙ c.if-not-types_fit.false) (unanswered _ (sym c.last_cause.ensures ∙ c.in-None.is)))
