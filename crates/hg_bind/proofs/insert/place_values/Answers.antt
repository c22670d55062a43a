use Rattle.std.proofs.Common.{refl, sym, ◌∙◌, ap, subst, Some}
use Rattle.std.specs.Prelude.{option_map}
use Rattle.hg_bind.specs.Bound.{error_of, tables_of, IsPlacedInsert}
use Rattle.hg_bind.proofs.Insertion.{insert_unknown, insert_names, insert_mixes, insert_placed}
use Rattle.hg_bind.proofs.NamedTables.{unnamed, table_is, columns_are}
use Rattle.hg_bind.proofs.insert.place_values.Goals as goal

pub returns-in_default-clause-err : goal.returns-in_default-clause-err
returns-in_default-clause-err c =
    ap (option_map error_of) (insert_unknown (tables_of c.args.catalog.now) (record { table = c.args.table.now; columns = c.args.names.now; values = c.args.values.now; ends = c.args.ends.now })
    (unnamed c.args.table.now c.args.catalog.now (sym c.table.ensures.value ∙ c.in_default.is))) ∙ ap Some (sym c.unknown_table.ensures)

pub returns-in-Err-clause-err : goal.returns-in-Err-clause-err
returns-in-Err-clause-err c =
    let number = sym c.table.ensures.value ∙ c.in-Some.is in
    let columns = c.columns.ensures.value ∙ ap Some (sym c.as_slice-columns.ensures.value) in
    insert_names (tables_of c.args.catalog.now) (record { table = c.args.table.now; columns = c.args.names.now; values = c.args.values.now; ends = c.args.ends.now }) c.in-Some.number c.as_slice-columns.result.now
    (table_is c.args.table.now c.args.catalog.now c.in-Some.number c.as_slice-columns.result.now number columns)
    (columns_are c.args.table.now c.args.catalog.now c.in-Some.number c.as_slice-columns.result.now number columns)
    c.args.names.now c.in-Err.error refl c.in-Err.ensures.err

pub returns-then-not-tuples_fit-clause-err : goal.returns-then-not-tuples_fit-clause-err
returns-then-not-tuples_fit-clause-err c =
    let number = sym c.table.ensures.value ∙ c.in-Some.is in
    let columns = c.columns.ensures.value ∙ ap Some (sym c.as_slice-columns.ensures.value) in
    ap (option_map error_of) (insert_mixes (tables_of c.args.catalog.now) (record { table = c.args.table.now; columns = c.args.names.now; values = c.args.values.now; ends = c.args.ends.now }) c.in-Some.number c.as_slice-columns.result.now
    (table_is c.args.table.now c.args.catalog.now c.in-Some.number c.as_slice-columns.result.now number columns)
    (columns_are c.args.table.now c.args.catalog.now c.in-Some.number c.as_slice-columns.result.now number columns)
    c.args.names.now c.as_slice.result.now c.args.ends.now c.args.values.now
    refl (c.as_slice.ensures.value ∙ c.in_default-list_targets.ensures.targets) refl refl
    c.in_default-list_targets.ensures.ok (sym c.tuples_fit.ensures ∙ c.if-not-tuples_fit.true)) ∙ ap Some (sym c.type_mismatch.ensures)

pub returns-clause-ok : goal.returns-clause-ok
returns-clause-ok c =
    let number = sym c.table.ensures.value ∙ c.in-Some.is in
    let columns = c.columns.ensures.value ∙ ap Some (sym c.as_slice-columns.ensures.value) in
    subst (IsPlacedInsert (tables_of c.args.catalog.now) (record { table = c.args.table.now; columns = c.args.names.now; values = c.args.values.now; ends = c.args.ends.now }) c.in-Some.number) c.as_slice.ensures.value
    (insert_placed (tables_of c.args.catalog.now) (record { table = c.args.table.now; columns = c.args.names.now; values = c.args.values.now; ends = c.args.ends.now }) c.in-Some.number c.as_slice-columns.result.now
    (table_is c.args.table.now c.args.catalog.now c.in-Some.number c.as_slice-columns.result.now number columns)
    (columns_are c.args.table.now c.args.catalog.now c.in-Some.number c.as_slice-columns.result.now number columns)
    c.args.names.now c.as_slice.result.now c.args.ends.now c.args.values.now
    refl (c.as_slice.ensures.value ∙ c.in_default-list_targets.ensures.targets) refl refl
    c.in_default-list_targets.ensures.ok (sym c.tuples_fit.ensures ∙ c.if-not-tuples_fit.false))
