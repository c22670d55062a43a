use Rattle.std.proofs.Common.{refl, sym, ◌∙◌, ap, subst, Some}
use Rattle.std.specs.Prelude.{option_map}
use Rattle.hg_bind.specs.Bound.{error_of, tables_of, IsPlacedUpdate}
use Rattle.hg_bind.proofs.NameCauses.{unanswered}
use Rattle.hg_bind.proofs.NamedTables.{unnamed, table_is, columns_are}
use Rattle.hg_bind.proofs.Updating.{update_unknown, update_targets_refused, update_names, update_mixes, update_behind, update_placed}
use Rattle.hg_bind.proofs.update.place_sets.Goals as goal

pub returns-in_default-clause-err : goal.returns-in_default-clause-err
returns-in_default-clause-err c =
    ap (option_map error_of) (update_unknown (tables_of c.args.catalog.now) (record { table = c.args.table.now; sets = c.args.sets.now; filter = c.args.filter; nodes = c.args.nodes.now })
    (unnamed c.args.table.now c.args.catalog.now (sym c.table.ensures.value ∙ c.in_default.is))) ∙ ap Some (sym c.unknown_table.ensures)

pub returns-in-Err-clause-err : goal.returns-in-Err-clause-err
returns-in-Err-clause-err c =
    let number = sym c.table.ensures.value ∙ c.in-Some.is in
    let columns = c.columns.ensures.value ∙ ap Some (sym c.as_slice-columns.ensures.value) in
    update_targets_refused (tables_of c.args.catalog.now) (record { table = c.args.table.now; sets = c.args.sets.now; filter = c.args.filter; nodes = c.args.nodes.now }) c.in-Some.number c.as_slice-columns.result.now
    (table_is c.args.table.now c.args.catalog.now c.in-Some.number c.as_slice-columns.result.now number columns)
    (columns_are c.args.table.now c.args.catalog.now c.in-Some.number c.as_slice-columns.result.now number columns)
    c.args.sets.now refl c.in-Err.error c.in-Err.ensures.err

pub returns-in-Err-place_nodes-clause-err : goal.returns-in-Err-place_nodes-clause-err
returns-in-Err-place_nodes-clause-err c =
    let number = sym c.table.ensures.value ∙ c.in-Some.is in
    let columns = c.columns.ensures.value ∙ ap Some (sym c.as_slice-columns.ensures.value) in
    update_names (tables_of c.args.catalog.now) (record { table = c.args.table.now; sets = c.args.sets.now; filter = c.args.filter; nodes = c.args.nodes.now }) c.in-Some.number c.as_slice-columns.result.now
    (table_is c.args.table.now c.args.catalog.now c.in-Some.number c.as_slice-columns.result.now number columns)
    (columns_are c.args.table.now c.args.catalog.now c.in-Some.number c.as_slice-columns.result.now number columns)
    c.args.sets.now refl
    c.list_targets.new.targets.items c.in_default-list_targets.ensures.targets c.in_default-list_targets.ensures.ok
    c.args.nodes.now refl c.in-Err-place_nodes.error c.in-Err-place_nodes.ensures.err

pub returns-then-not-types_fit-clause-err : goal.returns-then-not-types_fit-clause-err
returns-then-not-types_fit-clause-err c =
    let number = sym c.table.ensures.value ∙ c.in-Some.is in
    let columns = c.columns.ensures.value ∙ ap Some (sym c.as_slice-columns.ensures.value) in
    ap (option_map error_of) (update_mixes (tables_of c.args.catalog.now) (record { table = c.args.table.now; sets = c.args.sets.now; filter = c.args.filter; nodes = c.args.nodes.now }) c.in-Some.number c.as_slice-columns.result.now
    (table_is c.args.table.now c.args.catalog.now c.in-Some.number c.as_slice-columns.result.now number columns)
    (columns_are c.args.table.now c.args.catalog.now c.in-Some.number c.as_slice-columns.result.now number columns)
    c.args.sets.now refl
    c.list_targets.new.targets.items c.in_default-list_targets.ensures.targets c.in_default-list_targets.ensures.ok
    c.args.nodes.now refl
    c.as_slice-2.result.now (c.as_slice-2.ensures.value ∙ c.in_default-place_nodes.ensures.places) c.in_default-place_nodes.ensures.ok
    (sym c.types_fit.ensures ∙ c.if-not-types_fit.true)) ∙ ap Some (sym c.type_mismatch.ensures)

pub returns-in-Some-last_cause-clause-err : goal.returns-in-Some-last_cause-clause-err
returns-in-Some-last_cause-clause-err c =
    let number = sym c.table.ensures.value ∙ c.in-Some.is in
    let columns = c.columns.ensures.value ∙ ap Some (sym c.as_slice-columns.ensures.value) in
    ap (option_map error_of) (update_behind (tables_of c.args.catalog.now) (record { table = c.args.table.now; sets = c.args.sets.now; filter = c.args.filter; nodes = c.args.nodes.now }) c.in-Some.number c.as_slice-columns.result.now
    (table_is c.args.table.now c.args.catalog.now c.in-Some.number c.as_slice-columns.result.now number columns)
    (columns_are c.args.table.now c.args.catalog.now c.in-Some.number c.as_slice-columns.result.now number columns)
    c.args.sets.now refl
    c.list_targets.new.targets.items c.in_default-list_targets.ensures.targets c.in_default-list_targets.ensures.ok
    c.args.nodes.now refl
    c.as_slice-2.result.now (c.as_slice-2.ensures.value ∙ c.in_default-place_nodes.ensures.places) c.in_default-place_nodes.ensures.ok
    (sym c.types_fit.ensures ∙ c.if-not-types_fit.false)) ∙ sym c.last_cause.ensures ∙ c.in-Some-last_cause.is

pub returns-in-None-clause-ok : goal.returns-in-None-clause-ok
returns-in-None-clause-ok c =
    let number = sym c.table.ensures.value ∙ c.in-Some.is in
    let columns = c.columns.ensures.value ∙ ap Some (sym c.as_slice-columns.ensures.value) in
    subst (IsPlacedUpdate (tables_of c.args.catalog.now) (record { table = c.args.table.now; sets = c.args.sets.now; filter = c.args.filter; nodes = c.args.nodes.now }) c.in-Some.number c.list_targets.new.targets.items) c.as_slice-2.ensures.value
    (update_placed (tables_of c.args.catalog.now) (record { table = c.args.table.now; sets = c.args.sets.now; filter = c.args.filter; nodes = c.args.nodes.now }) c.in-Some.number c.as_slice-columns.result.now
    (table_is c.args.table.now c.args.catalog.now c.in-Some.number c.as_slice-columns.result.now number columns)
    (columns_are c.args.table.now c.args.catalog.now c.in-Some.number c.as_slice-columns.result.now number columns)
    c.args.sets.now refl
    c.list_targets.new.targets.items c.in_default-list_targets.ensures.targets c.in_default-list_targets.ensures.ok
    c.args.nodes.now refl
    c.as_slice-2.result.now (c.as_slice-2.ensures.value ∙ c.in_default-place_nodes.ensures.places) c.in_default-place_nodes.ensures.ok
    (sym c.types_fit.ensures ∙ c.if-not-types_fit.false) (unanswered _ (sym c.last_cause.ensures ∙ c.in-None.is)))
