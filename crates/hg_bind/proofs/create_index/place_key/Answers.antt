use Rattle.std.proofs.Common.{refl, sym, ◌∙◌, ap, subst, Some}
use Rattle.std.specs.Prelude.{option_map, nat_lt, nat_le}
use Rattle.std.proofs.lemmas.List.{length-map}
use Rattle.hg_bind.specs.Bound.{error_of, tables_of, indexes_of, index_of, IsPlacedIndex}
use Rattle.hg_bind.proofs.Creating.{below_test, not_below_test, at_most_test, above_test}
use Rattle.hg_bind.proofs.Indexing.{index_taken, no_room, index_unknown, column_unknown, column_twice, index_long, index_placed}
use Rattle.hg_bind.proofs.NameCauses.{unanswered}
use Rattle.hg_bind.proofs.NamedTables.{unnamed, table_is, columns_are, no_rows}
use Rattle.hg_bind.proofs.create_index.place_key.Goals as goal

pub returns-then-is_index-clause-err : goal.returns-then-is_index-clause-err
returns-then-is_index-clause-err c unique =
    ap (option_map error_of) (index_taken (tables_of c.args.catalog.now) (indexes_of c.args.catalog.now) (record { name = c.args.name.now; table = c.args.table.now; unique = unique; columns = c.args.names.now }) (sym c.is_index.ensures ∙ c.if-is_index.true))
    ∙ ap Some (sym c.name_taken.ensures)

pub returns-then-index_count-ge64-clause-err : goal.returns-then-index_count-ge64-clause-err
returns-then-index_count-ge64-clause-err c unique =
    ap (option_map error_of) (no_room (tables_of c.args.catalog.now) (indexes_of c.args.catalog.now) (record { name = c.args.name.now; table = c.args.table.now; unique = unique; columns = c.args.names.now })
    (sym c.is_index.ensures ∙ c.if-is_index.false)
    (ap (nat_le 64) (length-map c.args.catalog.now.indexes (index_of c.args.catalog.now.tables) ∙ sym c.index_count.ensures.value) ∙ at_most_test 64 c.index_count.result c.if-index_count-ge64.true))
    ∙ ap Some (sym c.too_many.ensures)

pub returns-in_default-clause-err : goal.returns-in_default-clause-err
returns-in_default-clause-err c unique =
    ap (option_map error_of) (index_unknown (tables_of c.args.catalog.now) (indexes_of c.args.catalog.now) (record { name = c.args.name.now; table = c.args.table.now; unique = unique; columns = c.args.names.now })
    (sym c.is_index.ensures ∙ c.if-is_index.false)
    (ap (nat_le 64) (length-map c.args.catalog.now.indexes (index_of c.args.catalog.now.tables) ∙ sym c.index_count.ensures.value) ∙ above_test 64 c.index_count.result c.if-index_count-ge64.false)
    (unnamed c.args.table.now c.args.catalog.now (sym c.table.ensures.value ∙ c.in_default.is)))
    ∙ ap Some (sym c.unknown_table.ensures)

pub returns-in-Err-clause-err : goal.returns-in-Err-clause-err
returns-in-Err-clause-err c unique =
    let number = sym c.table.ensures.value ∙ c.in-Some.is in
    let columns = c.columns.ensures.value ∙ ap Some (sym c.as_slice-columns.ensures.value) in
    column_unknown (tables_of c.args.catalog.now) (indexes_of c.args.catalog.now) (record { name = c.args.name.now; table = c.args.table.now; unique = unique; columns = c.args.names.now })
    (sym c.is_index.ensures ∙ c.if-is_index.false)
    (ap (nat_le 64) (length-map c.args.catalog.now.indexes (index_of c.args.catalog.now.tables) ∙ sym c.index_count.ensures.value) ∙ above_test 64 c.index_count.result c.if-index_count-ge64.false)
    c.in-Some.number c.as_slice-columns.result.now
    (table_is c.args.table.now c.args.catalog.now c.in-Some.number c.as_slice-columns.result.now number columns)
    (columns_are c.args.table.now c.args.catalog.now c.in-Some.number c.as_slice-columns.result.now number columns)
    c.args.names.now refl c.in-Err.error c.in-Err.ensures.err

pub returns-in-Some-repeated-clause-err : goal.returns-in-Some-repeated-clause-err
returns-in-Some-repeated-clause-err c unique =
    let number = sym c.table.ensures.value ∙ c.in-Some.is in
    let columns = c.columns.ensures.value ∙ ap Some (sym c.as_slice-columns.ensures.value) in
    column_twice (tables_of c.args.catalog.now) (indexes_of c.args.catalog.now) (record { name = c.args.name.now; table = c.args.table.now; unique = unique; columns = c.args.names.now })
    (sym c.is_index.ensures ∙ c.if-is_index.false)
    (ap (nat_le 64) (length-map c.args.catalog.now.indexes (index_of c.args.catalog.now.tables) ∙ sym c.index_count.ensures.value) ∙ above_test 64 c.index_count.result c.if-index_count-ge64.false)
    c.in-Some.number c.as_slice-columns.result.now
    (table_is c.args.table.now c.args.catalog.now c.in-Some.number c.as_slice-columns.result.now number columns)
    (columns_are c.args.table.now c.args.catalog.now c.in-Some.number c.as_slice-columns.result.now number columns)
    c.args.names.now refl
    c.in_default-list_known.ensures.ok c.in-Some-repeated.error (sym c.repeated.ensures ∙ c.in-Some-repeated.is)

pub returns-then-key_length-gt512-clause-err : goal.returns-then-key_length-gt512-clause-err
returns-then-key_length-gt512-clause-err c unique =
    let number = sym c.table.ensures.value ∙ c.in-Some.is in
    let columns = c.columns.ensures.value ∙ ap Some (sym c.as_slice-columns.ensures.value) in
    ap (option_map error_of) (index_long (tables_of c.args.catalog.now) (indexes_of c.args.catalog.now) (record { name = c.args.name.now; table = c.args.table.now; unique = unique; columns = c.args.names.now })
    (sym c.is_index.ensures ∙ c.if-is_index.false)
    (ap (nat_le 64) (length-map c.args.catalog.now.indexes (index_of c.args.catalog.now.tables) ∙ sym c.index_count.ensures.value) ∙ above_test 64 c.index_count.result c.if-index_count-ge64.false)
    c.in-Some.number c.as_slice-columns.result.now
    (table_is c.args.table.now c.args.catalog.now c.in-Some.number c.as_slice-columns.result.now number columns)
    (columns_are c.args.table.now c.args.catalog.now c.in-Some.number c.as_slice-columns.result.now number columns)
    c.args.names.now refl
    c.in_default-list_known.ensures.ok
    (unanswered _ (sym c.repeated.ensures ∙ c.in_default-repeated.is)) c.as_slice.result.now (c.as_slice.ensures.value ∙ c.in_default-list_known.ensures.numbers)
    (ap (nat_lt 512) (sym c.key_length.ensures) ∙ below_test 512 c.key_length.result c.if-key_length-gt512.true))
    ∙ ap Some (sym c.key_too_long.ensures)

pub returns-clause-ok : goal.returns-clause-ok
returns-clause-ok c unique =
    let number = sym c.table.ensures.value ∙ c.in-Some.is in
    let columns = c.columns.ensures.value ∙ ap Some (sym c.as_slice-columns.ensures.value) in
    subst (IsPlacedIndex (tables_of c.args.catalog.now) (indexes_of c.args.catalog.now) (record { name = c.args.name.now; table = c.args.table.now; unique = unique; columns = c.args.names.now }) c.in-Some.number) c.as_slice.ensures.value
    (index_placed (tables_of c.args.catalog.now) (indexes_of c.args.catalog.now) (record { name = c.args.name.now; table = c.args.table.now; unique = unique; columns = c.args.names.now })
    (sym c.is_index.ensures ∙ c.if-is_index.false)
    (ap (nat_le 64) (length-map c.args.catalog.now.indexes (index_of c.args.catalog.now.tables) ∙ sym c.index_count.ensures.value) ∙ above_test 64 c.index_count.result c.if-index_count-ge64.false)
    c.in-Some.number c.as_slice-columns.result.now
    (table_is c.args.table.now c.args.catalog.now c.in-Some.number c.as_slice-columns.result.now number columns)
    (columns_are c.args.table.now c.args.catalog.now c.in-Some.number c.as_slice-columns.result.now number columns)
    c.args.names.now refl
    c.in_default-list_known.ensures.ok
    (unanswered _ (sym c.repeated.ensures ∙ c.in_default-repeated.is)) c.as_slice.result.now (c.as_slice.ensures.value ∙ c.in_default-list_known.ensures.numbers)
    (ap (nat_lt 512) (sym c.key_length.ensures) ∙ not_below_test 512 c.key_length.result c.if-key_length-gt512.false)
    (no_rows c.args.table.now c.args.catalog.now))
