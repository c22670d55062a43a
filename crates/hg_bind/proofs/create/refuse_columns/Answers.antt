use Rattle.std.proofs.Common.{◌+◌, sym, ◌∙◌, ap, Some}
use Rattle.std.specs.Prelude.{option_map, nat_lt, nat_le}
use Rattle.std.specs.List.{count_by}
use Rattle.std.proofs.lemmas.List.{length-map}
use Rattle.hg_model.specs.Binding.{repeated_name}
use Rattle.hg_model.specs.Creation.{is_key}
use Rattle.hg_model.specs.declared.trees.NewColumn.{NewColumn}
use Rattle.hg_bind.specs.Bound.{error_of, tables_of, table_of, indexes_of, index_of, names_made}
use Rattle.hg_bind.proofs.Creating.{table_taken, column_repeated, two_primaries, tables_full, indexes_full, table_allowed, below_test, not_below_test, at_most_test, above_test}
use Rattle.hg_bind.proofs.NameCauses.{unanswered}
use Rattle.hg_bind.proofs.create.refuse_columns.Goals as goal

pub returns-then-is_table : goal.returns-then-is_table
returns-then-is_table c =
    ap Some c.name_taken.ensures
    ∙ sym (ap (option_map error_of) (table_taken (tables_of c.args.catalog.now) (indexes_of c.args.catalog.now) (record { name = c.args.name.now; columns = c.args.columns.now }) (sym c.is_table.ensures ∙ c.if-is_table.true)))

pub returns-in-Some : goal.returns-in-Some
returns-in-Some c =
    sym (column_repeated (tables_of c.args.catalog.now) (indexes_of c.args.catalog.now) (record { name = c.args.name.now; columns = c.args.columns.now })
    (sym c.is_table.ensures ∙ c.if-is_table.false) c.in-Some.error
    (sym c.repeated_column.ensures ∙ c.in-Some.is))

pub returns-then-count_primary-gt1 : goal.returns-then-count_primary-gt1
returns-then-count_primary-gt1 c =
    ap Some c.too_many.ensures
    ∙ sym (ap (option_map error_of) (two_primaries (tables_of c.args.catalog.now) (indexes_of c.args.catalog.now) (record { name = c.args.name.now; columns = c.args.columns.now })
    (sym c.is_table.ensures ∙ c.if-is_table.false)
    (unanswered _ (sym c.repeated_column.ensures ∙ c.in_default.is))
    (ap (nat_lt 1) (sym c.count_primary.ensures) ∙ below_test 1 c.count_primary.result c.if-count_primary-gt1.true)))

pub returns-then-table_count-ge64 : goal.returns-then-table_count-ge64
returns-then-table_count-ge64 c =
    ap Some c.too_many-then-table_count-ge64.ensures
    ∙ sym (ap (option_map error_of) (tables_full (tables_of c.args.catalog.now) (indexes_of c.args.catalog.now) (record { name = c.args.name.now; columns = c.args.columns.now })
    (sym c.is_table.ensures ∙ c.if-is_table.false)
    (unanswered _ (sym c.repeated_column.ensures ∙ c.in_default.is))
    (ap (nat_lt 1) (sym c.count_primary.ensures) ∙ not_below_test 1 c.count_primary.result c.if-count_primary-gt1.false)
    (ap (nat_le 64) (length-map c.args.catalog.now.tables table_of ∙ sym c.table_count.ensures.value) ∙ at_most_test 64 c.table_count.result c.if-table_count-ge64.true)))

pub returns-then-index_count-count_keys-gt64 : goal.returns-then-index_count-count_keys-gt64
returns-then-index_count-count_keys-gt64 c =
    ap Some c.too_many-then-index_count-count_keys-gt64.ensures
    ∙ sym (ap (option_map error_of) (indexes_full (tables_of c.args.catalog.now) (indexes_of c.args.catalog.now) (record { name = c.args.name.now; columns = c.args.columns.now })
    (sym c.is_table.ensures ∙ c.if-is_table.false)
    (unanswered _ (sym c.repeated_column.ensures ∙ c.in_default.is))
    (ap (nat_lt 1) (sym c.count_primary.ensures) ∙ not_below_test 1 c.count_primary.result c.if-count_primary-gt1.false)
    (ap (nat_le 64) (length-map c.args.catalog.now.tables table_of ∙ sym c.table_count.ensures.value) ∙ above_test 64 c.table_count.result c.if-table_count-ge64.false)
    (ap (nat_lt 64) (ap (λ n. n + count_by is_key c.args.columns.now) (length-map c.args.catalog.now.indexes (index_of c.args.catalog.now.tables) ∙ sym c.index_count.ensures.value)
    ∙ ap (λ n. c.index_count.result + n) (sym c.count_keys.ensures)) ∙ below_test 64 (c.index_count.result + c.count_keys.result) c.if-index_count-count_keys-gt64.true)))

pub returns : goal.returns
returns c =
    sym (ap (option_map error_of) (table_allowed (tables_of c.args.catalog.now) (indexes_of c.args.catalog.now) (record { name = c.args.name.now; columns = c.args.columns.now })
    (sym c.is_table.ensures ∙ c.if-is_table.false)
    (unanswered _ (sym c.repeated_column.ensures ∙ c.in_default.is))
    (ap (nat_lt 1) (sym c.count_primary.ensures) ∙ not_below_test 1 c.count_primary.result c.if-count_primary-gt1.false)
    (ap (nat_le 64) (length-map c.args.catalog.now.tables table_of ∙ sym c.table_count.ensures.value) ∙ above_test 64 c.table_count.result c.if-table_count-ge64.false)
    (ap (nat_lt 64) (ap (λ n. n + count_by is_key c.args.columns.now) (length-map c.args.catalog.now.indexes (index_of c.args.catalog.now.tables) ∙ sym c.index_count.ensures.value)
    ∙ ap (λ n. c.index_count.result + n) (sym c.count_keys.ensures)) ∙ not_below_test 64 (c.index_count.result + c.count_keys.result) c.if-index_count-count_keys-gt64.false)))
