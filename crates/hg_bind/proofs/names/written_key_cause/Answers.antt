use Rattle.std.proofs.Common.{sym, ◌∙◌, ap, Some}
use Rattle.std.specs.Prelude.{option_map}
use Rattle.hg_model.specs.Binding as binding
use Rattle.hg_model.specs.Query.{query_of}
use Rattle.hg_bind.specs.Bound.{error_of}
use Rattle.hg_bind.proofs.KeyNames.{one_found, several_found, may_be_column, is_no_column}
use Rattle.hg_bind.proofs.names.written_key_cause.Goals as goal

pub returns-in-One : goal.returns-in-One
returns-in-One c =
    sym (ap (option_map error_of) (one_found c.args.scope.now c.args.positions.now (query_of c.args.select.now) c.args.column.now c.requires.written c.in-One.field-0
    (sym c.outputs_found.ensures ∙ c.in-One.is)))

pub returns-in-Several : goal.returns-in-Several
returns-in-Several c =
    ap Some c.ambiguous_reference.ensures
    ∙ sym (ap (option_map error_of) (several_found c.args.scope.now c.args.positions.now (query_of c.args.select.now) c.args.column.now c.requires.written
    (sym c.outputs_found.ensures ∙ c.in-Several.is)))

pub returns-then-may_name_columns : goal.returns-then-may_name_columns
returns-then-may_name_columns c =
    c.column_cause.ensures
    ∙ ap (λ n. option_map error_of (binding.column_cause c.args.scope.now n c.args.column.now)) c.len.ensures.value
    ∙ sym (ap (option_map error_of) (may_be_column c.args.scope.now c.args.positions.now (query_of c.args.select.now) c.args.column.now c.requires.written
    (sym c.outputs_found.ensures ∙ c.in-Nothing.is) (sym c.may_name_columns.ensures ∙ c.if-may_name_columns.true)))

pub returns-else-may_name_columns : goal.returns-else-may_name_columns
returns-else-may_name_columns c =
    ap Some c.unknown_reference.ensures
    ∙ sym (ap (option_map error_of) (is_no_column c.args.scope.now c.args.positions.now (query_of c.args.select.now) c.args.column.now c.requires.written
    (sym c.outputs_found.ensures ∙ c.in-Nothing.is) (sym c.may_name_columns.ensures ∙ c.if-may_name_columns.false)))
