use Rattle.std.proofs.Common.{sym, ◌∙◌, ap, if◌then◌else◌}
use Rattle.std.specs.Prelude.{option_map}
use Rattle.hg_model.specs.Binding as binding
use Rattle.hg_model.specs.Query.{query_of}
use Rattle.hg_model.specs.Scope.{tables_seen}
use Rattle.hg_bind.specs.Bound.{error_of}
use Rattle.hg_bind.proofs.names.name_cause.Goals as goal

pub returns-else-is_order_key : goal.returns-else-is_order_key
returns-else-is_order_key c =
    c.column_cause.ensures
    ∙ ap (λ n. option_map error_of (binding.column_cause c.args.scope.now n c.in-Col.column)) c.tables_seen.ensures
    ∙ sym (ap (λ m. option_map error_of (binding.name_cause c.args.scope.now c.args.positions.now (query_of c.args.select.now) c.args.place m)) c.in-Col.is
    ∙ ap (λ b. option_map error_of (if b then binding.key_cause c.args.scope.now c.args.positions.now (query_of c.args.select.now) c.in-Col.column
    else binding.column_cause c.args.scope.now (tables_seen (query_of c.args.select.now) c.args.place) c.in-Col.column)) (sym c.is_order_key.ensures ∙ c.if-is_order_key.false))
