use Rattle.std.proofs.Common.{sym, ◌∙◌, ap, Some, length}
use Rattle.hg_model.specs.Query.{query_of}
use Rattle.hg_bind.proofs.Selection.{few_star, refused_alias, refused_later, refused_names, refused_outputs}
use Rattle.hg_bind.proofs.select.refuse_select.Goals as goal

pub returns-in-Some-clause-value : goal.returns-in-Some-clause-value
returns-in-Some-clause-value c =
    sym (refused_alias c.args.scope.now c.args.positions.now (query_of c.args.select.now) c.as_slice.result.now c.as_slice.ensures.value c.in-Some.error (sym c.repeated_alias.ensures ∙ c.in-Some.is))

pub returns-then-star_is_long-clause-value : goal.returns-then-star_is_long-clause-value
returns-then-star_is_long-clause-value c =
    ap Some c.too_many.ensures
    ∙ sym (refused_outputs c.args.scope.now c.args.positions.now (query_of c.args.select.now) c.as_slice.result.now c.as_slice.ensures.value
    (sym c.repeated_alias.ensures ∙ c.in_default.is) (sym c.star_is_long.ensures ∙ c.if-star_is_long.true))

pub returns-in-Some-names_cause-clause-value : goal.returns-in-Some-names_cause-clause-value
returns-in-Some-names_cause-clause-value c =
    sym (refused_names c.args.scope.now c.args.positions.now (query_of c.args.select.now) c.as_slice.result.now c.as_slice.ensures.value
    (sym c.repeated_alias.ensures ∙ c.in_default.is) (sym c.star_is_long.ensures ∙ c.if-star_is_long.false) c.in-Some-names_cause.error (sym c.names_cause.ensures ∙ c.in-Some-names_cause.is))

pub returns-clause-value : goal.returns-clause-value
returns-clause-value c =
    c.last_refusal.ensures
    ∙ sym (refused_later c.args.scope.now c.args.positions.now (query_of c.args.select.now) c.as_slice.result.now c.as_slice.ensures.value
    (sym c.repeated_alias.ensures ∙ c.in_default.is) (sym c.star_is_long.ensures ∙ c.if-star_is_long.false) (sym c.names_cause.ensures ∙ c.in_default-names_cause.is))
