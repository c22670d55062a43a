use Rattle.std.proofs.Common.{sym, ◌∙◌, ap, Some, arith}
use Rattle.std.specs.Prelude.{option_map}
use Rattle.hg_model.specs.Binding as binding
use Rattle.hg_model.specs.Query.{query_of}
use Rattle.hg_model.specs.Refusal.{first_cause}
use Rattle.hg_bind.specs.Bound.{error_of}
use Rattle.hg_bind.proofs.NameCauses.{unanswered}
use Rattle.hg_bind.proofs.NamesInTurn.{names_here, names_past, names_end}
use Rattle.hg_bind.proofs.names.names_cause.Goals as goal

pub returns-in-Some : goal.returns-in-Some
returns-in-Some c =
    sym (ap (λ l. option_map error_of (first_cause (binding.names_from c.args.scope.now c.args.positions.now (query_of c.args.select.now) 0 l))) (sym c.as_slice-nodes.ensures.value)
    ∙ ap (option_map error_of) (sym c.loop-place.invariant)
    ∙ names_here c.args.scope.now c.args.positions.now (query_of c.args.select.now) c.as_slice-nodes.result.now c.loop-place.place c.index-nodes-place.result c.loop-place-test.true c.index-nodes-place.is
    c.in-Some.error (sym c.name_cause.ensures ∙ c.in-Some.is))

pub loop-place-preserved : goal.loop-place-preserved
loop-place-preserved c =
    names_past c.args.scope.now c.args.positions.now (query_of c.args.select.now) c.as_slice-nodes.result.now c.loop-place.place c.index-nodes-place.result c.loop-place-test.true c.index-nodes-place.is
    (unanswered _ (sym c.name_cause.ensures ∙ c.in_default.is)) ∙ c.loop-place.invariant

pub returns : goal.returns
returns c =
    sym (ap (λ l. option_map error_of (first_cause (binding.names_from c.args.scope.now c.args.positions.now (query_of c.args.select.now) 0 l))) (sym c.as_slice-nodes.ensures.value)
    ∙ ap (option_map error_of) (sym c.loop-place.invariant
    ∙ names_end c.args.scope.now c.args.positions.now (query_of c.args.select.now) c.as_slice-nodes.result.now c.loop-place.place (omega arith)))
