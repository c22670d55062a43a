use Rattle.std.proofs.Common.{◌∷◌, [], Some, sym, ◌∙◌, ap, not}
use Rattle.std.specs.Prelude.{option_map}
use Rattle.hg_model.specs.Binding.{cause_if}
use Rattle.hg_model.specs.Refusal.{TooWide, NotGrouped, first_cause}
use Rattle.hg_model.specs.Types.{all_narrow}
use Rattle.hg_bind.specs.Bound.{error_of}
use Rattle.hg_bind.proofs.NameCauses.{cause_first, cause_later, cause_none}
use Rattle.hg_bind.proofs.nodes.last_cause.Goals as goal

pub returns-then-has_aggregate : goal.returns-then-has_aggregate
returns-then-has_aggregate c =
    ap Some c.not_grouped.ensures
    ∙ sym (ap (option_map error_of) (ap (λ b. first_cause (cause_if b NotGrouped ∷ cause_if (not (all_narrow c.args.nodes.now)) TooWide ∷ [])) (sym c.has_aggregate.ensures ∙ c.if-has_aggregate.true) ∙ cause_first _ _))

pub returns-then-not-all_narrow : goal.returns-then-not-all_narrow
returns-then-not-all_narrow c =
    ap Some c.too_wide.ensures
    ∙ sym (ap (option_map error_of)
    (ap (λ b. first_cause (cause_if b NotGrouped ∷ cause_if (not (all_narrow c.args.nodes.now)) TooWide ∷ [])) (sym c.has_aggregate.ensures ∙ c.if-has_aggregate.false) ∙ cause_later _
    ∙ ap (λ b. first_cause (cause_if (not b) TooWide ∷ [])) (sym c.all_narrow.ensures ∙ c.if-not-all_narrow.true) ∙ cause_first _ _))

pub returns : goal.returns
returns c =
    sym (ap (option_map error_of)
    (ap (λ b. first_cause (cause_if b NotGrouped ∷ cause_if (not (all_narrow c.args.nodes.now)) TooWide ∷ [])) (sym c.has_aggregate.ensures ∙ c.if-has_aggregate.false) ∙ cause_later _
    ∙ ap (λ b. first_cause (cause_if (not b) TooWide ∷ [])) (sym c.all_narrow.ensures ∙ c.if-not-all_narrow.false) ∙ cause_later _ ∙ cause_none))
