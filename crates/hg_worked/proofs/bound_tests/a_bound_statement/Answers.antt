use Rattle.std.proofs.Common.{[], ap, ◌∙◌}
use Rattle.hg_model.specs.Binding.{select_refusal}
use Rattle.hg_model.specs.Query.{query_of}
use Rattle.hg_model.specs.SelectMeaning.{too_many}
use Rattle.hg_worked.specs.Samples.{tables_20}
use Rattle.hg_worked.proofs.BoundByHand.{is_bound, groups_few}
use Rattle.hg_worked.proofs.bound_tests.a_bound_statement.Goals as goal

pub slow_select-requires-clause-bound : goal.slow_select-requires-clause-bound
slow_select-requires-clause-bound g c =
    ap (λ ts. select_refusal ts (query_of c.select_above_one-select.result)) c.in_ok-tables.ensures ∙ ap (λ q. select_refusal tables_20 q) c.select_above_one-select.ensures ∙ is_bound

pub slow_select-requires-clause-few : goal.slow_select-requires-clause-few
slow_select-requires-clause-few g c =
    ap (λ ts. too_many (query_of c.select_above_one-select.result) [] ts) c.in_ok-tables.ensures ∙ ap (λ q. too_many q [] tables_20) c.select_above_one-select.ensures ∙ groups_few
