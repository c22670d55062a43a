use Rattle.std.proofs.Common.{◌∙◌, ap, map, length}
use Rattle.std.specs.Prelude.{nat_eq, slice_index}
use Rattle.std.specs.List.{list_all, list_any, range_with_len}
use Rattle.hg_model.specs.Query.{query_of}
use Rattle.hg_model.specs.declared.trees.Output.{Output}
use Rattle.hg_bind.specs.Selecting.{covered_at}
use Rattle.hg_bind.proofs.Covering.{star_grouped, written_grouped}
use Rattle.hg_bind.proofs.grouping.outputs_grouped.Goals as goal

pub returns-then-select : goal.returns-then-select
returns-then-select c =
    star_grouped c.args.scope.now c.args.positions.now (query_of c.args.select.now) c.args.covered.now c.requires.covered c.all_grouped.result c.if-select.true
    (c.all_grouped.ensures
    ∙ ap (λ l. list_all (λ p. list_any (nat_eq p) (map (slice_index c.args.positions.now) l)) (range_with_len 0 (length c.args.scope.now))) c.as_slice.ensures.value)

pub returns-else-select : goal.returns-else-select
returns-else-select c =
    written_grouped c.args.scope.now c.args.positions.now (query_of c.args.select.now) c.args.covered.now c.requires.covered c.outputs_covered.result c.if-select.false
    (c.outputs_covered.ensures ∙ ap (list_all (λ (o : Output). covered_at c.args.covered.now o.node)) c.as_slice-else-select.ensures.value)
