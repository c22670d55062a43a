use Rattle.std.proofs.Common.{sym, ◌∙◌, ap, map, refl, ◌&&◌, []}
use Rattle.std.specs.Prelude.{slice_index}
use Rattle.std.specs.List.{list_all}
use Rattle.std.specs.Option.{option_to_list}
use Rattle.hg_model.specs.Binding as binding
use Rattle.hg_model.specs.Query.{query_of}
use Rattle.hg_bind.specs.Selecting as selecting
use Rattle.hg_bind.proofs.Covering.{grouped_is}
use Rattle.hg_bind.proofs.grouping.is_all_grouped.Goals as goal

pub outputs_grouped-requires : goal.outputs_grouped-requires
outputs_grouped-requires c = record {
  few = c.requires.few;
  covered = c.as_slice-covered.ensures.value ∙ c.list_covered.ensures
      ∙ ap (λ l. selecting.covered_from (map (slice_index c.args.positions.now) l) c.args.positions.now c.as_slice-nodes.result.now []) c.as_slice.ensures.value
      ∙ ap (λ l. selecting.covered_from (binding.group_places c.args.positions.now (query_of c.args.select.now)) c.args.positions.now l []) c.as_slice-nodes.ensures.value;
}

pub returns-then-outputs_grouped : goal.returns-then-outputs_grouped
returns-then-outputs_grouped c =
    let q = query_of c.args.select.now in
    let covered = c.as_slice-covered.ensures.value ∙ c.list_covered.ensures
    ∙ ap (λ l. selecting.covered_from (map (slice_index c.args.positions.now) l) c.args.positions.now c.as_slice-nodes.result.now []) c.as_slice.ensures.value
    ∙ ap (λ l. selecting.covered_from (binding.group_places c.args.positions.now q) c.args.positions.now l []) c.as_slice-nodes.ensures.value in
    sym (ap (λ b. b && c.having_covered.result) c.if-outputs_grouped.true)
    ∙ grouped_is c.args.scope.now c.args.positions.now q c.as_slice-covered.result.now covered c.outputs_grouped.result c.having_covered.result c.outputs_grouped.ensures c.having_covered.ensures
