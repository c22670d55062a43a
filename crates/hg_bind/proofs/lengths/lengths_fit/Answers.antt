use Rattle.std.proofs.Common.{◌≡◌, [], sym, ◌∙◌, ap, map, if◌then◌else◌}
use Rattle.std.specs.Prelude.{slice_index}
use Rattle.std.specs.List.{sum_by}
use Rattle.hg_model.specs.Binding as binding
use Rattle.hg_model.specs.Query.{query_of}
use Rattle.hg_model.specs.Types as types
use Rattle.hg_model.specs.declared.trees.Column.{Column}
use Rattle.hg_model.specs.declared.trees.OrderKey.{OrderKey}
use Rattle.hg_model.specs.declared.trees.Output.{Output}
use Rattle.hg_bind.specs.Selecting.{named_sum, own_key_length}
use Rattle.hg_bind.proofs.NamedColumns.{lengths_are}
use Rattle.hg_bind.proofs.lengths.lengths_fit.Goals as goal

pub returns : goal.returns
returns c =
    let S = c.args.scope.now in
    let P = c.args.positions.now in
    let q = query_of c.args.select.now in
    let nodes = c.as_slice-nodes.ensures.value in
    let leaves = map (binding.type_at (λ (x : Column). types.type_length x.ty) 0 S) P in
    lengths_are S P q c.as_slice-lengths.result.now
    (c.as_slice-lengths.ensures.value ∙ c.list_lengths.ensures.value ∙ ap (λ l. types.lengths_from l leaves c.as_slice-nodes.result.now []) c.requires.kinds
    ∙ ap (λ l. types.lengths_from (binding.select_kinds S P q) leaves l []) nodes)
    c.all_fit.result c.named_length.result c.group_length.result c.aggregate_lengths.result c.outputs_length.result c.key_lengths.result c.all_fit.ensures
    (c.named_length.ensures ∙ ap (λ l. named_sum q.star l 0 S) c.requires.named)
    (c.group_length.ensures.value ∙ ap (sum_by (slice_index c.as_slice-lengths.result.now)) c.as_slice.ensures.value)
    (c.aggregate_lengths.ensures.value ∙ ap (λ l. binding.aggregate_lengths l c.as_slice-lengths.result.now) nodes)
    c.outputs_length.ensures.value
    (c.key_lengths.ensures.value ∙ ap (sum_by (λ (k : OrderKey). own_key_length c.as_slice-lengths.result.now k.by)) c.requires.keys)
