use Rattle.std.proofs.Common.{◌≡◌, ◌≤◌, ◌+◌, ◌*◌, ◌^◌, drop}
use Rattle.std.specs.List.{sum_by}
use Rattle.std.specs.Prelude.{slice_index}
use Rattle.hg_model.specs.declared.trees.Output.{Output}
use Rattle.hg_bind.proofs.lengths.output_lengths.Given as goal

abbrev pub invariant-loop-output : goal.invariant-loop-output
invariant-loop-output l = record {
  rest : l.sum + sum_by (λ (o : Output). slice_index l.lengths o.node) (drop l.output-index l.outputs) ≡ sum_by (λ (o : Output). slice_index l.lengths o.node) l.outputs;
  small : l.sum ≤ 2 ^ 32 * l.output-index;
}
