use Rattle.std.proofs.Common.{◌≡◌, length}
use Rattle.hg_bind.proofs.Settling.{settled_upto}
use Rattle.hg_bind.proofs.select.settle_nodes.Given as goal

abbrev pub invariant-loop-place : goal.invariant-loop-place
invariant-loop-place l = record {
  nodes : l.nodes.items ≡ settled_upto l.place l.initial.nodes.items l.named;
  count : length l.nodes.items ≡ length l.named;
}
