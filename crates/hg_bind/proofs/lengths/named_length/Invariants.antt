use Rattle.std.proofs.Common.{◌≡◌, ◌≤◌, ◌+◌, ◌*◌, drop, length}
use Rattle.hg_bind.specs.Selecting as selecting
use Rattle.hg_bind.proofs.lengths.named_length.Given as goal

abbrev pub invariant-loop-place : goal.invariant-loop-place
invariant-loop-place l = record {
  rest : l.sum + selecting.named_sum l.star l.named l.place (drop l.place l.scope) ≡ selecting.named_sum l.star l.named 0 l.scope;
  small : l.sum ≤ 257 * l.place;
}
