use Rattle.std.proofs.Common.{◌≡◌, ◌≤◌, ◌+◌, ◌*◌, ◌^◌, drop}
use Rattle.std.specs.List.{sum_by}
use Rattle.hg_model.specs.declared.trees.OrderKey.{OrderKey}
use Rattle.hg_bind.specs.Selecting.{own_key_length}
use Rattle.hg_bind.proofs.lengths.key_lengths.Given as goal

abbrev pub invariant-loop-key : goal.invariant-loop-key
invariant-loop-key l = record {
  rest : l.sum + sum_by (λ (k : OrderKey). own_key_length l.lengths k.by) (drop l.key-index l.keys) ≡ sum_by (λ (k : OrderKey). own_key_length l.lengths k.by) l.keys;
  small : l.sum ≤ 2 ^ 32 * l.key-index;
}
