use Rattle.std.proofs.Common.{◌≡◌, ◌≤◌, ◌*◌, take}
use Rattle.hg_model.specs.Creation.{key_length}
use Rattle.hg_bind.proofs.create_index.key_length.Given as goal

abbrev pub invariant-loop-number : goal.invariant-loop-number
invariant-loop-number l = record {
  summed : l.sum ≡ key_length l.columns (take l.number-index l.numbers);
  most : l.sum ≤ 257 * l.number-index;
}
