use Rattle.std.proofs.Common.{◌≡◌, length}
use Rattle.std.specs.Prelude.{vec_capacity}
use Rattle.hg_space.specs.Bits.{HasNoBits}
use Rattle.hg_space.proofs.bits.no_bits.Given as goal

abbrev pub invariant-loop-word : goal.invariant-loop-word
invariant-loop-word l = record {
  len : length l.made.items ≡ l._word;
  none : HasNoBits l.made.items;
  room : vec_capacity l.made ≡ l.room;
}
