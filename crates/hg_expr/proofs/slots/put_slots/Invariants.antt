use Rattle.std.proofs.Common.{◌≡◌, ◌++◌, length, drop}
use Rattle.hg_expr.specs.Slots.{slots_from, ArePlaced}
use Rattle.hg_expr.proofs.slots.put_slots.Given as goal

abbrev pub invariant-loop-k : goal.invariant-loop-k
invariant-loop-k l = record {
  slots : l.slots.items ++ slots_from l.nodes l.places (drop l.k l.nodes) (drop l.k l.places) ≡ slots_from l.nodes l.places l.nodes l.places;
  count : length l.slots.items ≡ l.k;
  placed : ArePlaced (drop l.k l.nodes) (drop l.k l.places);
}
