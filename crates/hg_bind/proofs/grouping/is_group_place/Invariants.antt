use Rattle.std.proofs.Common.{◌≡◌, drop, map}
use Rattle.std.specs.Prelude.{nat_eq, slice_index}
use Rattle.std.specs.List.{list_any}
use Rattle.hg_bind.proofs.grouping.is_group_place.Given as goal

abbrev pub invariant-loop-node : goal.invariant-loop-node
invariant-loop-node l = list_any (nat_eq l.place) (map (slice_index l.positions) (drop l.node-index l.group)) ≡ list_any (nat_eq l.place) (map (slice_index l.positions) l.group)
