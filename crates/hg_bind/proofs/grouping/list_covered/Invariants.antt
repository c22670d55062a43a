use Rattle.std.proofs.Common.{◌≡◌, [], drop, length, map}
use Rattle.std.specs.Prelude.{slice_index}
use Rattle.hg_bind.specs.Selecting as selecting
use Rattle.hg_bind.proofs.grouping.list_covered.Given as goal

abbrev pub invariant-loop-place : goal.invariant-loop-place
invariant-loop-place l = record {
  rest : selecting.covered_from (map (slice_index l.positions) l.group) l.positions (drop l.place l.nodes) l.covered.items ≡ selecting.covered_from (map (slice_index l.positions) l.group) l.positions l.nodes [];
  count : length l.covered.items ≡ l.place;
}
