use Rattle.std.proofs.Common.{◌≡◌, [], length, drop}
use Rattle.hg_plan.specs.Testing as testing
use Rattle.hg_plan.proofs.conditions.find_latest.Given as goal

abbrev pub invariant-loop-k : goal.invariant-loop-k
invariant-loop-k l = record {
  rest : testing.latest_from (drop l.k l.nodes) (drop l.k l.places) l.latest.items ≡ testing.latest_from l.nodes l.places [];
  count : length l.latest.items ≡ l.k;
}
