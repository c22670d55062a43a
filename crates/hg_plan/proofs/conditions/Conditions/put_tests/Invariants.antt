use Rattle.std.proofs.Common.{◌≡◌, ◌≤◌, ◌++◌, length, drop}
use Rattle.std.specs.Prelude.{nat_eq}
use Rattle.std.specs.List.{filter}
use Rattle.hg_plan.specs.Testing as testing
use Rattle.hg_plan.proofs.conditions.Conditions.put_tests.Given as goal

abbrev pub invariant-loop-node : goal.invariant-loop-node
invariant-loop-node l = record {
  rest : l.tests.items ++ filter (λ n. nat_eq (testing.latest_at l.self.latest.items n) l.table) (testing.marked_from l.node (drop l.node l.self.marks))
      ≡ testing.marked_at l.self.marks l.self.latest.items l.table;
  few : length l.tests.items ≤ l.node;
}
