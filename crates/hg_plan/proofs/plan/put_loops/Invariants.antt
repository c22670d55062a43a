use Rattle.std.proofs.Common.{◌≡◌, length, map, take}
use Rattle.hg_plan.specs.Planning.{AreNamed}
use Rattle.hg_plan.specs.Testing.{AreMarkedAt}
use Rattle.hg_plan.specs.declared.plan.TableLoop.{TableLoop}
use Rattle.hg_plan.proofs.plan.put_loops.Given as goal

abbrev pub invariant-loop-position : goal.invariant-loop-position
invariant-loop-position l = record {
  tables_are : map (λ (x : TableLoop). x.table) l.loops.items ≡ take l.position l.tables;
  named : AreNamed l.select.nodes.items l.places.items 0 l.loops.items;
  tests : AreMarkedAt l.conditions.marks l.conditions.latest.items 0 l.loops.items;
  count : length l.loops.items ≡ l.position;
}
