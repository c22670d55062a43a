use Rattle.std.proofs.Common.{◌≡◌, ◌++◌, ◌≤◌, length, drop}
use Rattle.hg_model.specs.SelectMeaning as meaning
use Rattle.hg_slow.specs.SlowPlaces.{setting}
use Rattle.std.specs.List.{AllByRecursion}
use Rattle.hg_model.specs.Width.{LeafFits}
use Rattle.hg_slow.proofs.slow_groups.group_leaves.Given as goal

abbrev pub invariant-loop-k : goal.invariant-loop-k
invariant-loop-k l = record {
  within : l.k ≤ length l.positions;
  built : l.leaves.items ++ meaning.leaves_of (meaning.group_leaf (setting l.select l.texts l.places) l.rows) (drop l.k l.nodes) (drop l.k l.positions) ≡ meaning.leaves_of (meaning.group_leaf (setting l.select l.texts l.places) l.rows) l.nodes l.positions;
  fits : AllByRecursion (LeafFits (setting l.select l.texts l.places) l.rows) (drop l.k l.nodes);
}
