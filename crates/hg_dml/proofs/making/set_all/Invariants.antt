use Rattle.std.proofs.Common.{◌≡◌, drop}
use Rattle.hg_dml.specs.Making.{set_nodes}
use Rattle.hg_dml.proofs.making.set_all.Given as goal

abbrev pub invariant-loop-place : goal.invariant-loop-place
invariant-loop-place l =
    set_nodes (drop l.place l.sets.targets.now) (drop l.place l.sets.items.now) l.nodes.items ≡ set_nodes l.sets.targets.now l.sets.items.now l.initial.nodes.items
