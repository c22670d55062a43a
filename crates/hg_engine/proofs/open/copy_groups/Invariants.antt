use Rattle.std.proofs.Common.{◌≡◌, take}
use Rattle.hg_engine.proofs.open.copy_groups.Given as goal

abbrev pub invariant-loop-node : goal.invariant-loop-node
invariant-loop-node l = l.to.items ≡ take l.node-index l.from
