use Rattle.std.proofs.Common.{◌≡◌, drop}
use Rattle.hg_model.specs.Width as width
use Rattle.hg_slow.proofs.answerable.is_tree.Given as goal

abbrev pub invariant-loop-place : goal.invariant-loop-place
invariant-loop-place l = width.is_tree_from l.place (drop l.place l.nodes) ≡ width.is_tree_from 0 l.nodes
