use Rattle.std.proofs.Common.{◌≡◌, drop}
use Rattle.std.specs.List.{list_all}
use Rattle.hg_model.specs.Width as width
use Rattle.hg_slow.proofs.answerable.texts_fit.Given as goal

abbrev pub invariant-loop-node : goal.invariant-loop-node
invariant-loop-node l = list_all (width.text_fits l.texts) (drop l.node-index l.nodes) ≡ list_all (width.text_fits l.texts) l.nodes
