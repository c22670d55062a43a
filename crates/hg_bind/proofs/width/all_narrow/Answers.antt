use Rattle.std.proofs.Common.{arith, sym, ap, ◌∙◌}
use Rattle.hg_model.specs.Types as types
use Rattle.hg_bind.proofs.Digits.{wide_so}
use Rattle.hg_bind.proofs.width.all_narrow.Goals as goal

pub returns-then-bound-gt126 : goal.returns-then-bound-gt126
returns-then-bound-gt126 c =
    sym
    (wide_so c.args.nodes.now c.loop-node.node-index c.node-item.result c.loop-node.done.items c.bound_of-bound.result (omega arith) c.node-item.is c.loop-node.invariant.rest
    (c.bound_of-bound.ensures ∙ ap (types.bound_of c.node-item.result) c.as_slice.ensures.value) (omega arith))
