use Rattle.std.proofs.Common.{◌∙◌, None, arith}
use Rattle.hg_bind.proofs.Settling.{settled_even, settled_next, settled_whole}
use Rattle.hg_bind.proofs.select.settle_nodes.Goals as goal

pub loop-place-preserved : goal.loop-place-preserved
loop-place-preserved c = record {
  nodes =
      settled_next c.args.nodes.now.items c.args.named.now c.loop-place.place c.loop-place.nodes.items c.deref_mut.result.now c.index-deref_mut-place.result c.settle.new.node None
      c.loop-place-test.true c.requires c.loop-place.invariant.nodes c.deref_mut.ensures.value c.settle.ensures;
  count =
      settled_even c.args.nodes.now.items c.args.named.now c.loop-place.place c.loop-place.nodes.items c.deref_mut.result.now c.index-deref_mut-place.result c.settle.new.node None
      c.loop-place-test.true c.requires c.loop-place.invariant.nodes c.deref_mut.ensures.value c.settle.ensures c.loop-place.invariant.count;
}

pub returns : goal.returns
returns c = c.loop-place.invariant.nodes ∙ settled_whole c.args.nodes.now.items c.args.named.now c.loop-place.place (omega arith) c.requires
