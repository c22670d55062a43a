use Rattle.std.proofs.Common.{◌≡◌, ◌<◌, ℕ, length, get_or, arith}
use Rattle.hg_expr.proofs.Marking.{placed_length, placed_next, slots_next, at_same}
use Rattle.hg_expr.proofs.slots.put_slots.Goals as goal

pub loop-k-preserved : goal.loop-k-preserved
loop-k-preserved c =
    let k = c.loop-k.k in
    let ns = c.args.nodes.now in
    let ps = c.args.places.now in
    let n = c.index-nodes-k.result in
    let p : ℕ × ℕ = get_or ps k (0, 0) in
    let lt : k < length ns = omega (arith, c.loop-k-test.true) in
    let lp : k < length ps = omega (arith, lt, placed_length ns ps c.requires.placed) in
    record {
      slots =
          slots_next ns ns ps ps k c.slot_at.result n p c.loop-k.slots.items c.push.new.self.items lt lp c.index-nodes-k.is (at_same ps k (0, 0) lp)
          (c.slot_at.ensures ns ps c.requires.numbers) c.push.ensures.items c.loop-k.invariant.slots;
      count = omega (arith, c.push.ensures.len, c.loop-k.invariant.count);
      placed = (placed_next ns ps k n p lt lp c.index-nodes-k.is (at_same ps k (0, 0) lp) c.loop-k.invariant.placed).1;
    }
