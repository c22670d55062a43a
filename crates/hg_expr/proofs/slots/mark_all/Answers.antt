use Rattle.std.proofs.Common.{◌≡◌, ◌<◌, ℕ, length, get_or, arith, false, zero}
use Rattle.hg_expr.proofs.Marking.{placed_length, placed_next, marked_next, at_same}
use Rattle.hg_expr.proofs.slots.mark_all.Goals as goal

pub loop-k-preserved : goal.loop-k-preserved
loop-k-preserved c =
    let k = c.loop-k.k in
    let ns = c.args.nodes.now in
    let ps = c.args.places.now in
    let n = c.index-nodes-k.result in
    let p : ℕ × ℕ = get_or ps k (0, 0) in
    let lt : k < length ns = omega (arith, c.loop-k-test.true) in
    let lp : k < length ps = omega (arith, lt, placed_length ns ps c.requires.placed) in
    record {
      room = omega (arith, c.mark.auto.marks, c.loop-k.invariant.room);
      each = λ key h.
          marked_next ns ps k key n p (get_or c.loop-k.marks key false) (get_or c.mark.new.marks key false) lt lp c.index-nodes-k.is (at_same ps k (0, 0) lp)
          (c.mark.ensures key h) (c.loop-k.invariant.each key h);
      placed = (placed_next ns ps k n p lt lp c.index-nodes-k.is (at_same ps k (0, 0) lp) c.loop-k.invariant.placed).1;
    }
