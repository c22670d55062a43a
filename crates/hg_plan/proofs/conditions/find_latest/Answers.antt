use Rattle.std.proofs.Common.{◌≡◌, ◌<◌, ◌∙◌, ℕ, ap, length, get_or, arith, ◌++◌, ◌∷◌, []}
use Rattle.hg_plan.specs.Testing as testing
use Rattle.hg_plan.proofs.Lists.{at_same}
use Rattle.hg_plan.proofs.Latest.{latest_next}
use Rattle.hg_plan.proofs.conditions.find_latest.Goals as goal

pub loop-k-preserved : goal.loop-k-preserved
loop-k-preserved c =
    let k = c.loop-k.k in
    let ns = c.args.nodes.now in
    let ps = c.args.places.now in
    let n = c.index-nodes-k.result in
    let p : ℕ × ℕ = get_or ps k (0, 0) in
    let lt : k < length ns = omega (arith, c.loop-k-test.true) in
    let lp : k < length ps = omega (arith, lt, c.requires.each) in
    let pushed : c.push.new.self.items ≡ c.loop-k.latest.items ++ testing.latest_of p.0 n c.loop-k.latest.items ∷ [] =
    c.push.ensures.items ∙ ap (λ t. c.loop-k.latest.items ++ t ∷ []) (c.latest_of-table.ensures ∙ ap (testing.latest_of p.0 n) c.as_slice.ensures.value) in
    record {
      rest = latest_next ns ps k n p c.loop-k.latest.items c.push.new.self.items (testing.latest_from ns ps []) lt lp c.index-nodes-k.is (at_same ps k (0, 0) lp) pushed c.loop-k.invariant.rest;
      count = omega (arith, c.push.ensures.len, c.loop-k.invariant.count);
    }
