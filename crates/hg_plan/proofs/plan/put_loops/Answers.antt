use Rattle.std.proofs.Common.{◌≡◌, ◌<◌, ◌∙◌, ◌+◌, ◌++◌, ◌∷◌, [], sym, ap, subst, length, map, arith}
use Rattle.hg_plan.specs.Planning.{AreNamed}
use Rattle.hg_plan.specs.Testing.{AreMarkedAt}
use Rattle.hg_plan.specs.declared.plan.TableLoop.{TableLoop}
use Rattle.hg_plan.proofs.Lists.{map_next}
use Rattle.hg_plan.proofs.Tested.{marked_more, named_more}
use Rattle.hg_plan.proofs.plan.put_loops.Goals as goal

pub loop-position-preserved : goal.loop-position-preserved
loop-position-preserved c =
    let k = c.loop-position.position in
    let ls = c.loop-position.loops.items in
    let next = c.loop_at-next.result in
    let s = c.args.select.now in
    let more : ls ++ next ∷ [] ≡ c.push.new.self.items = sym c.push.ensures.items in
    let lt : k < length c.args.tables.now = omega (arith, c.loop-position-test.true, c.requires.each, ap (length {A = _}) c.as_slice-froms.ensures.value) in
    let at : k ≡ 0 + length ls = omega (arith, c.loop-position.invariant.count) in
    record {
      tables_are = ap (map (λ (x : TableLoop). x.table)) (sym more)
          ∙ map_next (λ (x : TableLoop). x.table) ls next c.args.tables.now k 0 lt c.loop_at-next.ensures.table c.loop-position.invariant.tables_are;
      named = subst (AreNamed s.nodes.items c.args.places.now.items 0) more
          (named_more s.nodes.items c.args.places.now.items 0 k ls next at c.loop_at-next.ensures.named c.loop-position.invariant.named);
      tests = subst (AreMarkedAt c.args.conditions.now.marks c.args.conditions.now.latest.items 0) more
          (marked_more c.args.conditions.now.marks c.args.conditions.now.latest.items 0 k ls next at c.loop_at-next.ensures.tests c.loop-position.invariant.tests);
      count = omega (arith, c.push.ensures.len, c.loop-position.invariant.count);
    }
