use Rattle.std.proofs.Common.{sym, ◌∙◌, arith}
use Rattle.hg_dml.proofs.MakingLaws.{sets-step, sets-end, either-done}
use Rattle.hg_dml.proofs.making.set_all.Goals as goal

pub loop-place-preserved : goal.loop-place-preserved
loop-place-preserved c =
    sets-step c.args.sets.now.targets.now c.args.sets.now.items.now c.loop-place.place _ _ c.loop-place.nodes.items c.set_one.new.nodes.items
    (omega (arith, c.loop-place-test.true, c.min-both.ensures)) (omega (arith, c.loop-place-test.true, c.min-both.ensures)) c.set_one.ensures ∙ c.loop-place.invariant

pub returns : goal.returns
returns c =
    sym (sets-end c.args.sets.now.targets.now c.args.sets.now.items.now c.loop-place.place c.loop-place.nodes.items
    (either-done _ _ c.loop-place.place c.min-both.result c.min-both.ensures c.loop-place-test.false)) ∙ c.loop-place.invariant
