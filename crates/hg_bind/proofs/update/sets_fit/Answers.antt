use Rattle.std.proofs.Common.{◌+◌, ◌&&◌, sym, ◌∙◌, ap, map, drop}
use Rattle.hg_model.specs.ChangeBinding.{sets_fit}
use Rattle.hg_bind.specs.Kinds.{shown}
use Rattle.hg_bind.proofs.SetItems.{set_step}
use Rattle.hg_bind.proofs.update.sets_fit.Goals as goal

pub returns-then-not-agree : goal.returns-then-not-agree
returns-then-not-agree c =
    sym (sym c.loop-place.invariant
    ∙ set_step c.args.sets.now c.loop-place.place c.index-sets-place.result c.loop-place-test.true c.args.columns.now (map shown c.args.kinds.now) c.args.targets.now c.requires
    c.agree.result (shown c.kind_of_column.result) (shown c.kind_at.result) c.agree.ensures c.kind_of_column.ensures c.kind_at.ensures
    ∙ ap (λ r. r && sets_fit c.args.columns.now (map shown c.args.kinds.now) (drop (c.loop-place.place + 1) c.args.sets.now)) c.if-not-agree.true)

pub loop-place-preserved : goal.loop-place-preserved
loop-place-preserved c =
    sym (set_step c.args.sets.now c.loop-place.place c.index-sets-place.result c.loop-place-test.true c.args.columns.now (map shown c.args.kinds.now) c.args.targets.now c.requires
    c.agree.result (shown c.kind_of_column.result) (shown c.kind_at.result) c.agree.ensures c.kind_of_column.ensures c.kind_at.ensures
    ∙ ap (λ r. r && sets_fit c.args.columns.now (map shown c.args.kinds.now) (drop (c.loop-place.place + 1) c.args.sets.now)) c.if-not-agree.false)
    ∙ c.loop-place.invariant
