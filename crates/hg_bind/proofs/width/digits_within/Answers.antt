use Rattle.std.proofs.Common.{sym, ◌∙◌, ◌+◌, ◌^◌}
use Rattle.hg_bind.proofs.Digits as answering
use Rattle.std.specs.Prelude.{nat_lt}
use Rattle.hg_bind.proofs.width.digits_within.Goals as goal

pub loop-place-preserved : goal.loop-place-preserved
loop-place-preserved c =
    answering.digits_step (λ b. nat_lt c.args.number (2 ^ (b + 1))) c.loop-place.place c.args.limit _ c.loop-place-test.true (sym c.below_power.ensures ∙ c.if-below_power.false) c.loop-place.invariant
