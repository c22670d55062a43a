use Rattle.std.proofs.Common.{◌≡◌, drop}
use Rattle.std.specs.List.{fold}
use Rattle.hg_model.specs.Aggregates as aggregates
use Rattle.hg_model.specs.declared.values.Value.TheVariants.{Null}
use Rattle.hg_slow.proofs.evaluate.least.Given as goal

abbrev pub invariant-loop-value : goal.invariant-loop-value
invariant-loop-value l = fold aggregates.lesser l.least (drop l.value-index l.values) ≡ fold aggregates.lesser Null l.values
