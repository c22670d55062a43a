use Rattle.std.proofs.Common.{◌≡◌, ◌≤◌, drop}
use Rattle.std.specs.List.{fold}
use Rattle.hg_model.specs.Aggregates as aggregates
use Rattle.hg_slow.proofs.evaluate.count.Given as goal

abbrev pub invariant-loop-value : goal.invariant-loop-value
invariant-loop-value l = (fold aggregates.count_value l.n (drop l.value-index l.values) ≡ fold aggregates.count_value 0 l.values) × (l.n ≤ l.value-index)
