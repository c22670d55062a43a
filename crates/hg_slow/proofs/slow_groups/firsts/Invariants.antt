use Rattle.std.proofs.Common.{◌≡◌, drop}
use Rattle.hg_model.specs.Groups as groups
use Rattle.hg_slow.proofs.slow_groups.firsts.Given as goal

abbrev pub invariant-loop-key : goal.invariant-loop-key
invariant-loop-key l = groups.firsts_from l.kept.items (drop l.key-index l.keys) ≡ groups.firsts l.keys
