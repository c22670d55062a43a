use Rattle.std.proofs.Common.{◌≡◌, take}
use Rattle.hg_engine.proofs.open.copy_outputs.Given as goal

abbrev pub invariant-loop-output : goal.invariant-loop-output
invariant-loop-output l = l.to.items ≡ take l.output-index l.from
