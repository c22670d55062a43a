use Rattle.std.proofs.Common.{◌≡◌, take}
use Rattle.hg_engine.proofs.open.copy_keys.Given as goal

abbrev pub invariant-loop-key : goal.invariant-loop-key
invariant-loop-key l = l.to.items ≡ take l.key-index l.from
