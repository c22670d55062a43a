use Rattle.std.proofs.Common.{◌≡◌}
use Rattle.hg_raw.proofs.tests.write_all.Given as goal

abbrev pub invariant-loop-k : goal.invariant-loop-k
invariant-loop-k g l = l.all.region ≡ l.fn.all.region
