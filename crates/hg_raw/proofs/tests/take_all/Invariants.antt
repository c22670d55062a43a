use Rattle.std.proofs.Common.{◌≡◌}
use Rattle.hg_raw.proofs.tests.take_all.Given as goal

abbrev pub invariant-loop-k : goal.invariant-loop-k
invariant-loop-k g l = record {
  of_region : l.all.region ≡ l.fn.region.region;
  same_region : l.region.region ≡ l.fn.region.region;
}
