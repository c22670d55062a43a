use Rattle.std.proofs.Common.{◌≡◌}
use Rattle.hg_raw.proofs.tests.reorder.Given as goal

abbrev pub invariant-loop-k : goal.invariant-loop-k
invariant-loop-k g l = record {
  here : l.all.region ≡ l.initial.all.region;
  there : l.others.region ≡ l.initial.all.region;
}
