use Rattle.std.specs.Prelude.{◌≤◌, ◌-◌}
use Rattle.hg_btree.proofs.Comparing.{Alike}
use Rattle.hg_btree.proofs.keys.compare_rest.Given as goal

abbrev pub invariant-loop-alike : goal.invariant-loop-alike
invariant-loop-alike l = record {
  from : 8 ≤ l.alike;
  same : Alike l.own l.key l.both l.alike;
}

abbrev pub decreases-loop-alike : goal.decreases-loop-alike
decreases-loop-alike l = l.both - l.alike
