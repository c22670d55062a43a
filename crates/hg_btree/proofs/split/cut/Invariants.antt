use Rattle.std.specs.Prelude.{ℕ, List, ◌≤◌, ◌+◌, ◌-◌, ◌*◌}
use Rattle.hg_btree.specs.Entries.{Entry}
use Rattle.hg_btree.specs.Nodes.{IsNode}
use Rattle.hg_btree.specs.Cutting.{Counted}
use Rattle.hg_btree.proofs.split.cut.Given as goal

abbrev pub invariant-loop-at : goal.invariant-loop-at
invariant-loop-at l = record {
  from : 16 ≤ l.at;
  to : l.at ≤ l.end;
  near : l.at ≤ l.middle + 526;
  few : 10 * l.count + 16 ≤ l.at;
  counted : (level link : ℕ) (es : List Entry) → IsNode l.inner l.page level link es → Counted l.inner es l.at l.count;
}

abbrev pub decreases-loop-at : goal.decreases-loop-at
decreases-loop-at l = l.end - l.at
