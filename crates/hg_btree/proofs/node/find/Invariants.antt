use Rattle.std.specs.Prelude.{ℕ, List, ◌≤◌, ◌-◌}
use Rattle.hg_btree.specs.Entries.{Entry, Before}
use Rattle.hg_btree.specs.Nodes.{IsNode, Passed}
use Rattle.hg_btree.proofs.node.find.Given as goal

abbrev pub invariant-loop-at : goal.invariant-loop-at
invariant-loop-at l = record {
  from : 16 ≤ l.at;
  to : l.at ≤ l.end;
  passed : (level link : ℕ) (es : List Entry) → IsNode l.inner l.page level link es
      → Passed l.inner es (λ e. Before e (record { key = l.key; place = l.place; child = 0 })) l.at;
}

abbrev pub decreases-loop-at : goal.decreases-loop-at
decreases-loop-at l = l.end - l.at
