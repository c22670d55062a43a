use Rattle.std.proofs.Common.{◌≤◌}
use Rattle.hg_table.specs.Marks.{committed}
use Rattle.hg_dml.proofs.ChangeLaws.{ChangedSoFar}
use Rattle.hg_dml.proofs.changing.change_along.Given as goal

abbrev pub invariant-loop-turn : goal.invariant-loop-turn
invariant-loop-turn g l = record {
  few : l.count ≤ l._turn;
  changed : ChangedSoFar (g.S.Pages.state l.initial.space) l.table l.change (committed l.stamps) l.snapshot.0 l.stamp.0 (g.S.Pages.state l.space) l.run l.causes l.at l._turn l.count;
}
