use Rattle.std.proofs.Common.{◌≤◌}
use Rattle.hg_table.specs.Marks.{committed}
use Rattle.hg_dml.specs.Filtering.{row_passes}
use Rattle.hg_dml.proofs.DeleteLaws.{DeletedSoFar}
use Rattle.hg_dml.proofs.deletion.delete_along.Given as goal

abbrev pub invariant-loop-turn : goal.invariant-loop-turn
invariant-loop-turn g l = record {
  few : l.count ≤ l._turn;
  walked : DeletedSoFar (g.S.Pages.state l.initial.space) (g.S.Pages.state l.space) l.table l.columns (committed l.stamps) l.snapshot.0 l.stamp.0
      (row_passes l.filter.texts.now l.filter.columns.now l.filter.nodes.now l.filter.condition) l.at l._turn l.count;
}
