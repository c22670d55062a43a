use Rattle.std.proofs.Common.{◌≡◌, ◌≤◌, ℕ, List, length}
use Rattle.hg_model.specs.declared.trees.Node.{Node}
use Rattle.hg_expr.specs.Marks.{AreMarks}
use Rattle.hg_expr.specs.Slots.{named_below}
use Rattle.hg_expr.proofs.slots.put_columns.Given as goal

abbrev pub invariant-loop-column : goal.invariant-loop-column
invariant-loop-column l = record {
  columns : (ns : List Node) (ps : List (ℕ × ℕ)) → AreMarks ns ps l.marks → l.columns.items ≡ named_below ns ps l.table l.column;
  few : length l.columns.items ≤ l.column;
}
