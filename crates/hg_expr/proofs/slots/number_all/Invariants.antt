use Rattle.std.proofs.Common.{◌≡◌, ℕ, ◌<◌, ◌≤◌, List, length, get_or}
use Rattle.hg_model.specs.declared.trees.Node.{Node}
use Rattle.hg_expr.specs.Marks.{AreMarks}
use Rattle.hg_expr.specs.Slots.{number_of}
use Rattle.hg_expr.proofs.slots.number_all.Given as goal

abbrev pub invariant-loop-key : goal.invariant-loop-key
invariant-loop-key l = record {
  room : length l.numbers ≡ 64;
  few : l.count ≤ l.key;
  count : (ns : List Node) (ps : List (ℕ × ℕ)) → AreMarks ns ps l.marks → l.count ≡ number_of ns ps l.key;
  each : (ns : List Node) (ps : List (ℕ × ℕ)) → AreMarks ns ps l.marks → (j : ℕ) → j < l.key → get_or l.numbers j 0 ≡ number_of ns ps j;
}
