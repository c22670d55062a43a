use Rattle.std.proofs.Common.{◌≡◌, ◌<◌, ℕ, false, length, get_or}
use Rattle.hg_bind.proofs.lengths.mark_all.Given as goal

abbrev pub invariant-loop-column : goal.invariant-loop-column
invariant-loop-column l = record {
  count : length l.marks.items ≡ l._column;
  each : (k : ℕ) → k < length l.marks.items → get_or l.marks.items k false ≡ l.star;
}
