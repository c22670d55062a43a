use Rattle.std.proofs.Common.{◌≡◌, ◌≤◌, replicate, vec_len, vec_capacity}
use Rattle.hg_pool.specs.Seen.{no_mark}
use Rattle.hg_pool.proofs.frames.empty_marks.Given as goal

abbrev pub invariant-loop-turn : goal.invariant-loop-turn
invariant-loop-turn l = (l.marks.items ≡ replicate l._turn no_mark) × (vec_len l.marks ≡ l._turn) × (l.max ≤ vec_capacity l.marks) × (l.count ≤ l.max)
