use Rattle.std.proofs.Common.{◌≡◌, ◌≤◌, ◌+◌, ◌++◌, replicate, vec_len, vec_capacity}
use Rattle.hg_pool.specs.Seen.{no_mark}
use Rattle.hg_pool.proofs.frames.widen.Given as goal

abbrev pub invariant-loop-turn : goal.invariant-loop-turn
invariant-loop-turn l = (l.marks.items ≡ l.initial.marks.items ++ replicate l._turn no_mark) × (vec_len l.marks ≡ vec_len l.initial.marks + l._turn)
    × (vec_capacity l.marks ≡ vec_capacity l.initial.marks) × (l.count ≤ vec_capacity l.initial.marks)
