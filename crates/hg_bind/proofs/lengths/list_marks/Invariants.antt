use Rattle.std.proofs.Common.{take}
use Rattle.hg_bind.specs.Selecting.{AreMarks}
use Rattle.hg_bind.proofs.lengths.list_marks.Given as goal

abbrev pub invariant-loop-place : goal.invariant-loop-place
invariant-loop-place l = AreMarks l.star (take l.place l.named) l.count l.marks.items
