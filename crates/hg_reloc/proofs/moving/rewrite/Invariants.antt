use Rattle.std.proofs.Common.{◌-◌}
use Rattle.hg_reloc.proofs.Rewriting.{IsMoving}
use Rattle.hg_reloc.proofs.moving.rewrite.Given as goal

abbrev pub invariant-loop-at : goal.invariant-loop-at
invariant-loop-at l = IsMoving l.map l.fn.page l.page l.at l.end

abbrev pub decreases-loop-at : goal.decreases-loop-at
decreases-loop-at l = l.end - l.at
