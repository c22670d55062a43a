use Rattle.std.proofs.Common.{◌-◌}
use Rattle.hg_reloc.proofs.Checking.{IsWalking}
use Rattle.hg_reloc.proofs.checks.mark_objects.Given as goal

abbrev pub invariant-loop-at : goal.invariant-loop-at
invariant-loop-at l = IsWalking l.page l.begins l.at l.end

abbrev pub decreases-loop-at : goal.decreases-loop-at
decreases-loop-at l = l.end - l.at
