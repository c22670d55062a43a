use Rattle.std.proofs.Common.{◌-◌}
use Rattle.hg_reloc.proofs.Linking.{IsLinking}
use Rattle.hg_reloc.proofs.checks.are_linked.Given as goal

abbrev pub invariant-loop-at : goal.invariant-loop-at
invariant-loop-at l = IsLinking l.page l.own l.max l.begins l.at l.end

abbrev pub decreases-loop-at : goal.decreases-loop-at
decreases-loop-at l = l.end - l.at
