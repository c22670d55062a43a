use Rattle.std.proofs.Common.{◌≡◌}
use Rattle.hg_base.specs.Space.{taken_below}
use Rattle.hg_base.specs.PlainSpaces.{state_of}
use Rattle.hg_base.proofs.plain_parts.PlainParts.count_taken.Given as goal

abbrev pub invariant-loop-no : goal.invariant-loop-no
invariant-loop-no l = l.count ≡ taken_below (state_of l.self).taken l.file l.no
