use Rattle.std.proofs.Common.{◌≡◌, ℕ, ◌<◌, true}
use Rattle.hg_base.specs.Space.{key_in}
use Rattle.hg_base.specs.PlainSpaces.{state_of}
use Rattle.hg_base.proofs.plain_parts.PlainParts.unused.Given as goal

abbrev pub invariant-loop-no : goal.invariant-loop-no
invariant-loop-no l = (k : ℕ) → k < l.no → (state_of l.self).taken (key_in l.file k) ≡ true
