use Rattle.std.proofs.Common.{◌≡◌, length}
use Rattle.hg_raw.specs.Frames.{numbers}
use Rattle.hg_raw.specs.Links.{from, first_of}
use Rattle.hg_raw.proofs.tests.has.Given as goal

abbrev pub invariant-loop-at : goal.invariant-loop-at
invariant-loop-at l = l.at ≡ first_of (from l.at (numbers l.chain.frames))

abbrev pub decreases-loop-at : goal.decreases-loop-at
decreases-loop-at l = length (from l.at (numbers l.chain.frames))
