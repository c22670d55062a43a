use Rattle.std.proofs.Common.{◌≡◌, length}
use Rattle.hg_raw.specs.Frames.{numbers}
use Rattle.hg_raw.specs.Links.{from, first_of, marked}
use Rattle.hg_raw.proofs.chain.Chain.mark.Given as goal

abbrev pub invariant-loop-at : goal.invariant-loop-at
invariant-loop-at l = record {
  here : l.at ≡ first_of (from l.at (numbers l.self.frames));
  marks : marked l.flags (from l.at (numbers l.self.frames)) ≡ marked l.initial.flags (numbers l.self.frames);
}

abbrev pub decreases-loop-at : goal.decreases-loop-at
decreases-loop-at l = length (from l.at (numbers l.self.frames))
