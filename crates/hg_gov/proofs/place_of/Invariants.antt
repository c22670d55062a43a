use Rattle.std.specs.Prelude.{◌≤◌, drop}
use Rattle.hg_gov.specs.Rounds.{count_of}
use Rattle.hg_gov.proofs.place_of.Given as goal

abbrev pub invariant-loop-at : goal.invariant-loop-at
invariant-loop-at l = 1 ≤ count_of l.request (drop l.at l.queue)
