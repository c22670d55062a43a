use Rattle.hg_clock.specs.Sweep.{Lowers}
use Rattle.hg_clock.proofs.sweep.lower.Given as goal

abbrev pub invariant-loop-frame : goal.invariant-loop-frame
invariant-loop-frame l = Lowers l.initial.scores l.out l.low l.frame l.amount l.scores
