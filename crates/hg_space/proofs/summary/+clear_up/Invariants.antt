use Rattle.hg_space.proofs.summary.+clear_up.Given as goal

abbrev pub decreases-clear_up : goal.decreases-clear_up
decreases-clear_up l = l.bit
