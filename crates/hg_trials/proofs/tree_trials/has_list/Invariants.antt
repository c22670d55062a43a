use Rattle.hg_trials.specs.Alone.{StandsAlone}
use Rattle.hg_trials.proofs.tree_trials.has_list.Given as goal

abbrev pub invariant-loop-number : goal.invariant-loop-number
invariant-loop-number g l = StandsAlone (g.S.Pages.state l.space) l.tree
