use Rattle.hg_trials.specs.Alone.{StandsAlone}
use Rattle.hg_trials.proofs.tree_trials.fill.Given as goal

abbrev pub invariant-loop-turn : goal.invariant-loop-turn
invariant-loop-turn g l = StandsAlone (g.S.Pages.state l.space) l.tree
