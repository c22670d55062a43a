use Rattle.hg_trials.specs.OneHeap.{IsResting}
use Rattle.hg_trials.proofs.heap_trials.drain_all.Given as goal

abbrev pub invariant-loop-turn : goal.invariant-loop-turn
invariant-loop-turn g l = IsResting (g.H.Pages.state l.heaps) l.h.0 l.ledger.held
