use Rattle.hg_trials.specs.OneHeap.{IsWork}
use Rattle.hg_trials.proofs.heap_trials.build.Given as goal

abbrev pub invariant-loop-k : goal.invariant-loop-k
invariant-loop-k g l = IsWork (g.H.Pages.state l.heaps) l.h.0 l.ledger.held
