use Rattle.hg_trials.specs.OneHeap.{IsWork}
use Rattle.hg_trials.proofs.heap_trials.push_block.Given as goal

abbrev pub invariant-loop-i : goal.invariant-loop-i
invariant-loop-i g l = IsWork (g.H.Pages.state l.heaps) l.h.0 l.ledger.held
