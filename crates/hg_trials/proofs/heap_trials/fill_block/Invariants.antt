use Rattle.hg_trials.specs.OneHeap.{KeepsWork}
use Rattle.hg_trials.proofs.heap_trials.fill_block.Given as goal

abbrev pub invariant-loop-i : goal.invariant-loop-i
invariant-loop-i g l = KeepsWork (g.H.Pages.state l.initial.heaps) (g.H.Pages.state l.heaps) l.h.0
