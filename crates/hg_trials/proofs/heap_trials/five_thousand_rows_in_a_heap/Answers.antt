use Rattle.hg_trials.specs.OneHeap.{empty-start}
use Rattle.hg_trials.proofs.heap_trials.five_thousand_rows_in_a_heap.Goals as goal

pub run_trial-requires : goal.run_trial-requires
run_trial-requires g c = empty-start _ c.new-ledger.result.held c.new-space.ensures.start c.new-ledger.ensures
