use Rattle.hg_heap.specs.Handing.{Taking}
use Rattle.hg_heap.proofs.handing.take_pages.Given as goal

abbrev pub invariant-loop-taken : goal.invariant-loop-taken
invariant-loop-taken g l = Taking g.M.PageDevice g.T.PageDevice l.fn.pool l.pool l.first l.no l.taken l.chain
