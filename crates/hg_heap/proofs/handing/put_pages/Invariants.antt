use Rattle.std.specs.Prelude.{◌-◌, suc}
use Rattle.hg_pool.specs.Shown.{state_of}
use Rattle.hg_heap.specs.Resting.{pages_from}
use Rattle.hg_heap.specs.Handing.{Putting, contents}
use Rattle.hg_heap.proofs.handing.put_pages.Given as goal

abbrev pub invariant-loop-turn : goal.invariant-loop-turn
invariant-loop-turn g l = Putting g.M.PageDevice g.T.PageDevice l.fn.pool l.pool
    (pages_from (state_of g.M.PageDevice g.T.PageDevice l.fn.pool).next l.first l.count) (contents l.fn.chain.frames)
    l.no (suc (l.count - l._turn)) l.chain
