use Rattle.std.specs.Prelude.{◌-◌}
use Rattle.hg_pool.specs.Shown.{state_of}
use Rattle.hg_heap.specs.Resting.{pages_from}
use Rattle.hg_heap.specs.Relocating.{Reading}
use Rattle.hg_heap.proofs.moving.read_moves.Given as goal

abbrev pub invariant-loop-turn : goal.invariant-loop-turn
invariant-loop-turn g l = Reading g.M.PageDevice g.T.PageDevice l.pool
    (pages_from (state_of g.M.PageDevice g.T.PageDevice l.pool).next l.first l.count) l.chain l.map l.fn.map.max
    l.no (l.count - l._turn) l.moved
