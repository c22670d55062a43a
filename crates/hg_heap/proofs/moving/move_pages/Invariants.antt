use Rattle.std.specs.Prelude.{◌-◌}
use Rattle.hg_heap.specs.Relocating.{Moving}
use Rattle.hg_heap.proofs.moving.move_pages.Given as goal

abbrev pub invariant-loop-turn : goal.invariant-loop-turn
invariant-loop-turn g l = Moving g.M.PageDevice g.T.PageDevice l.pool l.fn.chain l.chain l.map l.no (l.count - l._turn)
