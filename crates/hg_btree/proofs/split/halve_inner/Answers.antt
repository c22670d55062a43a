use Rattle.std.proofs.Common.{arith}
use Rattle.hg_btree.proofs.Splitting.{halves_inner}
use Rattle.hg_btree.proofs.split.halve_inner.Goals as goal

pub slice_bounds-set_key-count : goal.slice_bounds-set_key-count
slice_bounds-set_key-count c = let e = c.in_ok-cut.ensures.entry in omega arith

pub returns-clause-halves : goal.returns-clause-halves
returns-clause-halves c = λ level link es h.
    let e = c.in_ok-cut.ensures.entry in
    halves_inner c.args.page.now level link es _ c.set_key.new.key.items h (c.in_ok-cut.ensures.cut level link es h) c.in_ok-cut.ensures.lower (c.in_ok-cut.ensures.upper.0)
    (e.0) (let a = c.saturating_sub-2.ensures in let b = c.saturating_sub.ensures in let d = c.number_at-total.ensures.value in let f = c.number_at-total.ensures.small in omega arith)
    c.set_key.ensures c.place_of.ensures c.page_number_at.ensures
