use Rattle.std.proofs.Common.{◌∙◌, sym, refl, arith}
use Rattle.hg_pool.proofs.Counting.{some-free}
use Rattle.hg_pool.proofs.store.Store.victim.Goals as goal

pub unreachable-requires : goal.unreachable-requires
unreachable-requires c =
    let s = c.args.self.now in
    let h = c.requires.shaped in
    some-free s.frames.items s.pins s.lent h.counted h.lent_counted c.requires.room
    (λ k l. sym (h.clock.out k) ∙ c.in-None.ensures.none.0 refl k (let e = c.count.ensures in omega (arith, e, l)))
