use Rattle.std.proofs.Common.{arith}
use Rattle.hg_gov.proofs.Queues.{few_active}
use Rattle.hg_gov.proofs.Governor.hard.Goals as goal

pub overflow_mul-result-2 : goal.overflow_mul-result-2
overflow_mul-result-2 c =
    let f = few_active c.self.inside.queue.items c.self.inside.active c.self.inside.ledger.held c.self.inside.most c.self.inside.current c.self.inside.mpl c.self.invariant in
    let m = c.max.ensures in
    omega arith
