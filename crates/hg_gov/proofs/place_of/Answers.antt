use Rattle.hg_gov.proofs.Queues.{not_gone}
use Rattle.hg_gov.proofs.place_of.Goals as goal

pub unreachable-requires : goal.unreachable-requires
unreachable-requires c = not_gone c.args.queue.now c.args.request c.loop-at.at c.loop-at-test.false c.loop-at.invariant
