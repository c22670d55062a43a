use Rattle.std.proofs.Common.{ap}
use Rattle.hg_base.specs.Plain.{shown, shown_heaps, slot_at}
use Rattle.hg_base.specs.PlainSpaces.{counts_of}
use Rattle.hg_base.proofs.PlainHeaps.{heaps-pushed}
use Rattle.hg_base.proofs.plain_parts.PlainParts.grow_heaps.Goals as goal

pub returns-in_ok-push-clause-same : goal.returns-in_ok-push-clause-same
returns-in_ok-push-clause-same c = heaps-pushed c.args.self.now.heaps.items c.push.new.self.items c.in_ok-push.ensures.items

pub returns-in_ok-push-clause-state : goal.returns-in_ok-push-clause-state
returns-in_ok-push-clause-state c =
    ap (λ g. shown (slot_at c.args.self.now.slots.items) c.args.self.now.pins (counts_of c.args.self.now) (shown_heaps g c.args.self.now.caps c.args.self.now.peaks))
    (heaps-pushed c.args.self.now.heaps.items c.push.new.self.items c.in_ok-push.ensures.items)
