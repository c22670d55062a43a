use Rattle.std.proofs.Common.{ap, ℕ, refl}
use Rattle.hg_base.specs.Plain.{slot_at, shown, owner_of}
use Rattle.hg_base.specs.PlainSpaces.{counts_of, state_of}
use Rattle.hg_base.proofs.PlainSteps.{list-pushed, owners-pushed, whole-same}
use Rattle.hg_base.proofs.plain_parts.PlainParts.add_slot.Goals as goal

pub returns-clause-same : goal.returns-clause-same
returns-clause-same c =
    list-pushed c.args.self.now.slots.items c.empty-slot.result c.push.new.self.items c.args.self.now.pins (counts_of c.args.self.now) (state_of c.args.self.now).heaps c.empty-slot.ensures c.in_ok-push.ensures.items

pub returns-in_err-push-clause-same : goal.returns-in_err-push-clause-same
returns-in_err-push-clause-same c =
    ap (λ items. shown (slot_at items) c.args.self.now.pins (counts_of c.args.self.now) (state_of c.args.self.now).heaps) c.in_err-push.ensures.items

pub returns-clause-whole : goal.returns-clause-whole
returns-clause-whole c =
    whole-same c.args.self.now (record c.args.self.now { slots = c.push.new.self }) refl
    (owners-pushed c.args.self.now.slots.items c.empty-slot.result c.push.new.self.items c.empty-slot.ensures c.in_ok-push.ensures.items)

pub returns-in_err-push-clause-whole : goal.returns-in_err-push-clause-whole
returns-in_err-push-clause-whole c =
    whole-same c.args.self.now (record c.args.self.now { slots = c.push.new.self }) refl
    (ap (λ items. λ (q : ℕ). owner_of q (slot_at items q)) c.in_err-push.ensures.items)
