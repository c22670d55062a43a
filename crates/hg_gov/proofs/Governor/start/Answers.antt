use Rattle.std.specs.Prelude.{◌+◌}
use Rattle.std.proofs.Common.{sym, subst, arith}
use Rattle.hg_gov.specs.Rounds.{IsIdle}
use Rattle.hg_gov.specs.Shown.{shown, IsKept}
use Rattle.hg_gov.proofs.Queues.{facts_of, kept_start, room_start}
use Rattle.hg_gov.proofs.Governor.start.Goals as goal

pub push-requires : goal.push-requires
push-requires c =
    let i = c.self.inside in
    let idle = subst (λ n. IsIdle (shown i.queue.items i.active i.ledger.held i.most i.current i.mpl) n) (sym c.r.view_is) (subst (λ s. IsIdle s c.args.r) (sym c.self.view_is) c.requires) in
    (omega arith, room_start i.queue.items i.active i.ledger.held i.most i.current i.mpl c.r.inside.0 c.self.invariant idle c.r.invariant)

pub invariant_of-self : goal.invariant_of-self
invariant_of-self c =
    let i = c.self.inside in
    let idle = subst (λ n. IsIdle (shown i.queue.items i.active i.ledger.held i.most i.current i.mpl) n) (sym c.r.view_is) (subst (λ s. IsIdle s c.args.r) (sym c.self.view_is) c.requires) in
    let f = facts_of i.queue.items i.active i.ledger.held i.most i.current i.mpl c.self.invariant in
    let few = f.few in
    let below = c.if-self.true in
    subst (λ q. IsKept q (i.active + 1) i.ledger.held i.most i.current i.mpl) (sym c.push.ensures.items)
    (kept_start i.queue.items i.active (i.active + 1) i.ledger.held i.most i.current i.mpl c.r.inside.0 c.self.invariant idle c.r.invariant (omega arith)
    (λ h. let w = f.none_waits (omega arith) in omega arith))

pub returns-then-self-clause-sound : goal.returns-then-self-clause-sound
returns-then-self-clause-sound c = (invariant_of-self c).sound

pub invariant_of-self-else-self : goal.invariant_of-self-else-self
invariant_of-self-else-self c =
    let i = c.self.inside in
    let idle = subst (λ n. IsIdle (shown i.queue.items i.active i.ledger.held i.most i.current i.mpl) n) (sym c.r.view_is) (subst (λ s. IsIdle s c.args.r) (sym c.self.view_is) c.requires) in
    let f = facts_of i.queue.items i.active i.ledger.held i.most i.current i.mpl c.self.invariant in
    let few = f.few in
    let not_below = c.if-self.false in
    subst (λ q. IsKept q i.active i.ledger.held i.most i.current i.mpl) (sym c.push.ensures.items)
    (kept_start i.queue.items i.active i.active i.ledger.held i.most i.current i.mpl c.r.inside.0 c.self.invariant idle c.r.invariant (omega arith)
    (λ h. not_below))

pub returns-clause-sound : goal.returns-clause-sound
returns-clause-sound c = (invariant_of-self-else-self c).sound
