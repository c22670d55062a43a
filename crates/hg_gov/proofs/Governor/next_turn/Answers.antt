use Rattle.std.specs.Prelude.{◌≡◌, ◌-◌, ◌∷◌}
use Rattle.std.proofs.Common.{sym, ◌∙◌, ap, subst, arith}
use Rattle.hg_gov.specs.Rounds.{GovernorState, turned}
use Rattle.hg_gov.specs.Shown.{shown, IsKept}
use Rattle.hg_gov.proofs.Queues.{at_front, turn_kept, turn_state, room_all}
use Rattle.hg_gov.proofs.Governor.next_turn.Goals as goal

pub insert-requires : goal.insert-requires
insert-requires c =
    let i = c.self.inside in
    let k = c.self.invariant in
    let few = k.few in
    let some = c.if-self-eq0.false in
    let l = c.remove-front.ensures.len in
    let room = room_all i.queue.items i.active i.ledger.held i.most i.current i.mpl k in
    (omega arith, (omega arith, omega arith))

pub invariant_of-self : goal.invariant_of-self
invariant_of-self c =
    let i = c.self.inside in
    let few = c.self.invariant.few in
    let some = c.if-self-eq0.false in
    let e : i.queue.items ≡ c.remove-front.result ∷ c.remove-front.new.self.items =
    at_front i.queue.items c.remove-front.result (omega arith) c.remove-front.ensures.value ∙ ap (λ l. c.remove-front.result ∷ l) (sym c.remove-front.ensures.items) in
    subst (λ q. IsKept q i.active i.ledger.held i.most i.current i.mpl) (sym c.insert.ensures.items)
    (turn_kept i.queue.items c.remove-front.new.self.items c.remove-front.result i.active (i.active - 1) i.ledger.held i.most i.current i.mpl e c.self.invariant)

pub returns-clause-state : goal.returns-clause-state
returns-clause-state c =
    let i = c.self.inside in
    let few = c.self.invariant.few in
    let some = c.if-self-eq0.false in
    let e : i.queue.items ≡ c.remove-front.result ∷ c.remove-front.new.self.items =
    at_front i.queue.items c.remove-front.result (omega arith) c.remove-front.ensures.value ∙ ap (λ l. c.remove-front.result ∷ l) (sym c.remove-front.ensures.items) in
    ap (λ q. shown q i.active i.ledger.held i.most i.current i.mpl) c.insert.ensures.items
    ∙ turn_state i.queue.items c.remove-front.new.self.items c.remove-front.result i.active (i.active - 1) i.ledger.held i.most i.current i.mpl e (omega arith) few
    ∙ ap (λ (s : GovernorState). record s { round = turned s.round }) c.self.view_is

pub returns-clause-sound : goal.returns-clause-sound
returns-clause-sound c = (invariant_of-self c).sound
