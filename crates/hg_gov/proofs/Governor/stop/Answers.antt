use Rattle.std.specs.Prelude.{◌≡◌, ℕ, ◌<◌, ◌≤◌, List, length, min, max, slice_index}
use Rattle.std.proofs.Common.{sym, ◌∙◌, ap, subst, arith}
use Rattle.hg_gov.specs.Rounds.{IsBusy, count_of, stopped}
use Rattle.hg_gov.specs.Shown.{shown}
use Rattle.hg_gov.proofs.Queues.{IsSplit, IsLeft, left_active, left_waiting, busy_whole, split_kept, stop_kept, stops}
use Rattle.hg_gov.proofs.Governor.stop.Goals as goal
use Rattle.hg_gov.proofs.Governor.stop.Goals.{then-at-active, else-at-active}

pub place_of-at-requires : goal.place_of-at-requires
place_of-at-requires c =
    let i = c.self.inside in
    let busy = subst (λ n. IsBusy (shown i.queue.items i.active i.ledger.held i.most i.current i.mpl) n) (sym c.r.view_is) (subst (λ s. IsBusy s c.args.r) (sym c.self.view_is) c.requires) in
    subst (λ q. 1 ≤ count_of c.r.inside.0 q) (sym c.as_slice.ensures.value) (busy_whole i.queue.items i.active c.r.inside.0 busy)

pub invariant_of-self : goal.invariant_of-self
invariant_of-self c =
    let i = c.self.inside in
    let q : List ℕ = i.queue.items in
    let p : List ℕ = c.remove.new.self.items in
    let at : ℕ = c.place_of-at.result in
    let r : ℕ = c.r.inside.0 in
    let inside = ap length c.as_slice.ensures.value in
    let within : at < length q = (let n = c.place_of-at.ensures.inside in omega arith) in
    let here : slice_index q at ≡ r = sym (ap (λ l. slice_index l at) c.as_slice.ensures.value) ∙ c.place_of-at.ensures.here in
    let s : IsSplit q at r = split_kept q at r i.active i.ledger.held i.most i.current i.mpl c.self.invariant within here in
    let left : IsLeft q p r i.active c.if-at-active.active = elim c.if-at-active.branch [
      | then-at-active w ↦ left_active q p at r i.active c.if-at-active.active s c.remove.ensures.items w.if-at-active.true c.self.invariant.few w.active-is
      | else-at-active w ↦ left_waiting q p at r i.active c.if-at-active.active s c.remove.ensures.items w.if-at-active.false within w.active-is
    ] in
    let e : c.max-self-inside.result ≡ max c.if-at-active.active (min i.mpl (length p)) =
    (let m = c.max-self-inside.ensures in let n = c.min.ensures in let l = c.len.ensures.value in omega arith) in
    stop_kept q p at r i.active c.if-at-active.active c.max-self-inside.result i.ledger.held i.most i.current i.mpl c.self.invariant s c.remove.ensures.items left.few e

pub returns-clause-state : goal.returns-clause-state
returns-clause-state c =
    let i = c.self.inside in
    let q : List ℕ = i.queue.items in
    let p : List ℕ = c.remove.new.self.items in
    let at : ℕ = c.place_of-at.result in
    let r : ℕ = c.r.inside.0 in
    let inside = ap length c.as_slice.ensures.value in
    let within : at < length q = (let n = c.place_of-at.ensures.inside in omega arith) in
    let here : slice_index q at ≡ r = sym (ap (λ l. slice_index l at) c.as_slice.ensures.value) ∙ c.place_of-at.ensures.here in
    let s : IsSplit q at r = split_kept q at r i.active i.ledger.held i.most i.current i.mpl c.self.invariant within here in
    let left : IsLeft q p r i.active c.if-at-active.active = elim c.if-at-active.branch [
      | then-at-active w ↦ left_active q p at r i.active c.if-at-active.active s c.remove.ensures.items w.if-at-active.true c.self.invariant.few w.active-is
      | else-at-active w ↦ left_waiting q p at r i.active c.if-at-active.active s c.remove.ensures.items w.if-at-active.false within w.active-is
    ] in
    let e : c.max-self-inside.result ≡ max c.if-at-active.active (min i.mpl (length p)) =
    (let m = c.max-self-inside.ensures in let n = c.min.ensures in let l = c.len.ensures.value in omega arith) in
    stops q p r i.active c.if-at-active.active c.max-self-inside.result i.ledger.held i.most i.current i.mpl left.parts left.few e
    ∙ ap (stopped r) c.self.view_is ∙ ap (λ n. stopped n c.args.self.now) c.r.view_is

pub returns-clause-sound : goal.returns-clause-sound
returns-clause-sound c = (invariant_of-self c).sound
