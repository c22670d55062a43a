use Rattle.std.proofs.Common.{◌≡◌, ◌∙◌, ap, sym, subst, arith, ℕ, ◌+◌, ◌-◌, ◌<◌, ◌≤◌, List, length, slice_index, slice_set}
use Rattle.hg_base.specs.HeapStates.{pages_in, request_in}
use Rattle.hg_base.specs.Space.{Space}
use Rattle.hg_base.specs.declared.grants.Grant.{Grant}
use Rattle.hg_trials.specs.OneHeap.{one-request, one-granted, rests-drained, set-told}
use Rattle.hg_trials.proofs.heap_trials.drain_one.Goals as goal

pub returned-requires : goal.returned-requires
returned-requires g c =
    let s : Space = g.H.Pages.state c.args.heaps.now in
    let held : List ℕ = c.args.ledger.now.held in
    let one = ap (λ (x : Grant). x.pages) c.in_ok-grant.ensures.grant in
    let r : c.in_ok-grant.grant.request ≡ 0 = ap (λ (x : Grant). x.request) c.in_ok-grant.ensures.grant ∙ sym (one-request s c.args.h.0 held c.requires.rests.one) in
    let here = ap (slice_index held) r in
    let n = one-granted s c.args.h.0 held c.requires.rests.one in
    let some = c.requires.some in
    omega arith

pub returns : goal.returns
returns g c =
    let a : Space = g.H.Pages.state c.args.heaps.now in
    let b : Space = g.H.Pages.state c.drain.new.self in
    let held : List ℕ = c.args.ledger.now.held in
    let grant : Grant = c.in_ok-grant.grant in
    let one : grant.pages ≡ 1 = ap (λ (x : Grant). x.pages) c.in_ok-grant.ensures.grant in
    let r : grant.request ≡ 0 = ap (λ (x : Grant). x.request) c.in_ok-grant.ensures.grant ∙ sym (one-request a c.args.h.0 held c.requires.rests.one) in
    let n = one-granted a c.args.h.0 held c.requires.rests.one in
    let some = c.requires.some in
    let told = set-told held (slice_index held 0 - 1) c.requires.rests.one.requests in
    let is : c.returned.new.self.held ≡ slice_set held 0 (slice_index held 0 - 1) =
    c.returned.ensures ∙ ap (λ k. slice_set held k (slice_index held k - grant.pages)) r ∙ ap (λ k. slice_set held 0 (slice_index held 0 - k)) one in
    let first = ap (λ l. slice_index l 0) is ∙ told.0 in
    rests-drained a b c.args.h.0 held c.returned.new.self.held c.drain.new.out c.requires.rests c.in_ok-grant.ensures.ok (ap length is ∙ told.1) (omega arith)
