use Rattle.std.proofs.Common.{◌≡◌, ◌∙◌, ap, sym, subst, arith, ℕ, ◌+◌, ◌<◌, ◌≤◌, List, length, slice_index, slice_set}
use Rattle.hg_base.specs.HeapStates.{MayGrow, pages_in}
use Rattle.hg_base.specs.Space.{Space}
use Rattle.hg_base.specs.declared.grants.Grant.{Grant}
use Rattle.hg_trials.specs.OneHeap.{one-grows, one-added, locked-added, set-told}
use Rattle.hg_trials.proofs.heap_trials.grow.Goals as goal

pub add_page-requires-clause-room : goal.add_page-requires-clause-room
add_page-requires-clause-room g c =
    let s : Space = g.H.Pages.state c.args.heaps.now in
    let few = c.if-pages-ge1000.false in let p = c.pages.ensures in
    subst (λ (r : ℕ). MayGrow s r) (sym (ap (λ (x : Grant). x.request) c.grant-grant.ensures.grant)) (one-grows s c.args.h.0 c.args.ledger.now.held c.requires.one (omega arith))

pub returned-requires : goal.returned-requires
returned-requires g c =
    let held : List ℕ = c.args.ledger.now.held in
    let same = c.in-Err.ensures.back ∙ c.grant-grant.ensures.grant in
    let t = set-told held (slice_index held 0 + 1) c.requires.one.requests in
    let one = ap (λ (x : Grant). x.pages) same in
    let r = ap (λ (x : Grant). x.request) same in
    let told = ap (λ l. slice_index l 0) c.grant-grant.ensures.held ∙ t.0 in
    let here = ap (λ n. slice_index c.grant-grant.new.self.held n) r in
    omega arith

pub returns-in-Ok : goal.returns-in-Ok
returns-in-Ok g c =
    let a : Space = g.H.Pages.state c.args.heaps.now in
    let b : Space = g.H.Pages.state c.add_page.new.self in
    let held : List ℕ = c.args.ledger.now.held in
    let t = set-told held (slice_index held 0 + 1) c.requires.one.requests in
    record {
      one = one-added a b c.args.h.0 held c.grant-grant.new.self.held c.requires.one c.in-Ok.ensures.ok (ap length c.grant-grant.ensures.held ∙ t.1) (ap (λ l. slice_index l 0) c.grant-grant.ensures.held ∙ t.0);
      locked = locked-added a b c.args.h.0 c.in-Ok.ensures.ok;
    }
