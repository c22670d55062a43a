use Rattle.std.proofs.Common.{◌≡◌, ◌∙◌, ap, sym, subst, arith, ℕ, ◌+◌, ◌<◌, ◌≤◌, List, length, slice_index, slice_set}
use Rattle.hg_base.specs.HeapStates.{MayGrow, MakesHeap}
use Rattle.hg_base.specs.Space.{Space}
use Rattle.hg_base.specs.declared.grants.Grant.{Grant}
use Rattle.hg_trials.specs.OneHeap.{IsWork, IsResting, empty-few, empty-grows, one-made, locked-made, set-told, rests-unlocked, unlocked-after}
use Rattle.hg_trials.proofs.heap_trials.run_trial.Goals as goal

pub make-requires-clause-few_heaps : goal.make-requires-clause-few_heaps
make-requires-clause-few_heaps g c = empty-few (g.H.Pages.state c.args.heaps.now) c.args.ledger.now.held c.requires

pub make-requires-clause-room : goal.make-requires-clause-room
make-requires-clause-room g c =
    let s : Space = g.H.Pages.state c.args.heaps.now in
    subst (λ (r : ℕ). MayGrow s r) (sym (ap (λ (x : Grant). x.request) c.grant-grant.ensures.grant)) (empty-grows s c.args.ledger.now.held c.requires)

pub build-requires : goal.build-requires
build-requires g c =
    let a : Space = g.H.Pages.state c.args.heaps.now in
    let b : Space = g.H.Pages.state c.make.new.self in
    let held : List ℕ = c.args.ledger.now.held in
    let t = set-told held (slice_index held 0 + 1) c.requires.requests in
    let z = c.requires.granted in
    let m : MakesHeap a b c.in-Ok.h.0 0 = subst (λ (r : ℕ). MakesHeap a b c.in-Ok.h.0 r) (ap (λ (x : Grant). x.request) c.grant-grant.ensures.grant) c.in-Ok.ensures.ok in
    let first = ap (λ l. slice_index l 0) c.grant-grant.ensures.held ∙ t.0 in
    record {
      one = one-made a b c.in-Ok.h.0 c.grant-grant.new.self.held c.requires.pins c.requires.current c.requires.cap c.requires.none m (ap length c.grant-grant.ensures.held ∙ t.1) (omega arith);
      locked = locked-made a b c.in-Ok.h.0 m;
    }

pub drain_all-requires : goal.drain_all-requires
drain_all-requires g c =
    let s : Space = g.H.Pages.state c.build.new.heaps in
    let w : IsWork s c.in-Ok.h.0 c.build.new.ledger.held = c.in_ok-build.ensures in
    subst (λ z. IsResting z c.in-Ok.h.0 c.build.new.ledger.held) (sym c.unlock.ensures)
    (rests-unlocked _ c.in-Ok.h.0 c.build.new.ledger.held (unlocked-after s c.in-Ok.h.0 c.build.new.ledger.held w.one w.locked))
