use Rattle.std.proofs.Common.{◌≡◌, ◌∙◌, ap, sym, subst, arith, ℕ, Some, OnErr, option_map, length, false}
use Rattle.std.proofs.lemmas.Result.{err_from_is_err_and}
use Rattle.hg_base.specs.HeapStates.{frames_locked, IsLocked, AddsHeapPage, with_heap}
use Rattle.hg_base.specs.Space.{Space, at}
use Rattle.hg_base.specs.Plain.{heap_of, heap_at}
use Rattle.hg_base.specs.PlainHeapFacts.{GotPage, IsSameHeap}
use Rattle.hg_base.specs.PlainSpaces.{state_of, owners_of, IsWhole}
use Rattle.hg_base.specs.PlainTables.{PutsHeap}
use Rattle.hg_base.specs.declared.plain_heap.PlainHeap.{PlainHeap}
use Rattle.hg_base.specs.declared.plain_parts.PlainParts.{PlainParts}
use Rattle.hg_base.specs.PlainChanges.{LockedAt, locked-at, there-some, same-shown, same-holds, whole-as, frames-few}
use Rattle.hg_base.specs.PlainKept.{some-heap, some-number, with-same}
use Rattle.hg_base.proofs.PlainGrowth.{add-shown, add-whole, puts-heaps, puts-state, puts-long}
use Rattle.hg_base.proofs.plain_parts.PlainParts.add_heap_page.Goals as goal

pub request_of-request-requires : goal.request_of-request-requires
request_of-request-requires c =
    let g : PlainParts = c.grow.new.self in
    let h : ℕ = c.args.h.0 in
    let q : ℕ = c.place_of-at.result in
    let same : state_of g ≡ state_of c.args.self.now = c.in_ok-grow.ensures.same in
    let whole : IsWhole g = c.in_ok-grow.ensures.whole c.requires.whole in
    let lock : LockedAt g h = locked-at g h (subst (λ z. IsLocked z h) (sym same) c.requires.locked) in
    there-some (heap_at g.heaps.items h) lock.heap lock.is

pub returns-in_err-push_page-clause-err : goal.returns-in_err-push_page-clause-err
returns-in_err-push_page-clause-err c =
    let g : PlainParts = c.grow.new.self in
    let h : ℕ = c.args.h.0 in
    let p : PutsHeap IsSameHeap g c.push_page.new.self h = c.in_err-push_page.ensures.err in
    let r = err_from_is_err_and c.from_residual-in_err-push_page.result c.from_residual-in_err-push_page.ensures.1 in
    subst (λ z. OnErr z (state_of c.push_page.new.self ≡ state_of c.args.self.now)) (sym r.1)
    (puts-state g c.push_page.new.self h p.heap p.after p.inside
    ∙ ap (λ z. with_heap (state_of g) h (Some z)) (same-shown p.before p.heap p.change)
    ∙ with-same (state_of g) h (heap_of p.before) (ap (option_map heap_of) p.is)
    ∙ c.in_ok-grow.ensures.same)

pub returns-in_err-push_page-clause-whole : goal.returns-in_err-push_page-clause-whole
returns-in_err-push_page-clause-whole c =
    let g : PlainParts = c.grow.new.self in
    let h : ℕ = c.args.h.0 in
    let whole : IsWhole g = c.in_ok-grow.ensures.whole c.requires.whole in
    let p : PutsHeap IsSameHeap g c.push_page.new.self h = c.in_err-push_page.ensures.err in
    subst (λ z. IsWhole z) (sym p.after)
    (whole-as g h p.before p.heap whole p.is p.change.request p.change.pages (ap length p.change.layout) (same-holds p.before p.heap p.change (whole.kept.each h p.before p.is).holds))

pub own-requires-clause-free : goal.own-requires-clause-free
own-requires-clause-free c =
    let g : PlainParts = c.grow.new.self in
    let h : ℕ = c.args.h.0 in
    let q : ℕ = c.place_of-at.result in
    let same : state_of g ≡ state_of c.args.self.now = c.in_ok-grow.ensures.same in
    let whole : IsWhole g = c.in_ok-grow.ensures.whole c.requires.whole in
    let lock : LockedAt g h = locked-at g h (subst (λ z. IsLocked z h) (sym same) c.requires.locked) in
    let p : PutsHeap (λ x y. GotPage x y q) g c.push_page.new.self h = c.in_ok-push_page.ensures.ok in
    let x : PlainHeap = p.before in
    let y : PlainHeap = p.heap in
    let st = ap (λ (z : PlainHeap). z.standing) (some-heap x lock.heap (sym p.is ∙ lock.is)) ∙ lock.locked in
    let free : (state_of g).taken q ≡ false = ap (λ (z : Space). z.taken q) same ∙ ap (state_of c.args.self.now).taken c.place_of-at.ensures ∙ c.requires.free in
    let few = frames-few g h x (whole.kept.each h x p.is).number p.is st in
    let room = ap frames_locked same in
    ap (λ (z : PlainParts). (state_of z).taken q) p.after ∙ free

pub returns-clause-ok : goal.returns-clause-ok
returns-clause-ok c =
    let g : PlainParts = c.grow.new.self in
    let h : ℕ = c.args.h.0 in
    let q : ℕ = c.place_of-at.result in
    let same : state_of g ≡ state_of c.args.self.now = c.in_ok-grow.ensures.same in
    let whole : IsWhole g = c.in_ok-grow.ensures.whole c.requires.whole in
    let lock : LockedAt g h = locked-at g h (subst (λ z. IsLocked z h) (sym same) c.requires.locked) in
    let p : PutsHeap (λ x y. GotPage x y q) g c.push_page.new.self h = c.in_ok-push_page.ensures.ok in
    let x : PlainHeap = p.before in
    let y : PlainHeap = p.heap in
    let st = ap (λ (z : PlainHeap). z.standing) (some-heap x lock.heap (sym p.is ∙ lock.is)) ∙ lock.locked in
    let free : (state_of g).taken q ≡ false = ap (λ (z : Space). z.taken q) same ∙ ap (state_of c.args.self.now).taken c.place_of-at.ensures ∙ c.requires.free in
    let few = frames-few g h x (whole.kept.each h x p.is).number p.is st in
    let room = ap frames_locked same in
    subst (λ z. AddsHeapPage z (state_of c.raise_peak.new.self) h) same
    (add-shown g (state_of c.push_page.new.self) (state_of c.own.new.self) (state_of c.raise_peak.new.self) h q c.args.no c.request_of-request.result c.held-held.result x y p.is st
    (puts-state g c.push_page.new.self h y p.after p.inside) p.change c.own.ensures.state c.raise_peak.ensures.state
    (some-number x.request c.request_of-request.result (sym (ap (option_map (λ (z : PlainHeap). z.request)) p.is) ∙ c.request_of-request.ensures))
    c.held-held.ensures.count c.place_of-at.ensures c.requires.page free (let r = c.requires.room in omega arith))

pub returns-clause-whole : goal.returns-clause-whole
returns-clause-whole c =
    let g : PlainParts = c.grow.new.self in
    let h : ℕ = c.args.h.0 in
    let q : ℕ = c.place_of-at.result in
    let same : state_of g ≡ state_of c.args.self.now = c.in_ok-grow.ensures.same in
    let whole : IsWhole g = c.in_ok-grow.ensures.whole c.requires.whole in
    let lock : LockedAt g h = locked-at g h (subst (λ z. IsLocked z h) (sym same) c.requires.locked) in
    let p : PutsHeap (λ x y. GotPage x y q) g c.push_page.new.self h = c.in_ok-push_page.ensures.ok in
    let x : PlainHeap = p.before in
    let y : PlainHeap = p.heap in
    let st = ap (λ (z : PlainHeap). z.standing) (some-heap x lock.heap (sym p.is ∙ lock.is)) ∙ lock.locked in
    let free : (state_of g).taken q ≡ false = ap (λ (z : Space). z.taken q) same ∙ ap (state_of c.args.self.now).taken c.place_of-at.ensures ∙ c.requires.free in
    let few = frames-few g h x (whole.kept.each h x p.is).number p.is st in
    let room = ap frames_locked same in
    let heaps = puts-heaps g c.push_page.new.self h y p.after p.inside in
    let long = puts-long g c.push_page.new.self h y p.after in
    add-whole g c.raise_peak.new.self h q c.args.no x y whole p.is st p.change
    (c.raise_peak.ensures.owners ∙ c.own.ensures.owners ∙ ap (λ (z : PlainParts). at (owners_of z) q (Some h)) p.after)
    (ap (λ v. heap_at v.items) c.raise_peak.ensures.heaps ∙ ap (λ v. heap_at v.items) c.own.ensures.heaps ∙ heaps)
    (let a = ap (λ v. length v.items) c.raise_peak.ensures.heaps in let d = ap (λ v. length v.items) c.own.ensures.heaps in let e = whole.few in omega arith)
    c.place_of-at.ensures free (let r = c.requires.room in omega arith)
