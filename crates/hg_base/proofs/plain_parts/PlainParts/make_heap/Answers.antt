use Rattle.std.proofs.Common.{◌≡◌, ◌∙◌, ap, sym, subst, arith, ℕ, Some, None, length, false}
use Rattle.hg_base.specs.HeapStates.{pages_held}
use Rattle.hg_base.specs.Space.{Space, at}
use Rattle.hg_base.specs.Plain.{heap_at}
use Rattle.hg_base.specs.PlainHeapFacts.{AreKept}
use Rattle.hg_base.specs.PlainSpaces.{state_of, owners_of, IsWhole}
use Rattle.hg_base.specs.declared.plain_heap.PlainHeap.{PlainHeap}
use Rattle.hg_base.specs.declared.plain_parts.PlainParts.{PlainParts}
use Rattle.hg_base.proofs.PlainGrowth.{IsNewHeap, make-shown, make-whole}
use Rattle.hg_base.proofs.plain_parts.PlainParts.make_heap.Goals as goal

pub own-requires-clause-free : goal.own-requires-clause-free
own-requires-clause-free c =
    let q : ℕ = c.place_of-page.result in
    ap (λ (z : Space). z.taken q) (c.in_ok-grow_heaps.ensures.state ∙ c.in_ok-grow.ensures.same) ∙ ap (state_of c.args.self.now).taken c.place_of-page.ensures ∙ c.requires.free

pub returns-clause-ok : goal.returns-clause-ok
returns-clause-ok c =
    let w : PlainParts = c.grow_heaps.new.self in
    let h : ℕ = c.free_number-number.result in
    let x : PlainHeap = c.in_ok-heap.heap in
    let q : ℕ = c.place_of-page.result in
    let same : state_of w ≡ state_of c.args.self.now = c.in_ok-grow_heaps.ensures.state ∙ c.in_ok-grow.ensures.same in
    let free : (state_of w).taken q ≡ false = ap (λ (z : Space). z.taken q) same ∙ ap (state_of c.args.self.now).taken c.place_of-page.ensures ∙ c.requires.free in
    let none : heap_at w.heaps.items h ≡ None = ap (λ g. g h) c.in_ok-grow_heaps.ensures.same ∙ c.free_number-number.ensures.none in
    let new : IsNewHeap x q c.args.request = record {
      standing = c.in_ok-heap.ensures.standing;
      request = c.in_ok-heap.ensures.request;
      pages = c.in_ok-heap.ensures.pages;
      objects = c.in_ok-heap.ensures.objects;
    } in
    make-shown c.args.self.now w (state_of c.own.new.self) (state_of c.put_heap.new.self) (state_of c.raise_peak.new.self) h q c.args.no c.args.request c.held-held.result x
    same c.own.ensures.state c.put_heap.ensures.state c.raise_peak.ensures.state
    (c.held-held.ensures.count ∙ ap (λ z. pages_held z c.args.request) (sym c.in_ok-grow_heaps.ensures.state))
    c.free_number-number.ensures.few none c.place_of-page.ensures c.requires.page free new

pub returns-clause-whole : goal.returns-clause-whole
returns-clause-whole c =
    let w : PlainParts = c.grow_heaps.new.self in
    let h : ℕ = c.free_number-number.result in
    let x : PlainHeap = c.in_ok-heap.heap in
    let q : ℕ = c.place_of-page.result in
    let same : state_of w ≡ state_of c.args.self.now = c.in_ok-grow_heaps.ensures.state ∙ c.in_ok-grow.ensures.same in
    let free : (state_of w).taken q ≡ false = ap (λ (z : Space). z.taken q) same ∙ ap (state_of c.args.self.now).taken c.place_of-page.ensures ∙ c.requires.free in
    let none : heap_at w.heaps.items h ≡ None = ap (λ g. g h) c.in_ok-grow_heaps.ensures.same ∙ c.free_number-number.ensures.none in
    let new : IsNewHeap x q c.args.request = record {
      standing = c.in_ok-heap.ensures.standing;
      request = c.in_ok-heap.ensures.request;
      pages = c.in_ok-heap.ensures.pages;
      objects = c.in_ok-heap.ensures.objects;
    } in
    let g : IsWhole c.grow.new.self = c.in_ok-grow.ensures.whole c.requires.whole in
    let short = c.in_ok-grow_heaps.ensures.few c.free_number-number.ensures.few g.few in
    let whole : IsWhole w = record {
      few = short;
      kept = subst (λ o. AreKept o (heap_at w.heaps.items)) (sym c.in_ok-grow_heaps.ensures.owners) (subst (λ k. AreKept (owners_of c.grow.new.self) k) (sym c.in_ok-grow_heaps.ensures.same) g.kept);
    } in
    make-whole w c.raise_peak.new.self h q c.args.no c.args.request x whole
    (c.raise_peak.ensures.owners ∙ c.put_heap.ensures.owners ∙ c.own.ensures.owners)
    (ap (λ v. heap_at v.items) c.raise_peak.ensures.heaps ∙ c.put_heap.ensures.heaps ∙ ap (λ v. at (heap_at v.items) h (Some x)) c.own.ensures.heaps)
    (let a = ap (λ v. length v.items) c.raise_peak.ensures.heaps in let b = c.put_heap.ensures.count in let d = ap (λ v. length v.items) c.own.ensures.heaps in omega arith)
    c.free_number-number.ensures.few none c.place_of-page.ensures free c.held-held.ensures.request new
