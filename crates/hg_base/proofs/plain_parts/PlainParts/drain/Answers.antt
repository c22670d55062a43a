use Rattle.std.proofs.Common.{◌≡◌, ◌∙◌, ap, sym, subst, arith, ℕ, ◌∷◌, Some, None, length, option_map, true}
use Rattle.std.specs.List.{AllByRecursion}
use Rattle.hg_base.specs.HeapStates.{is_at_rest, without_heap_page}
use Rattle.hg_base.specs.Space.{at}
use Rattle.hg_base.specs.Plain.{heap_of, heap_at}
use Rattle.hg_base.specs.PlainHeapFacts.{IsOwned, IsKeptHeap, AreKept, Drained}
use Rattle.hg_base.specs.PlainSpaces.{state_of, owners_of}
use Rattle.hg_base.specs.PlainTables.{PutsHeap, IsClearable}
use Rattle.hg_base.specs.declared.plain_parts.PlainParts.{PlainParts}
use Rattle.hg_base.proofs.PlainDraining.{can-rest, drains, drained-holds}
use Rattle.hg_base.proofs.PlainDrops.{owned-clear, kept-first, first-kept}
use Rattle.hg_base.proofs.PlainGrowth.{puts-heaps, puts-state, puts-long}
use Rattle.hg_base.proofs.plain_parts.PlainParts.drain.Goals as goal

pub clear_slot-requires : goal.clear_slot-requires
clear_slot-requires c =
    let s : PlainParts = c.args.self.now in
    let h : ℕ = c.args.h.0 in
    let q : ℕ = c.take_page-page.result in
    let p : PutsHeap (λ x y. Drained x y q c.take_page-page.new.out) s c.take_page-page.new.self h = c.take_page-page.ensures in
    let w : IsKeptHeap (owners_of s) h p.before = c.requires.whole.kept.each h p.before p.is in
    let owned : AllByRecursion (IsOwned (owners_of s) h) (q ∷ p.heap.pages.items) = subst (λ l. AllByRecursion (IsOwned (owners_of s) h) l) p.change.pages w.pages in
    subst (λ (z : PlainParts). IsClearable z.slots.items q) (sym p.after) (owned-clear s.slots.items q h owned.0.owner)

pub returns-clause-ok : goal.returns-clause-ok
returns-clause-ok c =
    let s : PlainParts = c.args.self.now in
    let h : ℕ = c.args.h.0 in
    let q : ℕ = c.take_page-page.result in
    let p : PutsHeap (λ x y. Drained x y q c.take_page-page.new.out) s c.take_page-page.new.self h = c.take_page-page.ensures in
    let w : IsKeptHeap (owners_of s) h p.before = c.requires.whole.kept.each h p.before p.is in
    let rest : is_at_rest (heap_of p.before).standing ≡ true = can-rest (heap_at s.heaps.items h) p.before p.is c.requires.can in
    drains (state_of s) (state_of c.clear_slot.new.self) h q p.before p.heap c.take_page-page.new.out (ap (option_map heap_of) p.is) rest w.holds p.change
    (c.clear_slot.ensures.state ∙ ap (λ z. without_heap_page z q) (puts-state s c.take_page-page.new.self h p.heap p.after p.inside))

pub returns-clause-counts : goal.returns-clause-counts
returns-clause-counts c =
    let s : PlainParts = c.args.self.now in
    let h : ℕ = c.args.h.0 in
    let q : ℕ = c.take_page-page.result in
    let p : PutsHeap (λ x y. Drained x y q c.take_page-page.new.out) s c.take_page-page.new.self h = c.take_page-page.ensures in
    ap (λ z. z.counts) (c.clear_slot.ensures.state ∙ ap (λ z. without_heap_page z q) (puts-state s c.take_page-page.new.self h p.heap p.after p.inside))

pub returns-clause-whole : goal.returns-clause-whole
returns-clause-whole c =
    let s : PlainParts = c.args.self.now in
    let h : ℕ = c.args.h.0 in
    let q : ℕ = c.take_page-page.result in
    let p : PutsHeap (λ x y. Drained x y q c.take_page-page.new.out) s c.take_page-page.new.self h = c.take_page-page.ensures in
    let w : IsKeptHeap (owners_of s) h p.before = c.requires.whole.kept.each h p.before p.is in
    let rest : is_at_rest (heap_of p.before).standing ≡ true = can-rest (heap_at s.heaps.items h) p.before p.is c.requires.can in
    let kept : IsKeptHeap (at (owners_of s) q None) h p.heap =
    first-kept (owners_of s) h q p.before p.heap c.take_page-page.new.out w p.change (drained-holds p.before p.heap q c.take_page-page.new.out rest w.holds p.change) in
    let owners : owners_of c.clear_slot.new.self ≡ at (owners_of s) q None = c.clear_slot.ensures.owners ∙ ap (λ (z : PlainParts). at (owners_of z) q None) p.after in
    let heaps : heap_at c.clear_slot.new.self.heaps.items ≡ at (heap_at s.heaps.items) h (Some p.heap) =
    ap (λ v. heap_at v.items) c.clear_slot.ensures.heaps ∙ puts-heaps s c.take_page-page.new.self h p.heap p.after p.inside in
    record {
      few = let a = ap (λ v. length v.items) c.clear_slot.ensures.heaps in let b = puts-long s c.take_page-page.new.self h p.heap p.after in let f = c.requires.whole.few in omega arith;
      kept = subst (λ o. AreKept o (heap_at c.clear_slot.new.self.heaps.items)) (sym owners)
          (subst (λ g. AreKept (at (owners_of s) q None) g) (sym heaps)
          (kept-first (owners_of s) (heap_at s.heaps.items) h q p.before p.heap c.requires.whole.kept p.is p.change.pages kept));
    }
