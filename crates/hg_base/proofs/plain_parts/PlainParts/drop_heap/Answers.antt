use Rattle.std.proofs.Common.{◌≡◌, ◌∙◌, ap, sym, subst, arith, None, length, option_map}
use Rattle.std.specs.List.{AllByRecursion}
use Rattle.hg_base.specs.HeapStates.{without_heap_pages, with_heap, pages_in}
use Rattle.hg_base.specs.Space.{at}
use Rattle.hg_base.specs.Plain.{heap_of, heap_at}
use Rattle.hg_base.specs.PlainHeapFacts.{AreKept}
use Rattle.hg_base.specs.PlainSpaces.{state_of, owners_of}
use Rattle.hg_base.specs.PlainTables.{IsClearable, cleared}
use Rattle.hg_base.specs.declared.plain_heap.PlainHeap.{PlainHeap}
use Rattle.hg_base.specs.declared.plain_parts.PlainParts.{PlainParts}
use Rattle.hg_base.proofs.PlainDrops.{all-clear, heap-first, kept-drop}
use Rattle.hg_base.proofs.plain_parts.PlainParts.drop_heap.Goals as goal

pub clear_slots-requires : goal.clear_slots-requires
clear_slots-requires c =
    let s : PlainParts = c.args.self.now in
    let x : PlainHeap = c.take_heap-heap.result in
    subst (λ l. AllByRecursion (IsClearable c.take_heap-heap.new.self.slots.items) l) (sym c.as_slice.ensures.value)
    (subst (λ v. AllByRecursion (IsClearable v.items) x.pages.items) (sym c.take_heap-heap.ensures.slots)
    (all-clear s.slots.items c.args.h.0 x.pages.items (c.requires.whole.kept.each c.args.h.0 x c.take_heap-heap.ensures.was).pages))

pub returns-clause-state : goal.returns-clause-state
returns-clause-state c =
    let s : PlainParts = c.args.self.now in
    let x : PlainHeap = c.take_heap-heap.result in
    c.clear_slots.ensures.state
    ∙ ap (λ l. without_heap_pages (state_of c.take_heap-heap.new.self) l) c.as_slice.ensures.value
    ∙ ap (λ z. without_heap_pages z x.pages.items) c.take_heap-heap.ensures.state
    ∙ heap-first (state_of s) c.args.h.0 None x.pages.items
    ∙ ap (λ o. with_heap (without_heap_pages (state_of s) (pages_in (option_map heap_of o))) c.args.h.0 None) (sym c.take_heap-heap.ensures.was)

pub returns-clause-whole : goal.returns-clause-whole
returns-clause-whole c =
    let s : PlainParts = c.args.self.now in
    let x : PlainHeap = c.take_heap-heap.result in
    let owners : owners_of c.clear_slots.new.self ≡ cleared (owners_of s) x.pages.items =
    c.clear_slots.ensures.owners ∙ ap (λ l. cleared (owners_of c.take_heap-heap.new.self) l) c.as_slice.ensures.value ∙ ap (λ z. cleared z x.pages.items) c.take_heap-heap.ensures.owners in
    let heaps : heap_at c.clear_slots.new.self.heaps.items ≡ at (heap_at s.heaps.items) c.args.h.0 None = ap (λ v. heap_at v.items) c.clear_slots.ensures.heaps ∙ c.take_heap-heap.ensures.heaps in
    record {
      few = let a = ap (λ v. length v.items) c.clear_slots.ensures.heaps in let b = c.take_heap-heap.ensures.count in let f = c.requires.whole.few in omega arith;
      kept = subst (λ o. AreKept o (heap_at c.clear_slots.new.self.heaps.items)) (sym owners)
          (subst (λ g. AreKept (cleared (owners_of s) x.pages.items) g) (sym heaps) (kept-drop (owners_of s) (heap_at s.heaps.items) c.args.h.0 x c.requires.whole.kept c.take_heap-heap.ensures.was));
    }
