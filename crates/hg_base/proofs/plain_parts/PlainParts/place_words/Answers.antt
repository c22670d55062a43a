use Rattle.std.proofs.Common.{◌∙◌, ap, sym, subst, ℕ, ◌+◌, length}
use Rattle.hg_base.specs.Content.{Object, Objects, directory, placed}
use Rattle.hg_base.specs.HeapContent.{with_object, no_links}
use Rattle.hg_base.specs.HeapFacts.{AreWellPlaced}
use Rattle.hg_base.specs.PlainObjects.{objects_in}
use Rattle.hg_base.specs.declared.plain_heap.PlainHeap.{PlainHeap}
use Rattle.hg_base.specs.declared.plain_objects.HeapObjects.{HeapObjects}
use Rattle.hg_base.specs.declared.plain_parts.PlainParts.{PlainParts}
use Rattle.hg_base.specs.PlainChanges.{Found, locked-at, found-locked, state-objects, whole-objects, on-ok, on-both}
use Rattle.hg_base.specs.PlainWell.{well-object, none-lead, length-last}
use Rattle.hg_base.proofs.plain_parts.PlainParts.place_words.Goals as goal

pub returns-clause-ok : goal.returns-clause-ok
returns-clause-ok c =
    let s : PlainParts = c.args.self.now in
    let h : ℕ = c.args.h.0 in
    let x : PlainHeap = c.in-Some.heap in
    let o : HeapObjects = c.place_words.new.self in
    let f : Found s h x = found-locked s h c.index_mut.result.now x (locked-at s h c.requires.locked) c.index_mut.ensures.value c.in-Some.is in
    on-ok c.place_words.result (λ e. state-objects s h x o (λ a frames. with_object a (directory (no_links c.args.n))) f.is f.locked e c.place_words.ensures.frames
    (ap (λ (z : Objects). length z.layout) e ∙ length-last x.objects.layout.items (directory (no_links c.args.n)))) c.place_words.ensures.ok

pub returns-clause-whole : goal.returns-clause-whole
returns-clause-whole c =
    let s : PlainParts = c.args.self.now in
    let h : ℕ = c.args.h.0 in
    let x : PlainHeap = c.in-Some.heap in
    let o : HeapObjects = c.place_words.new.self in
    let f : Found s h x = found-locked s h c.index_mut.result.now x (locked-at s h c.requires.locked) c.index_mut.ensures.value c.in-Some.is in
    let r : Object = directory (no_links c.args.n) in
    on-both c.place_words.result c.place_words.ensures.ok c.place_words.ensures.err
    (λ k e. whole-objects s h x o c.requires.whole f.is f.locked (ap (λ (z : Objects). length z.layout) e ∙ length-last x.objects.layout.items r)
    (subst (λ z. AreWellPlaced z) (sym e) (well-object x.objects.layout.items x.objects.roots r (f.well c.requires.whole)
    (none-lead (length (placed (objects_in x.objects)) + 1) c.args.n) (c.place_words.ensures.room.0 k))))
    (λ e. whole-objects s h x o c.requires.whole f.is f.locked (ap (λ (z : HeapObjects). length z.layout.items) e) (subst (λ z. AreWellPlaced (objects_in z)) (sym e) (f.well c.requires.whole)))
