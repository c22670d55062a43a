use Rattle.std.proofs.Common.{ap, sym, subst, ℕ, length}
use Rattle.hg_base.specs.Content.{Objects}
use Rattle.hg_base.specs.HeapContent.{link_of}
use Rattle.hg_base.specs.HeapFacts.{AreWellPlaced}
use Rattle.hg_base.specs.PlainObjects.{objects_in, frames_in}
use Rattle.hg_base.specs.declared.plain_heap.PlainHeap.{PlainHeap}
use Rattle.hg_base.specs.declared.plain_objects.HeapObjects.{HeapObjects}
use Rattle.hg_base.specs.declared.plain_parts.PlainParts.{PlainParts}
use Rattle.hg_base.specs.PlainChanges.{Found, locked-at, found-locked, whole-objects}
use Rattle.hg_base.specs.PlainWell.{well-root, link-below}
use Rattle.hg_base.proofs.plain_parts.PlainParts.set_root.Goals as goal

pub returns-clause-whole : goal.returns-clause-whole
returns-clause-whole c =
    let s : PlainParts = c.args.self.now in
    let h : ℕ = c.args.h.0 in
    let x : PlainHeap = c.in-Some.heap in
    let o : HeapObjects = c.set_root.new.self in
    let f : Found s h x = found-locked s h c.index_mut.result.now x (locked-at s h c.requires.locked) c.index_mut.ensures.value c.in-Some.is in
    let e = c.set_root.ensures.objects in
    whole-objects s h x o c.requires.whole f.is f.locked (ap (λ (z : Objects). length z.layout) e)
    (subst (λ z. AreWellPlaced z) (sym e) (well-root x.objects.layout.items x.objects.roots c.args.k (link_of (objects_in x.objects) (frames_in x.objects) c.args.to.word) (f.well c.requires.whole)
    (link-below x.objects.first x.objects.layout.items x.objects.roots c.args.to.word)))
