use Rattle.std.proofs.Common.{◌≡◌, ◌∙◌, ap, sym, subst, refl, ℕ, List, Option, Some, None, length}
use Rattle.hg_base.specs.Content.{Object, Objects, placed}
use Rattle.hg_base.specs.HeapContent.{with_link, link_of, changed_at, changed_by, named_by}
use Rattle.hg_base.specs.HeapFacts.{AreWellPlaced}
use Rattle.hg_base.specs.PlainObjects.{objects_in, frames_in}
use Rattle.hg_base.specs.declared.plain_heap.PlainHeap.{PlainHeap}
use Rattle.hg_base.specs.declared.plain_objects.HeapObjects.{HeapObjects}
use Rattle.hg_base.specs.declared.plain_parts.PlainParts.{PlainParts}
use Rattle.hg_base.specs.PlainChanges.{Found, words-locked, found-locked, state-objects, whole-objects}
use Rattle.hg_base.specs.PlainWell.{Alike, well-changed, link-below, link-alike, length-changed_in}
use Rattle.hg_base.proofs.plain_parts.PlainParts.set_word.Goals as goal

many : (g : Object → Object) (n : Option ℕ) (a : Objects) → length (changed_by g n a).layout ≡ length a.layout
many g None a = refl
many g (Some n) a = length-changed_in g n a.layout

well : (g : Object → Object) (n : Option ℕ) (layout : List (List Object)) (roots : List (Option ℕ)) → AreWellPlaced (record { layout = layout; roots = roots }) → Alike g (length (placed (record { layout = layout; roots = roots })))
    → AreWellPlaced (changed_by g n (record { layout = layout; roots = roots }))
well g None layout roots w a = w
well g (Some n) layout roots w a = well-changed g n layout roots w a

pub returns-clause-state : goal.returns-clause-state
returns-clause-state c =
    let s : PlainParts = c.args.self.now in
    let h : ℕ = c.args.h.0 in
    let x : PlainHeap = c.in-Some.heap in
    let o : HeapObjects = c.set_word.new.self in
    let f : Found s h x = found-locked s h c.index_mut.result.now x (words-locked s h c.args.dir.word c.args.k c.requires.inside) c.index_mut.ensures.value c.in-Some.is in
    let e = c.set_word.ensures.objects in
    let g : Object → Object = with_link c.args.k (link_of (objects_in x.objects) (frames_in x.objects) c.args.to.word) in
    state-objects s h x o (λ a frames. changed_at (with_link c.args.k (link_of a frames c.args.to.word)) frames c.args.dir.word a) f.is f.locked e c.set_word.ensures.frames
    (ap (λ (z : Objects). length z.layout) e ∙ many g (named_by (objects_in x.objects) (frames_in x.objects) c.args.dir.word) (objects_in x.objects))

pub returns-clause-whole : goal.returns-clause-whole
returns-clause-whole c =
    let s : PlainParts = c.args.self.now in
    let h : ℕ = c.args.h.0 in
    let x : PlainHeap = c.in-Some.heap in
    let o : HeapObjects = c.set_word.new.self in
    let f : Found s h x = found-locked s h c.index_mut.result.now x (words-locked s h c.args.dir.word c.args.k c.requires.inside) c.index_mut.ensures.value c.in-Some.is in
    let e = c.set_word.ensures.objects in
    let g : Object → Object = with_link c.args.k (link_of (objects_in x.objects) (frames_in x.objects) c.args.to.word) in
    let n : Option ℕ = named_by (objects_in x.objects) (frames_in x.objects) c.args.dir.word in
    whole-objects s h x o c.requires.whole f.is f.locked
    (ap (λ (z : Objects). length z.layout) e ∙ many g n (objects_in x.objects))
    (subst (λ z. AreWellPlaced z) (sym e) (well g n x.objects.layout.items x.objects.roots (f.well c.requires.whole)
    (link-alike (length (placed (objects_in x.objects))) c.args.k (link_of (objects_in x.objects) (frames_in x.objects) c.args.to.word) (link-below x.objects.first x.objects.layout.items x.objects.roots c.args.to.word))))
