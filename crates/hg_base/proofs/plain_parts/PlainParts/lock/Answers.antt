use Rattle.std.proofs.Common.{◌≡◌, ◌∙◌, ap, sym, subst, arith, ℕ, Some, option_map, length}
use Rattle.hg_base.specs.Content.{locked, Heap}
use Rattle.hg_base.specs.Plain.{heap_of, heap_at, standing_of}
use Rattle.hg_base.specs.PlainFrames.{length-frames, frames-apart, frames-below}
use Rattle.hg_base.specs.PlainHeapFacts.{IsKeptHeap, Holds}
use Rattle.hg_base.specs.PlainObjects.{objects_in, frames_in}
use Rattle.hg_base.specs.PlainSpaces.{state_of, owners_of}
use Rattle.hg_base.specs.declared.plain_heap.PlainHeap.{PlainHeap}
use Rattle.hg_base.specs.declared.plain_heap.PlainStanding.TheVariants.{Locked, Unlocked}
use Rattle.hg_base.specs.declared.plain_parts.PlainParts.{PlainParts}
use Rattle.hg_base.specs.PlainChanges.{Shows, shows, there-some, some-at, unlocked-is, standing-put, whole-as}
use Rattle.hg_base.specs.PlainKept.{some-heap}
use Rattle.hg_base.proofs.plain_parts.PlainParts.lock.Goals as goal

pub returns-clause-ok : goal.returns-clause-ok
returns-clause-ok c =
    let s : PlainParts = c.args.self.now in
    let h : ℕ = c.args.h.0 in
    let x : PlainHeap = c.in-Some.heap in
    let y : PlainHeap = c.lock.new.self in
    let w : Shows (heap_at s.heaps.items h) c.requires.can.heap = shows (heap_at s.heaps.items h) c.requires.can.heap c.requires.can.is in
    let is : heap_at s.heaps.items h ≡ Some x = some-at s.heaps.items h c.index_mut.result.now x (there-some (heap_at s.heaps.items h) w.heap w.is) c.index_mut.ensures.value c.in-Some.is in
    let shown : heap_of x ≡ c.requires.can.heap = ap heap_of (some-heap x w.heap (sym is ∙ w.is)) ∙ w.shown in
    let free : x.standing ≡ Unlocked = unlocked-is x.standing (objects_in x.objects) (frames_in x.objects) c.requires.can.objects (ap (λ (z : Heap). z.standing) shown ∙ c.requires.can.was_unlocked) in
    let k : IsKeptHeap (owners_of s) h x = c.requires.whole.kept.each h x is in
    let layout : y.objects.layout.items ≡ x.objects.layout.items = ap (λ v. v.items) c.lock.ensures.layout in
    let pages : y.pages.items ≡ x.pages.items = ap (λ v. v.items) c.lock.ensures.pages in
    let objects : objects_in y.objects ≡ objects_in x.objects =
    ap (λ z. record { layout = z; roots = y.objects.roots }) layout ∙ ap (λ z. record { layout = x.objects.layout.items; roots = z }) c.lock.ensures.roots in
    let holds : Holds x.standing (objects_in x.objects) = k.holds in
    let few = k.few in let count = k.count in let long = ap length layout in
    record {
      heap = heap_of x;
      is = ap (option_map heap_of) is;
      objects = objects_in x.objects;
      frames = frames_in y.objects;
      had = ap (λ z. standing_of z (objects_in x.objects) (frames_in x.objects)) free;
      well = subst (λ z. Holds z (objects_in x.objects)) free holds;
      of_pages = count;
      in_frames = record {
        many = length-frames y.objects.first (length y.objects.layout.items) ∙ long ∙ count;
        apart = frames-apart y.objects.first (length y.objects.layout.items) (omega arith);
        below = frames-below y.objects.first (length y.objects.layout.items);
      };
      counts = (state_of s).counts;
      after = standing-put s h x y (λ _. locked (objects_in x.objects) (frames_in y.objects)) is c.lock.ensures.request pages
          (ap (λ z. standing_of z (objects_in y.objects) (frames_in y.objects)) c.lock.ensures.standing ∙ ap (λ o. locked o (frames_in y.objects)) objects);
    }

pub returns-clause-whole : goal.returns-clause-whole
returns-clause-whole c =
    let s : PlainParts = c.args.self.now in
    let h : ℕ = c.args.h.0 in
    let x : PlainHeap = c.in-Some.heap in
    let y : PlainHeap = c.lock.new.self in
    let w : Shows (heap_at s.heaps.items h) c.requires.can.heap = shows (heap_at s.heaps.items h) c.requires.can.heap c.requires.can.is in
    let is : heap_at s.heaps.items h ≡ Some x = some-at s.heaps.items h c.index_mut.result.now x (there-some (heap_at s.heaps.items h) w.heap w.is) c.index_mut.ensures.value c.in-Some.is in
    let shown : heap_of x ≡ c.requires.can.heap = ap heap_of (some-heap x w.heap (sym is ∙ w.is)) ∙ w.shown in
    let free : x.standing ≡ Unlocked = unlocked-is x.standing (objects_in x.objects) (frames_in x.objects) c.requires.can.objects (ap (λ (z : Heap). z.standing) shown ∙ c.requires.can.was_unlocked) in
    let k : IsKeptHeap (owners_of s) h x = c.requires.whole.kept.each h x is in
    let layout : y.objects.layout.items ≡ x.objects.layout.items = ap (λ v. v.items) c.lock.ensures.layout in
    let pages : y.pages.items ≡ x.pages.items = ap (λ v. v.items) c.lock.ensures.pages in
    let objects : objects_in y.objects ≡ objects_in x.objects =
    ap (λ z. record { layout = z; roots = y.objects.roots }) layout ∙ ap (λ z. record { layout = x.objects.layout.items; roots = z }) c.lock.ensures.roots in
    let holds : Holds x.standing (objects_in x.objects) = k.holds in
    whole-as s h x y c.requires.whole is c.lock.ensures.request pages (ap length layout)
    (subst (λ z. Holds z (objects_in y.objects)) (sym c.lock.ensures.standing) (subst (λ o. Holds Locked o) (sym objects) (subst (λ z. Holds z (objects_in x.objects)) free holds)))
