use Rattle.std.proofs.Common.{◌≡◌, ◌∙◌, ap, sym, subst, refl, ℕ, Some}
use Rattle.hg_base.specs.Plain.{heap_at}
use Rattle.hg_base.specs.PlainHeapFacts.{Holds}
use Rattle.hg_base.specs.PlainObjects.{objects_in}
use Rattle.hg_base.specs.declared.plain_heap.PlainHeap.{PlainHeap}
use Rattle.hg_base.specs.declared.plain_heap.PlainStanding.TheVariants.{Locked, Unlocked}
use Rattle.hg_base.specs.declared.plain_parts.PlainParts.{PlainParts}
use Rattle.hg_base.specs.PlainChanges.{LockedAt, locked-at, there-some, some-at, whole-as}
use Rattle.hg_base.specs.PlainKept.{some-heap}
use Rattle.hg_base.proofs.plain_parts.PlainParts.unlock.Goals as goal

pub returns-clause-whole : goal.returns-clause-whole
returns-clause-whole c =
    let s : PlainParts = c.args.self.now in
    let h : ℕ = c.args.h.0 in
    let x : PlainHeap = c.in-Some.heap in
    let w : LockedAt s h = locked-at s h c.requires.locked in
    let is : heap_at s.heaps.items h ≡ Some x = some-at s.heaps.items h c.index_mut.result.now x (there-some (heap_at s.heaps.items h) w.heap w.is) c.index_mut.ensures.value c.in-Some.is in
    let st : x.standing ≡ Locked = ap (λ (z : PlainHeap). z.standing) (some-heap x w.heap (sym is ∙ w.is)) ∙ w.locked in
    whole-as s h x (record x { standing = Unlocked }) c.requires.whole is refl refl refl (subst (λ z. Holds z (objects_in x.objects)) st (c.requires.whole.kept.each h x is).holds)
