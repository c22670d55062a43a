-- What it is that the first page of a heap is drained.
use Rattle.std.specs.Prelude.{◌≡◌, ℕ, ◌+◌, true, List, [], ◌∷◌, ◌++◌, length, map, flat_map, drop, Option, None, Some, IsSome, option_map}
use Rattle.std.proofs.Common.{sym, ◌∙◌, ap, subst, refl}
use Rattle.std.proofs.lemmas.Bool.{false≢true}
use Rattle.std.specs.List.{AllByRecursion}
use Rattle.hg_base.specs.Content.{Object, row_object, directory, Objects, payloads_of, draining}
use Rattle.hg_base.specs.HeapFacts.{AreObjects, IsPayload}
use Rattle.hg_base.specs.HeapStates.{CanDrain, Drains, HoldsPayloads, is_at_rest, payloads_left, first_payloads, with_heap, without_heap_page}
use Rattle.hg_base.specs.Space.{Space}
use Rattle.hg_base.specs.Plain.{heap_of, standing_of}
use Rattle.hg_base.specs.PlainHeapFacts.{Holds, Drained}
use Rattle.hg_base.specs.PlainObjects.{objects_in, frames_in}
use Rattle.hg_base.specs.declared.plain_heap.PlainHeap.{PlainHeap}
use Rattle.hg_base.specs.declared.plain_heap.PlainStanding.{PlainStanding}
use Rattle.hg_base.specs.declared.plain_heap.PlainStanding.TheVariants.{Locked, Unlocked, Draining}

-- a heap that can be drained is there
pub can-there : (o : Option PlainHeap) → CanDrain (option_map heap_of o) → IsSome o
can-there None h = absurd h
can-there (Some x) h = refl

pub can-rest : (o : Option PlainHeap) (x : PlainHeap) → o ≡ Some x → CanDrain (option_map heap_of o) → is_at_rest (heap_of x).standing ≡ true
can-rest o x e h =
    let k : CanDrain (option_map heap_of (Some x)) = subst (λ z. CanDrain (option_map heap_of z)) e h in
    k.0

left-of : (st : PlainStanding) (o : Objects) (frames : List ℕ) → is_at_rest (standing_of st o frames) ≡ true → payloads_left (standing_of st o frames) ≡ Some (map payloads_of o.layout)
left-of Locked o frames h = absurd (false≢true h)
left-of Unlocked o frames h = refl
left-of Draining o frames h = refl

-- what is left of a heap that is at rest
pub left-is : (x : PlainHeap) → is_at_rest (heap_of x).standing ≡ true → payloads_left (heap_of x).standing ≡ Some (map payloads_of x.objects.layout.items)
left-is x h = left-of x.standing (objects_in x.objects) (frames_in x.objects) h

-- the payloads of objects that a heap may hold
payloads-split : (xs ys : List Object) → AllByRecursion IsPayload (payloads_of (xs ++ ys)) → AllByRecursion IsPayload (payloads_of xs) × AllByRecursion IsPayload (payloads_of ys)
payloads-split [] ys h = (tt, h)
payloads-split (row_object p l ∷ xs) ys h = let r = payloads-split xs ys h.1 in ((h.0, r.0), r.1)
payloads-split (directory ls ∷ xs) ys h = payloads-split xs ys h

objects-payloads : (n c : ℕ) (xs : List Object) → AreObjects n c xs → AllByRecursion IsPayload (payloads_of xs)
objects-payloads n c [] h = tt
objects-payloads n c (row_object p l ∷ xs) h = ((h.0.0, h.0.1), objects-payloads (n + 1) c xs h.1)
objects-payloads n c (directory ls ∷ xs) h = objects-payloads (n + 1) c xs h.1

pages-payloads : (layout : List (List Object)) → AllByRecursion IsPayload (payloads_of (flat_map (λ p. p) layout)) → AllByRecursion (AllByRecursion IsPayload) (map payloads_of layout)
pages-payloads [] h = tt
pages-payloads (p ∷ layout) h = let r = payloads-split p (flat_map (λ q. q) layout) h in (r.0, pages-payloads layout r.1)

rest-payloads : (st : PlainStanding) (o : Objects) (frames : List ℕ) → is_at_rest (standing_of st o frames) ≡ true → Holds st o → AllByRecursion (AllByRecursion IsPayload) (map payloads_of o.layout)
rest-payloads Locked o frames h k = absurd (false≢true h)
rest-payloads Unlocked o frames h k = pages-payloads o.layout (objects-payloads 0 (length (flat_map (λ p. p) o.layout)) (flat_map (λ p. p) o.layout) k.objects)
rest-payloads Draining o frames h k = k

-- the payloads of a heap that is at rest, whose first page went
went-payloads : (x y : PlainHeap) (p : ℕ) (out : List ℕ) → is_at_rest (heap_of x).standing ≡ true → Holds x.standing (objects_in x.objects) → (d : Drained x y p out)
    → AllByRecursion (AllByRecursion IsPayload) (map payloads_of (d.layout.page ∷ y.objects.layout.items))
went-payloads x y p out rest k d =
    subst (λ l. AllByRecursion (AllByRecursion IsPayload) (map payloads_of l)) d.layout.pages (rest-payloads x.standing (objects_in x.objects) (frames_in x.objects) rest k)

-- what is kept of a heap whose first page went
pub drained-holds : (x y : PlainHeap) (p : ℕ) (out : List ℕ) → is_at_rest (heap_of x).standing ≡ true → Holds x.standing (objects_in x.objects) → Drained x y p out → Holds y.standing (objects_in y.objects)
drained-holds x y p out rest k d =
    let less : AllByRecursion (AllByRecursion IsPayload) (map payloads_of (d.layout.page ∷ y.objects.layout.items)) = went-payloads x y p out rest k d in
    subst (λ st. Holds st (objects_in y.objects)) (sym d.standing) less.1

-- and what is shown of it
pub drained-shown : (x y : PlainHeap) (p : ℕ) (out : List ℕ) → is_at_rest (heap_of x).standing ≡ true → Drained x y p out
    → heap_of y ≡ record { standing = draining (option_map (drop 1) (payloads_left (heap_of x).standing)); request = x.request; pages = y.pages.items }
drained-shown x y p out rest d =
    ap (λ st. record { standing = standing_of st (objects_in y.objects) (frames_in y.objects); request = y.request; pages = y.pages.items }) d.standing
    ∙ ap (λ l. record { standing = draining (Some (drop 1 (map payloads_of l))); request = y.request; pages = y.pages.items }) (sym d.layout.pages)
    ∙ ap (λ o. record { standing = draining (option_map (drop 1) o); request = y.request; pages = y.pages.items }) (sym (left-is x rest))
    ∙ ap (λ r. record { standing = draining (option_map (drop 1) (payloads_left (heap_of x).standing)); request = r; pages = y.pages.items }) d.request

pub drained-first : (x y : PlainHeap) (p : ℕ) (out : List ℕ) → is_at_rest (heap_of x).standing ≡ true → Holds x.standing (objects_in x.objects) → Drained x y p out
    → HoldsPayloads (first_payloads (payloads_left (heap_of x).standing)) out
drained-first x y p out rest k d =
    subst (λ o. HoldsPayloads (first_payloads o) out) (sym (left-is x rest ∙ ap (λ l. Some (map payloads_of l)) d.layout.pages)) (d.layout.holds (went-payloads x y p out rest k d).0)

pub drains : (s v : Space) (h p : ℕ) (x y : PlainHeap) (out : List ℕ) → s.heaps.heap h ≡ Some (heap_of x) → is_at_rest (heap_of x).standing ≡ true
    → Holds x.standing (objects_in x.objects) → Drained x y p out → v ≡ with_heap (without_heap_page s p) h (Some (heap_of y)) → Drains s v h out
drains s v h p x y out is rest k d after = record {
  heap = heap_of x;
  is = is;
  first = p;
  others = y.pages.items;
  pages = d.pages;
  holds = drained-first x y p out rest k d;
  counts = s.counts;
  after = after ∙ ap (λ z. with_heap (without_heap_page s p) h (Some z)) (drained-shown x y p out rest d);
}
