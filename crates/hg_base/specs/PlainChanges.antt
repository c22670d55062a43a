-- Changes of one heap of a plain space, and what holds of all of them.
use Rattle.std.specs.Prelude.{◌≡◌, ℕ, zero, suc, slice_index_or, ◌+◌, ◌%◌, ◌<◌, ◌≤◌, ◌==◌, ◌&&◌, Bool, true, false, List, [], ◌∷◌, ◌++◌, length, Result, Ok, Err, OnOk, OnErr, Option, None, Some, IsSome, IsOk, option_map, option_and_then, if◌then◌else◌}
use Rattle.std.proofs.Common.{sym, ◌∙◌, ap, subst, refl, arith, length-append}
use Rattle.std.specs.List.{AllByRecursion}
use Rattle.std.specs.Vec.{with_item}
use Rattle.std.proofs.lemmas.Bool.{false≢true}
use Rattle.std.proofs.lemmas.List.{length-map}
use Rattle.std.proofs.lemmas.Option.{none-some}
use Rattle.hg_base.specs.Content.{Objects, payloads_of, Standing, locked, unlocked, draining, Heap}
use Rattle.hg_base.specs.HeapContent.{words_of, links_of, object_at, payload_of}
use Rattle.hg_base.specs.HeapFacts.{AreWellPlaced, IsStanding, IsHeapPageOf, IsHeap, AreHeaps}
use Rattle.hg_base.specs.HeapStates.{IsLocked, of_locked, with_standing, with_heap, with_objects, standing_with, standing_of as hs_standing, words_in, payload_in, HasWord, frames_locked, frames_of, frames_for}
use Rattle.hg_base.specs.Lines.{has_page, AreApart}
use Rattle.hg_base.specs.LineLaws.{all_map, all_has}
use Rattle.hg_base.specs.Plain.{heap_of, heap_at, standing_of, slot_at, is_key, if_owned}
use Rattle.hg_base.specs.PlainHeapFacts.{IsOwned, Holds, IsKeptHeap, IsOwner, IsSameHeap, GotPage}
use Rattle.hg_base.specs.PlainFrames.{length-frames, frames-apart, frames-below, frames-more}
use Rattle.hg_base.specs.PlainObjects.{frames_from, objects_in, frames_in}
use Rattle.hg_base.specs.PlainSpaces.{state_of, owners_of, IsWhole}
use Rattle.hg_base.specs.declared.plain_heap.PlainHeap.{PlainHeap}
use Rattle.hg_base.specs.declared.plain_heap.PlainStanding.{PlainStanding}
use Rattle.hg_base.specs.declared.plain_heap.PlainStanding.TheVariants.{Locked, Unlocked, Draining}
use Rattle.hg_base.specs.declared.plain_parts.PlainParts.{PlainParts}
use Rattle.hg_base.specs.declared.plain_objects.HeapObjects.{HeapObjects}
use Rattle.hg_base.specs.PlainKept.{state-put, whole-put, there-in, some-number, some-heap}
use Rattle.hg_base.specs.PlainSums.{sum-term, read-heap}

pub on-ok : {X Y P Q : Type 0} (r : Result X Y) → (P → Q) → OnOk r P → OnOk r Q
on-ok (Ok x) f p = f p
on-ok (Err e) f p = tt

pub on-err : {X Y P Q : Type 0} (r : Result X Y) → (P → Q) → OnErr r P → OnErr r Q
on-err (Ok x) f p = tt
on-err (Err e) f p = f p

-- a heap that is shown is there
pub record Shows (o : Option PlainHeap) (h : Heap) : Type 0 where
  pub heap : PlainHeap
  pub is : o ≡ Some heap
  pub shown : heap_of heap ≡ h

some-shown : (x y : Heap) → ◌≡◌ {A = Option Heap} (Some x) (Some y) → x ≡ y
some-shown x y e = cc

pub shows : (o : Option PlainHeap) (h : Heap) → option_map heap_of o ≡ Some h → Shows o h
shows None h e = absurd (none-some h e)
shows (Some x) h e = record { heap = x; is = refl; shown = some-shown (heap_of x) h e }

-- a heap that is locked
pub record LockedAt (s : PlainParts) (h : ℕ) : Type 0 where
  pub heap : PlainHeap
  pub is : heap_at s.heaps.items h ≡ Some heap
  pub locked : heap.standing ≡ Locked

locked-standing : (st : PlainStanding) (o : Objects) (frames : List ℕ) → IsSome (of_locked (λ o frames. Some o) (Some (standing_of st o frames))) → st ≡ Locked
locked-standing Locked o frames h = refl
locked-standing Unlocked o frames h = absurd (false≢true h)
locked-standing Draining o frames h = absurd (false≢true h)

locked-heap : (x : PlainHeap) → IsSome (of_locked (λ o frames. Some o) (Some (heap_of x).standing)) → x.standing ≡ Locked
locked-heap x h = locked-standing x.standing (objects_in x.objects) (frames_in x.objects) h

locked-of : (s : PlainParts) (h : ℕ) (o : Option PlainHeap) → heap_at s.heaps.items h ≡ o → IsSome (of_locked (λ o frames. Some o) (option_map (λ (x : Heap). x.standing) (option_map heap_of o))) → LockedAt s h
locked-of s h None e l = absurd (false≢true l)
locked-of s h (Some x) e l = record { heap = x; is = e; locked = locked-heap x l }

pub locked-at : (s : PlainParts) (h : ℕ) → IsLocked (state_of s) h → LockedAt s h
locked-at s h l = locked-of s h (heap_at s.heaps.items h) refl l

pub there-some : {X : Type 0} (o : Option X) (x : X) → o ≡ Some x → IsSome o
there-some o x e = subst (λ p. IsSome p) (sym e) refl

-- A heap with another standing, of the same pages.
pub standing-put : (s : PlainParts) (h : ℕ) (x y : PlainHeap) (f : Standing → Standing) → heap_at s.heaps.items h ≡ Some x → y.request ≡ x.request → y.pages.items ≡ x.pages.items
    → (heap_of y).standing ≡ f (heap_of x).standing → state_of (record s { heaps = with_item s.heaps h (Some y) }) ≡ with_standing (state_of s) h f
standing-put s h x y f is r p st =
    state-put s h (Some y) (there-in s.heaps.items h x is)
    ∙ ap (λ z. with_heap (state_of s) h (Some (record { standing = z; request = y.request; pages = y.pages.items }))) st
    ∙ ap (λ z. with_heap (state_of s) h (Some (record { standing = f (heap_of x).standing; request = z; pages = y.pages.items }))) r
    ∙ ap (λ z. with_heap (state_of s) h (Some (record { standing = f (heap_of x).standing; request = x.request; pages = z }))) p
    ∙ ap (λ o. with_heap (state_of s) h (option_map (λ (z : Heap). record z { standing = f z.standing }) (option_map heap_of o))) (sym is)

pub kept-as : (own : ℕ → Option ℕ) (h : ℕ) (x y : PlainHeap) → IsKeptHeap own h x → y.request ≡ x.request → y.pages.items ≡ x.pages.items
    → length y.objects.layout.items ≡ length x.objects.layout.items → Holds y.standing (objects_in y.objects) → IsKeptHeap own h y
kept-as own h x y k r p l holds = record {
  number = k.number;
  request = let a = k.request in omega arith;
  pages = subst (λ ps. AllByRecursion (IsOwned own h) ps) (sym p) k.pages;
  apart = subst (λ ps. AreApart ps) (sym p) k.apart;
  count = l ∙ k.count ∙ ap length (sym p);
  few = let a = k.few in omega arith;
  holds = holds;
}

pub whole-as : (s : PlainParts) (h : ℕ) (x y : PlainHeap) → IsWhole s → heap_at s.heaps.items h ≡ Some x → y.request ≡ x.request → y.pages.items ≡ x.pages.items
    → length y.objects.layout.items ≡ length x.objects.layout.items → Holds y.standing (objects_in y.objects) → IsWhole (record s { heaps = with_item s.heaps h (Some y) })
whole-as s h x y w is r p l holds =
    whole-put s h x y w (there-in s.heaps.items h x is) is p (kept-as (owners_of s) h x y (w.kept.each h x is) r p l holds)

-- What is shown of a heap that is kept.
standing-holds : (st : PlainStanding) (o : Objects) (first n : ℕ) → Holds st o → length o.layout ≡ n → n ≤ 65528 → IsStanding n (standing_of st o (frames_from first (length o.layout)))
standing-holds Locked o first n h e few =
    (h, e, length-frames first (length o.layout) ∙ e, frames-apart first (length o.layout) (omega arith), frames-below first (length o.layout))
standing-holds Unlocked o first n h e few = (h, e)
standing-holds Draining o first n h e few = (length-map o.layout payloads_of ∙ e, h)

owned-shown : (k : Bool) (o : Option ℕ) (t : Bool) (h : ℕ) → (if k then o else None) ≡ Some h → ((k && if_owned o true t) ≡ true) × ((k && if_owned o true false) ≡ true)
owned-shown true None t h e = absurd (none-some h e)
owned-shown true (Some x) t h e = (refl, refl)
owned-shown false o t h e = absurd (none-some h e)

record HasOwner (o : Option ℕ) : Type 0 where
  owner : ℕ
  is : o ≡ Some owner

has-owner : (k : Bool) (o : Option ℕ) → (k && if_owned o true false) ≡ true → HasOwner (if k then o else None)
has-owner true None e = absurd (false≢true e)
has-owner true (Some x) e = record { owner = x; is = refl }
has-owner false o e = absurd (false≢true e)

heap-shown : (s : PlainParts) (h : ℕ) (x : PlainHeap) → IsKeptHeap (owners_of s) h x → IsHeap (state_of s) h (heap_of x)
heap-shown s h x k = record {
  few = k.number;
  request = k.request;
  pages = all_map (IsOwned (owners_of s) h) (IsHeapPageOf (state_of s)) x.pages.items
      (λ q w. record {
        number = w.number;
        in_temp = w.in_temp;
        taken = (owned-shown (is_key q) (slot_at s.slots.items q).heap (length (slot_at s.slots.items q).page == 4096) h w.owner).0;
        of_heap = (owned-shown (is_key q) (slot_at s.slots.items q).heap (length (slot_at s.slots.items q).page == 4096) h w.owner).1;
      }) k.pages;
  apart = k.apart;
  standing = standing-holds x.standing (objects_in x.objects) x.objects.first (length x.pages.items) k.holds k.count (let a = k.few in let b = k.count in omega arith);
}

pub heaps-whole : (s : PlainParts) → IsWhole s → AreHeaps (state_of s)
heaps-whole s w = record {
  each = λ n h e. let x : Shows (heap_at s.heaps.items n) h = shows (heap_at s.heaps.items n) h e in
      subst (λ z. IsHeap (state_of s) n z) x.shown (heap-shown s n x.heap (w.kept.each n x.heap x.is));
  pages = λ q e. let o : HasOwner (owners_of s q) = has-owner (is_key q) (slot_at s.slots.items q).heap e in
      let m : IsOwner (heap_at s.heaps.items) q o.owner = w.kept.owners q o.owner o.is in record {
        number = o.owner;
        heap = heap_of m.heap;
        is = ap (option_map heap_of) m.is;
        among = m.among;
        alone = λ other h i has.
            let x : Shows (heap_at s.heaps.items other) h = shows (heap_at s.heaps.items other) h i in
            let k : IsKeptHeap (owners_of s) other x.heap = w.kept.each other x.heap x.is in
            let p : has_page x.heap.pages.items q ≡ true = ap (λ (z : Heap). has_page z.pages q) x.shown ∙ has in
            let u : IsOwned (owners_of s) other q = all_has (IsOwned (owners_of s) other) x.heap.pages.items q k.pages p in
            some-number other o.owner (sym u.owner ∙ o.is);
      };
}

-- the frames of one heap are among those of all that are locked
pub frames-few : (s : PlainParts) (h : ℕ) (x : PlainHeap) → h < 512 → heap_at s.heaps.items h ≡ Some x → x.standing ≡ Locked → length x.objects.layout.items ≤ frames_locked (state_of s)
frames-few s h x l is st =
    let t = sum-term (λ n. frames_for ((state_of s).heaps.heap n)) 512 h l in
    let e = ap (λ o. frames_for (option_map heap_of o)) is ∙ ap (λ z. frames_of (standing_of z (objects_in x.objects) (frames_in x.objects))) st
    ∙ length-frames x.objects.first (length x.objects.layout.items) in
    omega arith

-- A heap that is as it was.
pub same-shown : (x y : PlainHeap) → IsSameHeap x y → heap_of y ≡ heap_of x
same-shown x y h =
    ap (λ z. record { standing = standing_of z (objects_in y.objects) (frames_in y.objects); request = y.request; pages = y.pages.items }) h.standing
    ∙ ap (λ z. record { standing = standing_of x.standing (record { layout = z; roots = y.objects.roots }) (frames_from y.objects.first (length z)); request = y.request; pages = y.pages.items }) h.layout
    ∙ ap (λ z. record { standing = standing_of x.standing (record { layout = x.objects.layout.items; roots = z }) (frames_from y.objects.first (length x.objects.layout.items)); request = y.request; pages = y.pages.items }) h.roots
    ∙ ap (λ z. record { standing = standing_of x.standing (objects_in x.objects) (frames_from z (length x.objects.layout.items)); request = y.request; pages = y.pages.items }) h.first
    ∙ ap (λ z. record { standing = standing_of x.standing (objects_in x.objects) (frames_in x.objects); request = z; pages = y.pages.items }) h.request
    ∙ ap (λ z. record { standing = standing_of x.standing (objects_in x.objects) (frames_in x.objects); request = x.request; pages = z }) h.pages

pub same-holds : (x y : PlainHeap) → IsSameHeap x y → Holds x.standing (objects_in x.objects) → Holds y.standing (objects_in y.objects)
same-holds x y h p =
    subst (λ z. Holds z (objects_in y.objects)) (sym h.standing)
    (subst (λ z. Holds x.standing (record { layout = z; roots = y.objects.roots })) (sym h.layout)
    (subst (λ z. Holds x.standing (record { layout = x.objects.layout.items; roots = z })) (sym h.roots) p))

-- A heap that got a page.
pub got-shown : (x y : PlainHeap) (p : ℕ) → x.standing ≡ Locked → GotPage x y p → heap_of y ≡ record {
  standing = locked (record { layout = x.objects.layout.items ++ [] ∷ []; roots = x.objects.roots }) (frames_in x.objects ++ (x.objects.first + length x.objects.layout.items) % 65536 ∷ []);
  request = x.request;
  pages = x.pages.items ++ p ∷ [];
}
got-shown x y p st h =
    let n : length (x.objects.layout.items ++ [] ∷ []) ≡ length x.objects.layout.items + 1 = length-append x.objects.layout.items ([] ∷ []) in
    ap (λ z. record { standing = standing_of z (objects_in y.objects) (frames_in y.objects); request = y.request; pages = y.pages.items }) (h.standing ∙ st)
    ∙ ap (λ z. record { standing = locked (record { layout = z; roots = y.objects.roots }) (frames_from y.objects.first (length z)); request = y.request; pages = y.pages.items }) h.layout
    ∙ ap (λ z. record { standing = locked (record { layout = x.objects.layout.items ++ [] ∷ []; roots = z }) (frames_from y.objects.first (length (x.objects.layout.items ++ [] ∷ []))); request = y.request; pages = y.pages.items }) h.roots
    ∙ ap (λ z. record { standing = locked (record { layout = x.objects.layout.items ++ [] ∷ []; roots = x.objects.roots }) (frames_from z (length (x.objects.layout.items ++ [] ∷ []))); request = y.request; pages = y.pages.items }) h.first
    ∙ ap (λ z. record { standing = locked (record { layout = x.objects.layout.items ++ [] ∷ []; roots = x.objects.roots }) z; request = y.request; pages = y.pages.items })
    (ap (frames_from x.objects.first) n ∙ frames-more x.objects.first (length x.objects.layout.items))
    ∙ ap (λ z. record { standing = locked (record { layout = x.objects.layout.items ++ [] ∷ []; roots = x.objects.roots }) (frames_in x.objects ++ (x.objects.first + length x.objects.layout.items) % 65536 ∷ []); request = z; pages = y.pages.items }) h.request
    ∙ ap (λ z. record { standing = locked (record { layout = x.objects.layout.items ++ [] ∷ []; roots = x.objects.roots }) (frames_in x.objects ++ (x.objects.first + length x.objects.layout.items) % 65536 ∷ []); request = x.request; pages = z }) h.pages

-- the heap that is read at a number, where there is one
pub heap-in : (heaps : List (Option PlainHeap)) (h : ℕ) → IsSome (heap_at heaps h) → h < length heaps
heap-in [] h e = absurd (false≢true e)
heap-in (y ∷ heaps) zero e = omega arith
heap-in (y ∷ heaps) (suc h) e = let l : h < length heaps = heap-in heaps h e in omega arith

pub some-at : (heaps : List (Option PlainHeap)) (h : ℕ) (r : Option PlainHeap) (x : PlainHeap) → IsSome (heap_at heaps h) → r ≡ slice_index_or heaps h r → r ≡ Some x → heap_at heaps h ≡ Some x
some-at heaps h r x there e is = sym (read-heap heaps h r (heap-in heaps h there) e) ∙ is

-- an unlocked heap
pub unlocked-is : (st : PlainStanding) (o : Objects) (frames : List ℕ) (u : Option Objects) → standing_of st o frames ≡ unlocked u → st ≡ Unlocked
unlocked-is Locked o frames u e = absurd (cc)
unlocked-is Unlocked o frames u e = refl
unlocked-is Draining o frames u e = absurd (cc)

-- either way of a call
pub on-both : {X Y P Q W : Type 0} (r : Result X Y) → OnOk r P → OnErr r Q → (IsOk r → P → W) → (Q → W) → W
on-both (Ok x) p q f g = f refl p
on-both (Err e) p q f g = g q

-- other objects of a heap that is locked, in the same frames
pub objects-put : (x : PlainHeap) (o : HeapObjects) (f : Objects → List ℕ → Objects) → x.standing ≡ Locked → objects_in o ≡ f (objects_in x.objects) (frames_in x.objects) → o.first ≡ x.objects.first
    → length o.layout.items ≡ length x.objects.layout.items
    → standing_of x.standing (objects_in o) (frames_in o) ≡ standing_with f (standing_of x.standing (objects_in x.objects) (frames_in x.objects))
objects-put x o f st e first l =
    ap (λ z. standing_of z (objects_in o) (frames_in o)) st
    ∙ ap (λ z. locked z (frames_in o)) e
    ∙ ap (λ n. locked (f (objects_in x.objects) (frames_in x.objects)) (frames_from n (length o.layout.items))) first
    ∙ ap (λ n. locked (f (objects_in x.objects) (frames_in x.objects)) (frames_from x.objects.first n)) l
    ∙ sym (ap (λ z. standing_with f (standing_of z (objects_in x.objects) (frames_in x.objects))) st)

-- the space then
pub state-objects : (s : PlainParts) (h : ℕ) (x : PlainHeap) (o : HeapObjects) (f : Objects → List ℕ → Objects) → heap_at s.heaps.items h ≡ Some x → x.standing ≡ Locked
    → objects_in o ≡ f (objects_in x.objects) (frames_in x.objects) → o.first ≡ x.objects.first → length o.layout.items ≡ length x.objects.layout.items
    → state_of (record s { heaps = with_item s.heaps h (Some (record x { objects = o })) }) ≡ with_objects (state_of s) h f
state-objects s h x o f is st e first l = standing-put s h x (record x { objects = o }) (standing_with f) is refl refl (objects-put x o f st e first l)

-- and the heaps are kept
pub whole-objects : (s : PlainParts) (h : ℕ) (x : PlainHeap) (o : HeapObjects) → IsWhole s → heap_at s.heaps.items h ≡ Some x → x.standing ≡ Locked
    → length o.layout.items ≡ length x.objects.layout.items → AreWellPlaced (objects_in o)
    → IsWhole (record s { heaps = with_item s.heaps h (Some (record x { objects = o })) })
whole-objects s h x o w is st l well =
    whole-as s h x (record x { objects = o }) w is refl refl l (subst (λ z. Holds z (objects_in o)) (sym st) well)

-- what is known of a heap that was found locked
pub record Found (s : PlainParts) (h : ℕ) (x : PlainHeap) : Type 0 where
  pub is : heap_at s.heaps.items h ≡ Some x
  pub locked : x.standing ≡ Locked
  pub well : IsWhole s → AreWellPlaced (objects_in x.objects)

pub found-locked : (s : PlainParts) (h : ℕ) (r : Option PlainHeap) (x : PlainHeap) → LockedAt s h → r ≡ slice_index_or s.heaps.items h r → r ≡ Some x → Found s h x
found-locked s h r x w e i =
    let is : heap_at s.heaps.items h ≡ Some x = some-at s.heaps.items h r x (there-some (heap_at s.heaps.items h) w.heap w.is) e i in
    let st : x.standing ≡ Locked = ap (λ (z : PlainHeap). z.standing) (some-heap x w.heap (sym is ∙ w.is)) ∙ w.locked in
    record { is = is; locked = st; well = λ k. subst (λ z. Holds z (objects_in x.objects)) st (k.kept.each h x is).holds }

words-some : (st : Option Standing) (a k : ℕ) → HasWord (of_locked (λ o frames. option_map (words_of o frames) (option_and_then links_of (object_at o frames a))) st) k → IsSome (of_locked (λ o frames. Some o) st)
words-some None a k w = absurd w
words-some (Some (locked o frames)) a k w = refl
words-some (Some (unlocked o)) a k w = absurd w
words-some (Some (draining p)) a k w = absurd w

-- a heap in which something is found is locked
pub words-locked : (s : PlainParts) (h a k : ℕ) → HasWord (words_in (state_of s) h a) k → LockedAt s h
words-locked s h a k w = locked-at s h (words-some (hs_standing (state_of s) h) a k w)

payload-some : (st : Option Standing) (a : ℕ) → IsSome (option_and_then payload_of (of_locked (λ o frames. object_at o frames a) st)) → IsSome (of_locked (λ o frames. Some o) st)
payload-some None a w = absurd (false≢true w)
payload-some (Some (locked o frames)) a w = refl
payload-some (Some (unlocked o)) a w = absurd (false≢true w)
payload-some (Some (draining p)) a w = absurd (false≢true w)

pub payload-locked : (s : PlainParts) (h a : ℕ) → IsSome (payload_in (state_of s) h a) → LockedAt s h
payload-locked s h a w = locked-at s h (payload-some (hs_standing (state_of s) h) a w)

pub standing-locked : (s : PlainParts) (h : ℕ) (x : PlainHeap) → heap_at s.heaps.items h ≡ Some x → x.standing ≡ Locked → hs_standing (state_of s) h ≡ Some (locked (objects_in x.objects) (frames_in x.objects))
standing-locked s h x is st = ap (λ o. option_map (λ (z : Heap). z.standing) (option_map heap_of o)) is ∙ ap (λ z. Some (standing_of z (objects_in x.objects) (frames_in x.objects))) st

-- where a heap is that was found locked
pub standing-found : (s : PlainParts) (h : ℕ) (x : PlainHeap) → Found s h x → hs_standing (state_of s) h ≡ Some (locked (objects_in x.objects) (frames_in x.objects))
standing-found s h x f = standing-locked s h x f.is f.locked
