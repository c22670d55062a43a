-- A space whose one heap is that of a trial, and what its calls keep of that. Our own rule.
use Rattle.std.specs.Prelude.{◌≡◌, ◌≢◌, ℕ, ◌+◌, ◌<◌, ◌≤◌, zero, suc, Bool, true, drop, List, [], ◌∷◌, ◌++◌, length, Option, None, Some, IsSome, option_map, slice_index, slice_set, replicate}
use Rattle.std.proofs.Common.{sym, ◌∙◌, ap, subst, refl, arith, length-append, inl, inr}
use Rattle.std.proofs.lemmas.Bool.{cases_eq, false≢true}
use Rattle.hg_base.specs.Content.{Objects, Standing, locked, unlocked, draining, Heap}
use Rattle.hg_base.specs.HeapStates.{sum_below, heap_count, one_heap, frames_of, frames_for, frames_locked, pages_for, pages_held, IsLocked, of_locked, standing_of, standing_with, with_standing, with_objects, MayGrow, CanLock, CanDrain, MakesHeap, AddsHeapPage, Locks, Drains, after_unlock, unlocked_from, told_objects, payloads_left, is_at_rest, pages_in, request_in}
use Rattle.hg_base.specs.HeapContent.{no_objects}
use Rattle.hg_base.specs.PlainKept.{at-here, at-other}
use Rattle.hg_base.specs.Plain.{plain_start}
use Rattle.hg_base.specs.PlainSums.{sum-zero, sum-suc}
use Rattle.hg_base.specs.Space.{Space, at, IsSame, Counts, with_counts}

-- The space has one heap, of this number, which works for request 0 and holds what the ledger granted;
-- no page is pinned, and frames and cap are those of a plain space.
pub record IsOne (s : Space) (h : ℕ) (held : List ℕ) : Type 0 where
  pub number : h < 512
  pub pins : s.pins ≡ 0
  pub current : s.heaps.current ≡ 65536
  pub cap : s.heaps.cap 0 ≡ 65536
  pub others : (k : ℕ) → k ≢ h → s.heaps.heap k ≡ None
  pub standing : Standing
  pub pages : List ℕ
  pub is : s.heaps.heap h ≡ Some (record { standing = standing; request = 0; pages = pages })
  pub many : frames_of standing ≤ length pages
  pub requests : length held ≡ 16
  pub granted : slice_index held 0 ≡ length pages

-- a call that is refused changes nothing of it
pub one-same : (a b : Space) (h : ℕ) (held : List ℕ) → IsSame a b → IsOne a h held → IsOne b h held
one-same a b h held e o = subst (λ s. IsOne s h held) (sym e.after) (record {
  number = o.number;
  pins = o.pins;
  current = o.current;
  cap = o.cap;
  others = o.others;
  standing = o.standing;
  pages = o.pages;
  is = o.is;
  many = o.many;
  requests = o.requests;
  granted = o.granted;
})

pub locked-same : (a b : Space) (h : ℕ) → IsSame a b → IsLocked a h → IsLocked b h
locked-same a b h e l = subst (λ s. IsLocked s h) (sym e.after) l

-- the heap has another standing, with as many frames at most
pub one-standing : (s : Space) (h : ℕ) (held : List ℕ) (f : Standing → Standing) → ((st : Standing) → frames_of (f st) ≤ frames_of st) → IsOne s h held → IsOne (with_standing s h f) h held
one-standing s h held f less o = record {
  number = o.number;
  pins = o.pins;
  current = o.current;
  cap = o.cap;
  others = λ k d. at-other s.heaps.heap h (option_map (λ (x : Heap). record x { standing = f x.standing }) (s.heaps.heap h)) k d ∙ o.others k d;
  standing = f o.standing;
  pages = o.pages;
  is = at-here s.heaps.heap h (option_map (λ (x : Heap). record x { standing = f x.standing }) (s.heaps.heap h)) ∙ ap (option_map (λ (x : Heap). record x { standing = f x.standing })) o.is;
  many = let a = less o.standing in let b = o.many in omega arith;
  requests = o.requests;
  granted = o.granted;
}

objects-frames : (f : Objects → List ℕ → Objects) (st : Standing) → frames_of (standing_with f st) ≤ frames_of st
objects-frames f (locked objects frames) = omega arith
objects-frames f (unlocked objects) = omega arith
objects-frames f (draining payloads) = omega arith

-- other objects in the same frames
pub one-objects : (s : Space) (h : ℕ) (held : List ℕ) (f : Objects → List ℕ → Objects) → IsOne s h held → IsOne (with_objects s h f) h held
one-objects s h held f o = one-standing s h held (standing_with f) (objects-frames f) o

locked-with : (f : Objects → List ℕ → Objects) (st : Standing) → IsSome (of_locked (λ o frames. Some o) (Some st)) → IsSome (of_locked (λ o frames. Some o) (Some (standing_with f st)))
locked-with f (locked objects frames) l = refl
locked-with f (unlocked objects) l = l
locked-with f (draining payloads) l = l

locked-map : (f : Objects → List ℕ → Objects) (o : Option Heap) → IsSome (of_locked (λ o frames. Some o) (option_map (λ (x : Heap). x.standing) o))
    → IsSome (of_locked (λ o frames. Some o) (option_map (λ (x : Heap). x.standing) (option_map (λ (x : Heap). record x { standing = standing_with f x.standing }) o)))
locked-map f None l = l
locked-map f (Some x) l = locked-with f x.standing l

pub locked-objects : (s : Space) (h : ℕ) (f : Objects → List ℕ → Objects) → IsLocked s h → IsLocked (with_objects s h f) h
locked-objects s h f l =
    let x : Option Heap = option_map (λ (y : Heap). record y { standing = standing_with f y.standing }) (s.heaps.heap h) in
    subst (λ o. IsSome (of_locked (λ o frames. Some o) (option_map (λ (y : Heap). y.standing) o))) (sym (at-here s.heaps.heap h x)) (locked-map f (s.heaps.heap h) l)

-- a sum of which all terms but one are 0
record SumOne (f : ℕ → ℕ) (h n : ℕ) : Type 0 where
  before : n ≤ h → sum_below f n ≡ 0
  most : sum_below f n ≤ f h

sum-one : (f : ℕ → ℕ) (h n : ℕ) → ((k : ℕ) → k ≢ h → f k ≡ 0) → SumOne f h n
sum-one f h zero z = record { before = λ l. sum-zero f; most = let e = sum-zero f in omega arith }
sum-one f h (suc n) z =
    let r : SumOne f h n = sum-one f h n z in
    let e : sum_below f (suc n) ≡ f n + sum_below f n = sum-suc f n in
    elim (cases_eq n h) as (λ _. SumOne f h (suc n)) [
      | inl same ↦ (let g = ap f same in let b = r.before (omega arith) in record { before = λ l. absurd (omega arith); most = omega arith })
      | inr other ↦ (let g = z n other in let m = r.most in record { before = λ l. (let b = r.before (omega arith) in omega arith); most = omega arith })
    ]

one-frames : (s : Space) (h : ℕ) (held : List ℕ) (o : IsOne s h held) → frames_locked s ≤ frames_of o.standing
one-frames s h held o =
    let m = (sum-one (λ k. frames_for (s.heaps.heap k)) h 512 (λ k d. ap frames_for (o.others k d))).most in
    let e = ap frames_for o.is in omega arith

one-held : (s : Space) (h : ℕ) (held : List ℕ) (o : IsOne s h held) → pages_held s 0 ≤ length o.pages
one-held s h held o =
    let m = (sum-one (λ k. pages_for 0 (s.heaps.heap k)) h 512 (λ k d. ap (pages_for 0) (o.others k d))).most in
    let e : pages_for 0 (s.heaps.heap h) ≡ length o.pages = ap (pages_for 0) o.is in omega arith

pub one-pages : (s : Space) (h : ℕ) (held : List ℕ) (o : IsOne s h held) → length (pages_in (s.heaps.heap h)) ≡ length o.pages
one-pages s h held o = ap (λ x. length (pages_in x)) o.is

pub one-granted : (s : Space) (h : ℕ) (held : List ℕ) → IsOne s h held → slice_index held 0 ≡ length (pages_in (s.heaps.heap h))
one-granted s h held o = o.granted ∙ sym (one-pages s h held o)

pub one-request : (s : Space) (h : ℕ) (held : List ℕ) → IsOne s h held → 0 ≡ request_in (s.heaps.heap h)
one-request s h held o = sym (ap request_in o.is)

-- a heap of few pages may have one more
pub one-grows : (s : Space) (h : ℕ) (held : List ℕ) → IsOne s h held → length (pages_in (s.heaps.heap h)) < 1000 → MayGrow s 0
one-grows s h held o few =
    let p = one-pages s h held o in let m = o.many in let c = o.current in let a = o.cap in let q = o.pins in
    let f = one-frames s h held o in let g = one-held s h held o in record {
      few_pins = omega arith;
      frames = omega arith;
      cap = omega arith;
    }

-- a page more
pub one-added : (a b : Space) (h : ℕ) (held more : List ℕ) → IsOne a h held → AddsHeapPage a b h → length more ≡ 16 → slice_index more 0 ≡ slice_index held 0 + 1 → IsOne b h more
one-added a b h held more o d sixteen e = subst (λ s. IsOne s h more) (sym d.after) (
    let same : d.heap ≡ record { standing = o.standing; request = 0; pages = o.pages } = (let s : ◌≡◌ {A = Option Heap} (Some d.heap) (Some (record { standing = o.standing; request = 0; pages = o.pages })) = sym d.is ∙ o.is in cc) in
    let x : Heap = record {
      standing = locked (record d.objects { layout = d.objects.layout ++ [] ∷ [] }) (d.frames ++ d.frame ∷ []);
      request = d.heap.request;
      pages = d.heap.pages ++ d.page ∷ [];
    } in
    let pages = ap (λ (y : Heap). length y.pages) same in
    let frames = ap frames_of (sym (ap (λ (y : Heap). y.standing) same) ∙ d.was_locked) in
    let m = o.many in let g = o.granted in
    let fl = length-append d.frames (d.frame ∷ []) in let pl = length-append d.heap.pages (d.page ∷ []) in
    record {
      number = o.number;
      pins = o.pins;
      current = o.current;
      cap = o.cap;
      others = λ k n. at-other a.heaps.heap h (Some x) k n ∙ o.others k n;
      standing = x.standing;
      pages = x.pages;
      is = at-here a.heaps.heap h (Some x) ∙ ap (λ r. Some (record x { request = r })) (ap (λ (y : Heap). y.request) same);
      many = omega arith;
      requests = sixteen;
      granted = omega arith;
    })

pub locked-added : (a b : Space) (h : ℕ) → AddsHeapPage a b h → IsLocked b h
locked-added a b h d = subst (λ s. IsLocked s h) (sym d.after)
    (subst (λ o. IsSome (of_locked (λ o frames. Some o) (option_map (λ (y : Heap). y.standing) o))) (sym (at-here a.heaps.heap h (Some (record {
      standing = locked (record d.objects { layout = d.objects.layout ++ [] ∷ [] }) (d.frames ++ d.frame ∷ []);
      request = d.heap.request;
      pages = d.heap.pages ++ d.page ∷ [];
    })))) refl)

-- a heap that is made in a space without any
pub one-made : (a b : Space) (h : ℕ) (held : List ℕ) → a.pins ≡ 0 → a.heaps.current ≡ 65536 → a.heaps.cap 0 ≡ 65536 → ((k : ℕ) → a.heaps.heap k ≡ None) → MakesHeap a b h 0 → length held ≡ 16 → slice_index held 0 ≡ 1 → IsOne b h held
one-made a b h held pins current cap none d sixteen e = subst (λ s. IsOne s h held) (sym d.after) (
    let x : Heap = record { standing = locked no_objects (d.frame ∷ []); request = 0; pages = d.page ∷ [] } in record {
      number = d.few;
      pins = pins;
      current = current;
      cap = cap;
      others = λ k n. at-other a.heaps.heap h (Some x) k n ∙ none k;
      standing = x.standing;
      pages = x.pages;
      is = at-here a.heaps.heap h (Some x);
      many = omega arith;
      requests = sixteen;
      granted = e;
    })

pub locked-made : (a b : Space) (h : ℕ) → MakesHeap a b h 0 → IsLocked b h
locked-made a b h d = subst (λ s. IsLocked s h) (sym d.after)
    (subst (λ o. IsSome (of_locked (λ o frames. Some o) (option_map (λ (y : Heap). y.standing) o)))
    (sym (at-here a.heaps.heap h (Some (record { standing = locked no_objects (d.frame ∷ []); request = 0; pages = d.page ∷ [] })))) refl)

-- Unlocked, and locked again.
unlock-frames : (told : Bool) (st : Standing) → frames_of (unlocked_from told st) ≤ frames_of st
unlock-frames told (locked objects frames) = omega arith
unlock-frames told (unlocked objects) = omega arith
unlock-frames told (draining payloads) = omega arith

pub one-unlocked : (s : Space) (h : ℕ) (held : List ℕ) → IsOne s h held → IsOne (after_unlock s h) h held
one-unlocked s h held o = one-standing s h held (unlocked_from s.told) (unlock-frames s.told) o

-- the heap is unlocked
pub record IsUnlocked (s : Space) (h : ℕ) (held : List ℕ) : Type 0 where
  pub one : IsOne s h held
  pub objects : Option Objects
  pub was_unlocked : one.standing ≡ unlocked objects

from-locked : (told : Bool) (st : Standing) → IsSome (of_locked (λ o frames. Some o) (Some st)) → (o : Option Objects) × (unlocked_from told st ≡ unlocked o)
from-locked told (locked objects frames) l = (told_objects told objects, refl)
from-locked told (unlocked objects) l = absurd (false≢true l)
from-locked told (draining payloads) l = absurd (false≢true l)

pub unlocked-after : (s : Space) (h : ℕ) (held : List ℕ) → IsOne s h held → IsLocked s h → IsUnlocked (after_unlock s h) h held
unfolding one-unlocked one-standing
unlocked-after s h held o l =
    let l2 = subst (λ x. IsSome (of_locked (λ o frames. Some o) (option_map (λ (y : Heap). y.standing) x))) o.is l in
    let r = from-locked s.told o.standing l2 in
    record { one = one-unlocked s h held o; objects = r.0; was_unlocked = r.1 }

pub lock-again : (s : Space) (h : ℕ) (held : List ℕ) → IsOne s h held → IsLocked s h → length (pages_in (s.heaps.heap h)) < 1000 → CanLock (after_unlock s h) h
unfolding one-unlocked one-standing
lock-again s h held o l few =
    let u : IsUnlocked (after_unlock s h) h held = unlocked-after s h held o l in
    let p = one-pages s h held o in let m = u.one.many in let c = o.current in let f = one-frames (after_unlock s h) h held u.one in
    let z = ap frames_of u.was_unlocked in let n = one-pages (after_unlock s h) h held u.one in record {
      heap = record { standing = u.one.standing; request = 0; pages = u.one.pages };
      is = u.one.is;
      objects = u.objects;
      was_unlocked = u.was_unlocked;
      frames = omega arith;
    }

-- what a ledger tells once a page was granted, or came back
pub set-told : (held : List ℕ) (n : ℕ) → length held ≡ 16 → (slice_index (slice_set held 0 n) 0 ≡ n) × (length (slice_set held 0 n) ≡ 16)
set-told [] n e = absurd (omega arith)
set-told (x ∷ held) n e = (refl, e)

pub one-locks : (a b : Space) (h : ℕ) (held : List ℕ) → IsOne a h held → Locks a b h → IsOne b h held
one-locks a b h held o d = subst (λ s. IsOne s h held) (sym d.after) (
    let w : IsOne (with_standing a h (λ _. locked d.objects d.frames)) h held =
    (let same : d.heap ≡ record { standing = o.standing; request = 0; pages = o.pages } = (let s : ◌≡◌ {A = Option Heap} (Some d.heap) (Some (record { standing = o.standing; request = 0; pages = o.pages })) = sym d.is ∙ o.is in cc) in
    let n = ap (λ (y : Heap). length y.pages) same in let m = d.in_frames.many in record {
      number = o.number;
      pins = o.pins;
      current = o.current;
      cap = o.cap;
      others = λ k n. at-other a.heaps.heap h (option_map (λ (x : Heap). record x { standing = locked d.objects d.frames }) (a.heaps.heap h)) k n ∙ o.others k n;
      standing = locked d.objects d.frames;
      pages = o.pages;
      is = at-here a.heaps.heap h (option_map (λ (x : Heap). record x { standing = locked d.objects d.frames }) (a.heaps.heap h)) ∙ ap (option_map (λ (x : Heap). record x { standing = locked d.objects d.frames })) o.is;
      many = omega arith;
      requests = o.requests;
      granted = o.granted;
    }) in record {
      number = w.number;
      pins = w.pins;
      current = w.current;
      cap = w.cap;
      others = w.others;
      standing = w.standing;
      pages = w.pages;
      is = w.is;
      many = w.many;
      requests = w.requests;
      granted = w.granted;
    })

pub locked-locks : (a b : Space) (h : ℕ) (held : List ℕ) → IsOne a h held → Locks a b h → IsLocked b h
locked-locks a b h held o d = subst (λ s. IsLocked s h) (sym d.after)
    (subst (λ x. IsSome (of_locked (λ o frames. Some o) (option_map (λ (y : Heap). y.standing) x)))
    (sym (at-here a.heaps.heap h (option_map (λ (x : Heap). record x { standing = locked d.objects d.frames }) (a.heaps.heap h)) ∙ ap (option_map (λ (x : Heap). record x { standing = locked d.objects d.frames })) o.is)) refl)

-- Drained, page by page.
pub record IsResting (s : Space) (h : ℕ) (held : List ℕ) : Type 0 where
  pub one : IsOne s h held
  pub rests : is_at_rest one.standing ≡ true

pub rests-unlocked : (s : Space) (h : ℕ) (held : List ℕ) → IsUnlocked s h held → IsResting s h held
rests-unlocked s h held u = record { one = u.one; rests = ap is_at_rest u.was_unlocked }

pub can-drain : (s : Space) (h : ℕ) (held : List ℕ) → IsResting s h held → 0 < length (pages_in (s.heaps.heap h)) → CanDrain (s.heaps.heap h)
can-drain s h held r some =
    let o : IsOne s h held = r.one in let p = one-pages s h held o in
    subst (λ x. CanDrain x) (sym o.is) (r.rests, omega arith)

pub rests-drained : (a b : Space) (h : ℕ) (held less out : List ℕ) → IsResting a h held → Drains a b h out → length less ≡ 16 → slice_index less 0 + 1 ≡ slice_index held 0 → IsResting b h less
rests-drained a b h held less out r d sixteen e = subst (λ s. IsResting s h less) (sym d.after) (
    let o : IsOne a h held = r.one in
    let same : d.heap ≡ record { standing = o.standing; request = 0; pages = o.pages } = (let s : ◌≡◌ {A = Option Heap} (Some d.heap) (Some (record { standing = o.standing; request = 0; pages = o.pages })) = sym d.is ∙ o.is in cc) in
    let x : Heap = record { standing = draining (option_map (drop 1) (payloads_left d.heap.standing)); request = d.heap.request; pages = d.others } in
    let n = ap (λ (y : Heap). length y.pages) same in let m = ap length d.pages in let g = o.granted in record {
      one = record {
        number = o.number;
        pins = o.pins;
        current = o.current;
        cap = o.cap;
        others = λ k n. at-other a.heaps.heap h (Some x) k n ∙ o.others k n;
        standing = x.standing;
        pages = x.pages;
        is = at-here a.heaps.heap h (Some x) ∙ ap (λ r. Some (record x { request = r })) (ap (λ (y : Heap). y.request) same);
        many = omega arith;
        requests = sixteen;
        granted = omega arith;
      };
      rests = refl;
    })

pub rests-same : (a b : Space) (h : ℕ) (held : List ℕ) → IsSame a b → IsResting a h held → IsResting b h held
rests-same a b h held e r = subst (λ s. IsResting s h held) (sym e.after) (record {
  one = record {
    number = r.one.number;
    pins = r.one.pins;
    current = r.one.current;
    cap = r.one.cap;
    others = r.one.others;
    standing = r.one.standing;
    pages = r.one.pages;
    is = r.one.is;
    many = r.one.many;
    requests = r.one.requests;
    granted = r.one.granted;
  };
  rests = r.rests;
})

-- The heap is locked.
pub record IsWork (s : Space) (h : ℕ) (held : List ℕ) : Type 0 where
  pub one : IsOne s h held
  pub locked : IsLocked s h

-- what a call keeps that changes objects alone
pub record KeepsWork (a b : Space) (h : ℕ) : Type 0 where
  pub one : (held : List ℕ) → IsOne a h held → IsOne b h held
  pub locked : IsLocked a h → IsLocked b h

pub keeps-self : (s : Space) (h : ℕ) → KeepsWork s s h
keeps-self s h = record { one = λ held o. o; locked = λ l. l }

pub keeps-objects : (s t : Space) (h : ℕ) (f : Objects → List ℕ → Objects) → t ≡ with_objects s h f → KeepsWork s t h
keeps-objects s t h f e = record {
  one = λ held o. subst (λ x. IsOne x h held) (sym e) (one-objects s h held f o);
  locked = λ l. subst (λ x. IsLocked x h) (sym e) (locked-objects s h f l);
}

pub keeps-equal : (s t : Space) (h : ℕ) → t ≡ s → KeepsWork s t h
keeps-equal s t h e = subst (λ x. KeepsWork s x h) (sym e) (keeps-self s h)

pub keeps-both : (s t u : Space) (h : ℕ) → KeepsWork s t h → KeepsWork t u h → KeepsWork s u h
keeps-both s t u h p q = record { one = λ held o. q.one held (p.one held o); locked = λ l. q.locked (p.locked l) }

pub work-kept : (s t : Space) (h : ℕ) (held : List ℕ) → IsWork s h held → KeepsWork s t h → IsWork t h held
work-kept s t h held w k = record { one = k.one held w.one; locked = k.locked w.locked }

-- A space without heaps, of which a ledger granted no page.
pub record IsEmpty (s : Space) (held : List ℕ) : Type 0 where
  pub pins : s.pins ≡ 0
  pub current : s.heaps.current ≡ 65536
  pub cap : s.heaps.cap 0 ≡ 65536
  pub none : (k : ℕ) → s.heaps.heap k ≡ None
  pub requests : length held ≡ 16
  pub granted : slice_index held 0 ≡ 0

pub empty-grows : (s : Space) (held : List ℕ) → IsEmpty s held → MayGrow s 0
empty-grows s held e =
    let f = (sum-one (λ k. frames_for (s.heaps.heap k)) 0 512 (λ k d. ap frames_for (e.none k))).most in
    let g = (sum-one (λ k. pages_for 0 (s.heaps.heap k)) 0 512 (λ k d. ap (pages_for 0) (e.none k))).most in
    let n = ap frames_for (e.none 0) in let m = ap (pages_for 0) (e.none 0) in
    let q = e.pins in let c = e.current in let a = e.cap in record {
      few_pins = omega arith;
      frames = omega arith;
      cap = omega arith;
    }

pub empty-few : (s : Space) (held : List ℕ) → IsEmpty s held → heap_count s < 512
empty-few s held e =
    let f = (sum-one (λ k. one_heap (s.heaps.heap k)) 0 512 (λ k d. ap one_heap (e.none k))).most in
    let n = ap one_heap (e.none 0) in omega arith

pub empty-start : (s : Space) (held : List ℕ) → s ≡ plain_start → held ≡ replicate 16 0 → IsEmpty s held
empty-start s held e l = subst (λ x. IsEmpty x held) (sym e) (subst (λ x. IsEmpty plain_start x) (sym l) (record {
  pins = refl;
  current = refl;
  cap = refl;
  none = λ k. refl;
  requests = refl;
  granted = refl;
}))
