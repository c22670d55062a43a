-- What it is that a heap is made, or gets a page.
use Rattle.std.specs.Prelude.{◌≡◌, ◌≢◌, ℕ, ◌+◌, ◌%◌, ◌<◌, ◌≤◌, false, List, [], ◌∷◌, ◌++◌, length, Option, None, Some, option_map}
use Rattle.std.proofs.Common.{sym, ◌∙◌, ap, subst, refl, arith, length-append}
use Rattle.std.specs.List.{AllByRecursion}
use Rattle.std.specs.Vec.{with_item}
use Rattle.std.proofs.lemmas.List.{length-set}
use Rattle.std.proofs.lemmas.Option.{none-some}
use Rattle.hg_base.specs.Content.{Object, Objects, locked, page_end, placed}
use Rattle.hg_base.specs.HeapContent.{no_objects}
use Rattle.hg_base.specs.HeapFacts.{AreWellPlaced, AreObjects, LeadsBelow}
use Rattle.hg_base.specs.HeapStates.{MakesHeap, AddsHeapPage, with_heap, with_heap_page, with_peak, pages_held}
use Rattle.hg_base.specs.LineLaws.{all_map, all_more}
use Rattle.hg_base.specs.Lines.{AreApart}
use Rattle.hg_base.specs.Space.{Space, at, key_in}
use Rattle.hg_base.specs.declared.File.TheVariants.{Temp}
use Rattle.hg_base.specs.Plain.{heap_of, heap_at, slot_at, standing_of}
use Rattle.hg_base.specs.PlainFrames.{frames-fresh}
use Rattle.hg_base.specs.PlainHeapFacts.{IsOwned, Holds, IsKeptHeap, AreKept, GotPage}
use Rattle.hg_base.specs.PlainObjects.{frames_from, objects_in, frames_in}
use Rattle.hg_base.specs.PlainSpaces.{state_of, owners_of, IsWhole}
use Rattle.hg_base.specs.declared.plain_heap.PlainHeap.{PlainHeap}
use Rattle.hg_base.specs.declared.plain_heap.PlainStanding.TheVariants.{Locked}
use Rattle.hg_base.specs.declared.plain_parts.PlainParts.{PlainParts}
use Rattle.hg_base.proofs.PlainSteps.{unused-slot, free-owner}
use Rattle.hg_base.specs.PlainKept.{at-here, at-other, kept-more, had-none, had-some, heaps-set, state-put}
use Rattle.hg_base.specs.PlainChanges.{got-shown}

-- a heap as it is made
pub record IsNewHeap (x : PlainHeap) (q r : ℕ) : Type 0 where
  pub standing : x.standing ≡ Locked
  pub request : x.request ≡ r
  pub pages : x.pages.items ≡ q ∷ []
  pub objects : objects_in x.objects ≡ no_objects

new-shown : (x : PlainHeap) (q r : ℕ) → IsNewHeap x q r
    → heap_of x ≡ record { standing = locked no_objects (x.objects.first % 65536 ∷ []); request = r; pages = q ∷ [] }
new-shown x q r h =
    ap (λ z. record { standing = standing_of z (objects_in x.objects) (frames_in x.objects); request = x.request; pages = x.pages.items }) h.standing
    ∙ ap (λ (o : Objects). record { standing = locked o (frames_from x.objects.first (length o.layout)); request = x.request; pages = x.pages.items }) h.objects
    ∙ ap (λ z. record { standing = locked no_objects (x.objects.first % 65536 ∷ []); request = z; pages = x.pages.items }) h.request
    ∙ ap (λ z. record { standing = locked no_objects (x.objects.first % 65536 ∷ []); request = r; pages = z }) h.pages

pub make-shown : (s w : PlainParts) (u p v : Space) (h q nr r held : ℕ) (x : PlainHeap) → state_of w ≡ state_of s → u ≡ with_heap_page (state_of w) q → p ≡ with_heap u h (Some (heap_of x))
    → v ≡ with_peak p r (held + 1) → held ≡ pages_held (state_of w) r → h < 512 → heap_at w.heaps.items h ≡ None → q ≡ key_in Temp nr → nr < 1048576 → (state_of w).taken q ≡ false → IsNewHeap x q r
    → MakesHeap (state_of s) v h r
make-shown s w u p v h q nr r held x same eu ep ev count few none key low free new =
    subst (λ a. MakesHeap a v h r) same (record {
      few = few;
      was_none = ap (option_map heap_of) none;
      page = q;
      new_page = record { number = nr; in_temp = key; below_limit = low; unused = unused-slot (slot_at w.slots.items) q w.pins (state_of w).counts (state_of w).heaps free };
      frame = x.objects.first % 65536;
      new_frame = record { in_use = omega arith; other = refl };
      counts = (state_of w).counts;
      after =
          ev
          ∙ ap (λ z. with_peak z r (held + 1)) ep
          ∙ ap (λ z. with_peak (with_heap z h (Some (heap_of x))) r (held + 1)) eu
          ∙ ap (λ z. with_peak (with_heap (with_heap_page (state_of w) q) h (Some z)) r (held + 1)) (new-shown x q r new)
          ∙ ap (λ n. with_peak (with_heap (with_heap_page (state_of w) q) h (Some (record { standing = locked no_objects (x.objects.first % 65536 ∷ []); request = r; pages = q ∷ [] }))) r (n + 1)) count;
    })

no-objects-well : AreWellPlaced no_objects
no-objects-well = record { objects = tt; pages = (omega arith, tt); four = refl; roots = (tt, (tt, (tt, (tt, tt)))) }

pub make-whole : (w v : PlainParts) (h q nr r : ℕ) (x : PlainHeap) → IsWhole w → owners_of v ≡ at (owners_of w) q (Some h) → heap_at v.heaps.items ≡ at (heap_at w.heaps.items) h (Some x)
    → length v.heaps.items ≤ 512 → h < 512 → heap_at w.heaps.items h ≡ None → q ≡ key_in Temp nr → (state_of w).taken q ≡ false → r < 16 → IsNewHeap x q r → IsWhole v
make-whole w v h q nr r x k own heaps long few none key free low new =
    let lay : x.objects.layout.items ≡ [] ∷ [] = ap (λ (o : Objects). o.layout) new.objects in
    let owner : owners_of w q ≡ None = free-owner q (slot_at w.slots.items q) free in
    let kept : IsKeptHeap (at (owners_of w) q (Some h)) h x = record {
      number = few;
      request = let e = new.request in omega arith;
      pages = subst (λ l. AllByRecursion (IsOwned (at (owners_of w) q (Some h)) h) l) (sym new.pages) (record { number = nr; in_temp = key; owner = at-here (owners_of w) q (Some h) }, tt);
      apart = subst (λ l. AreApart l) (sym new.pages) (tt, tt);
      count = ap length lay ∙ ap length (sym new.pages);
      few = let e = ap length lay in omega arith;
      holds = subst (λ z. Holds z (objects_in x.objects)) (sym new.standing) (subst (λ o. AreWellPlaced o) (sym new.objects) no-objects-well);
    } in
    record {
      few = long;
      kept = subst (λ o. AreKept o (heap_at v.heaps.items)) (sym own)
          (subst (λ g. AreKept (at (owners_of w) q (Some h)) g) (sym heaps)
          (kept-more (owners_of w) (heap_at w.heaps.items) h q [] x k.kept owner (had-none (owners_of w) (heap_at w.heaps.items) h k.kept none) new.pages kept));
    }

pub add-shown : (s : PlainParts) (t u v : Space) (h q nr r held : ℕ) (x y : PlainHeap) → heap_at s.heaps.items h ≡ Some x → x.standing ≡ Locked → t ≡ with_heap (state_of s) h (Some (heap_of y)) → GotPage x y q
    → u ≡ with_heap_page t q → v ≡ with_peak u r (held + 1) → x.request ≡ r → held ≡ pages_held (state_of s) r → q ≡ key_in Temp nr → nr < 1048576 → (state_of s).taken q ≡ false
    → length x.objects.layout.items < 65536 → AddsHeapPage (state_of s) v h
add-shown s t u v h q nr r held x y is st et got eu ev req count key low free few = record {
  heap = heap_of x;
  is = ap (option_map heap_of) is;
  objects = objects_in x.objects;
  frames = frames_in x.objects;
  was_locked = ap (λ z. standing_of z (objects_in x.objects) (frames_in x.objects)) st;
  page = q;
  new_page = record { number = nr; in_temp = key; below_limit = low; unused = unused-slot (slot_at s.slots.items) q s.pins (state_of s).counts (state_of s).heaps free };
  frame = (x.objects.first + length x.objects.layout.items) % 65536;
  new_frame = record { in_use = omega arith; other = frames-fresh x.objects.first (length x.objects.layout.items) few };
  links = (state_of s).next;
  others = λ p e. refl;
  counts = (state_of s).counts;
  after =
      ev
      ∙ ap (λ z. with_peak z r (held + 1)) eu
      ∙ ap (λ z. with_peak (with_heap_page z q) r (held + 1)) et
      ∙ ap (λ z. with_peak (with_heap_page (with_heap (state_of s) h (Some z)) q) r (held + 1)) (got-shown x y q st got)
      ∙ ap (λ n. with_peak (with_heap_page (with_heap (state_of s) h (Some (record {
        standing = locked (record { layout = x.objects.layout.items ++ [] ∷ []; roots = x.objects.roots }) (frames_in x.objects ++ (x.objects.first + length x.objects.layout.items) % 65536 ∷ []);
        request = x.request;
        pages = x.pages.items ++ q ∷ [];
      }))) q) r (n + 1)) count
      ∙ ap (λ n. with_peak (with_heap_page (with_heap (state_of s) h (Some (record {
        standing = locked (record { layout = x.objects.layout.items ++ [] ∷ []; roots = x.objects.roots }) (frames_in x.objects ++ (x.objects.first + length x.objects.layout.items) % 65536 ∷ []);
        request = x.request;
        pages = x.pages.items ++ q ∷ [];
      }))) q) n (pages_held (state_of s) n + 1)) (sym req);
}

-- a page with no object changes nothing of where objects are
placed-more : (layout : List (List Object)) (roots : List (Option ℕ)) → placed (record { layout = layout ++ [] ∷ []; roots = roots }) ≡ placed (record { layout = layout; roots = roots })
placed-more [] roots = refl
placed-more (p ∷ layout) roots = ap (λ l. p ++ l) (placed-more layout roots)

all-last : (P : List Object → Type 0) (xs : List (List Object)) (x : List Object) → AllByRecursion P xs → P x → AllByRecursion P (xs ++ x ∷ [])
all-last P [] x h p = (p, tt)
all-last P (y ∷ xs) x h p = (h.0, all-last P xs x h.1 p)

pub well-more : (layout : List (List Object)) (roots : List (Option ℕ)) → AreWellPlaced (record { layout = layout; roots = roots }) → AreWellPlaced (record { layout = layout ++ [] ∷ []; roots = roots })
well-more layout roots h =
    let e = placed-more layout roots in record {
      objects = subst (λ l. AreObjects 0 (length l) l) (sym e) h.objects;
      pages = all-last (λ page. page_end page ≤ 4096) layout [] h.pages (omega arith);
      four = h.four;
      roots = subst (λ l. AllByRecursion (LeadsBelow (length l)) roots) (sym e) h.roots;
    }

apart-more : (xs : List ℕ) (p : ℕ) → AreApart xs → AllByRecursion (λ x. x ≢ p) xs → AreApart (xs ++ p ∷ [])
apart-more [] p h d = (tt, tt)
apart-more (x ∷ xs) p h d = (all_more (λ y. y ≢ x) xs p h.0 (λ e. d.0 (sym e)), apart-more xs p h.1 d.1)

owned-other : (own : ℕ → Option ℕ) (h q p : ℕ) → own q ≡ None → IsOwned own h p → p ≢ q
owned-other own h q p none w e = none-some h (sym none ∙ ap own (sym e) ∙ w.owner)

pub add-whole : (s v : PlainParts) (h q nr : ℕ) (x y : PlainHeap) → IsWhole s → heap_at s.heaps.items h ≡ Some x → x.standing ≡ Locked → GotPage x y q → owners_of v ≡ at (owners_of s) q (Some h)
    → heap_at v.heaps.items ≡ at (heap_at s.heaps.items) h (Some y) → length v.heaps.items ≤ 512 → q ≡ key_in Temp nr → (state_of s).taken q ≡ false → length x.objects.layout.items + 8 < 65536 → IsWhole v
add-whole s v h q nr x y k is st got own heaps long key free few =
    let owner : owners_of s q ≡ None = free-owner q (slot_at s.slots.items q) free in
    let w : IsKeptHeap (owners_of s) h x = k.kept.each h x is in
    let new : ℕ → Option ℕ = at (owners_of s) q (Some h) in
    let long_layout = ap length got.layout ∙ length-append x.objects.layout.items ([] ∷ []) in
    let long_pages = ap length got.pages ∙ length-append x.pages.items (q ∷ []) in
    let kept : IsKeptHeap new h y = record {
      number = w.number;
      request = let a = w.request in let b = got.request in omega arith;
      pages = subst (λ l. AllByRecursion (IsOwned new h) l) (sym got.pages)
          (all_more (IsOwned new h) x.pages.items q
          (all_map (IsOwned (owners_of s) h) (IsOwned new h) x.pages.items
          (λ p o. record { number = o.number; in_temp = o.in_temp; owner = at-other (owners_of s) q (Some h) p (owned-other (owners_of s) h q p owner o) ∙ o.owner }) w.pages)
          (record { number = nr; in_temp = key; owner = at-here (owners_of s) q (Some h) }));
      apart = subst (λ l. AreApart l) (sym got.pages)
          (apart-more x.pages.items q w.apart (all_map (IsOwned (owners_of s) h) (λ p. p ≢ q) x.pages.items (λ p o. owned-other (owners_of s) h q p owner o) w.pages));
      count = let c = w.count in omega arith;
      few = omega arith;
      holds = subst (λ z. Holds z (objects_in y.objects)) (sym (got.standing ∙ st))
          (subst (λ l. AreWellPlaced (record { layout = l; roots = y.objects.roots })) (sym got.layout)
          (subst (λ r. AreWellPlaced (record { layout = x.objects.layout.items ++ [] ∷ []; roots = r })) (sym got.roots)
          (well-more x.objects.layout.items x.objects.roots (subst (λ z. Holds z (objects_in x.objects)) st w.holds))));
    } in
    record {
      few = long;
      kept = subst (λ o. AreKept o (heap_at v.heaps.items)) (sym own)
          (subst (λ g. AreKept new g) (sym heaps)
          (kept-more (owners_of s) (heap_at s.heaps.items) h q x.pages.items y k.kept owner (had-some (owners_of s) (heap_at s.heaps.items) h x k.kept is) got.pages kept));
    }

-- the heap that a number was given, among the others
pub puts-heaps : (s t : PlainParts) (h : ℕ) (y : PlainHeap) → t ≡ record s { heaps = with_item s.heaps h (Some y) } → h < length s.heaps.items → heap_at t.heaps.items ≡ at (heap_at s.heaps.items) h (Some y)
puts-heaps s t h y e l = ap (λ (z : PlainParts). heap_at z.heaps.items) e ∙ heaps-set s.heaps.items h (Some y) l

pub puts-state : (s t : PlainParts) (h : ℕ) (y : PlainHeap) → t ≡ record s { heaps = with_item s.heaps h (Some y) } → h < length s.heaps.items → state_of t ≡ with_heap (state_of s) h (Some (heap_of y))
puts-state s t h y e l = ap state_of e ∙ state-put s h (Some y) l

pub puts-long : (s t : PlainParts) (h : ℕ) (y : PlainHeap) → t ≡ record s { heaps = with_item s.heaps h (Some y) } → length t.heaps.items ≡ length s.heaps.items
puts-long s t h y e = ap (λ (z : PlainParts). length z.heaps.items) e ∙ length-set s.heaps.items h (Some y)
