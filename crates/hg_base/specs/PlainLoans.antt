-- What a loan of a payload leaves of a plain space.
use Rattle.std.specs.Prelude.{◌≡◌, ℕ, ◌-◌, ◌<◌, zero, suc, List, [], ◌∷◌, length, flat_map, slice_get, slice_set, slice_index_or, Option, Some, None, IsSome, option_and_then, if◌then◌else◌}
use Rattle.std.proofs.Common.{sym, ◌∙◌, ap, subst, refl, arith, inl, inr}
use Rattle.std.proofs.lemmas.List.{length-set}
use Rattle.std.proofs.lemmas.Option.{none-some}
use Rattle.std.specs.Vec.{with_item}
use Rattle.hg_base.specs.Content.{Object, row_object, directory, placed}
use Rattle.hg_base.specs.HeapContent.{payload_of, with_payload, changed_by, changed_at, named_by, object_at}
use Rattle.hg_base.specs.HeapFacts.{AreWellPlaced}
use Rattle.hg_base.specs.HeapStates.{payload_in, after_bytes, of_locked}
use Rattle.hg_base.specs.Plain.{heap_at}
use Rattle.hg_base.specs.PlainEntries.{spill_at}
use Rattle.hg_base.specs.PlainEntryLaws.{spill-whole}
use Rattle.hg_base.specs.PlainObjects.{objects_in, frames_in, IsPlace, page_of, index_of, loaned, after_loan, payload_under}
use Rattle.hg_base.specs.PlainObjectLaws.{placed-at, changed-at, place-page, there-or, slice_get-past}
use Rattle.hg_base.specs.PlainShapes.{Layouts, spill_at-shapes, same-shapes, same-layouts, well-shapes}
use Rattle.hg_base.specs.PlainHeapFacts.{Holds}
use Rattle.hg_base.specs.PlainSpaces.{state_of, IsWhole}
use Rattle.hg_base.specs.PlainChanges.{LockedAt, payload-locked, standing-locked, state-objects, whole-objects}
use Rattle.hg_base.specs.PlainWell.{lt_cases}
use Rattle.hg_base.specs.declared.plain_heap.PlainHeap.{PlainHeap}
use Rattle.hg_base.specs.declared.plain_objects.HeapObjects.{HeapObjects}
use Rattle.hg_base.specs.declared.plain_parts.PlainParts.{PlainParts}

abbrev pub lent_by : PlainParts → ℕ → ℕ → Option PlainHeap → List ℕ → PlainParts
lent_by s h a None w = s
lent_by s h a (Some x) w = record s { heaps = with_item s.heaps h (Some (record x { objects = after_loan x.objects a w })) }

-- the parts once the last bytes behind a loan of a payload are known
abbrev pub after_payload_of : PlainParts → ℕ → ℕ → List ℕ → PlainParts
after_payload_of s h a w = lent_by s h a (heap_at s.heaps.items h) w

-- the object of a number stands at the place that the number tells
place-of : (layout : List (List Object)) (n : ℕ) (x : Object) → slice_get (flat_map (λ p. p) layout) n ≡ Some x → IsPlace layout (page_of layout n) (index_of layout n) n
place-of [] n x e = absurd (none-some x e)
place-of (p ∷ layout) n x e = elim (lt_cases n (length p)) [
  | inl h ↦ subst (λ b. IsPlace (p ∷ layout) (if b then 0 else suc (page_of layout (n - length p))) (if b then n else index_of layout (n - length p)) n) (sym h.1) (refl, h.0)
  | inr h ↦ subst (λ b. IsPlace (p ∷ layout) (if b then 0 else suc (page_of layout (n - length p))) (if b then n else index_of layout (n - length p)) n) (sym h.1)
      (h.0, place-of layout (n - length p) x (sym (slice_get-past p (flat_map (λ p. p) layout) n h.0) ∙ e))
]

record RowAt (o : Option Object) (b : List ℕ) : Type 0 where
  link : Option ℕ
  is : o ≡ Some (row_object b link)

row-at : (o : Option Object) (b : List ℕ) → option_and_then payload_of o ≡ Some b → RowAt o b
row-at None b e = absurd (none-some b e)
row-at (Some (row_object p l)) b e = let i : ◌≡◌ {A = Option (List ℕ)} (Some p) (Some b) = e in let same : p ≡ b = cc in record { link = l; is = ap (λ z. Some (row_object z l)) same }
row-at (Some (directory ls)) b e = absurd (none-some b e)

record There (layout : List (List Object)) (page : ℕ) : Type 0 where
  objects : List Object
  is : slice_get layout page ≡ Some objects

there-page : (layout : List (List Object)) (page : ℕ) → page < length layout → There layout page
there-page [] page h = absurd (omega arith)
there-page (p ∷ layout) zero h = record { objects = p; is = refl }
there-page (p ∷ layout) (suc page) h = let t : There layout page = there-page layout page (omega arith) in record { objects = t.objects; is = t.is }

loan-case : (s : HeapObjects) (o : Option ℕ) (b w : List ℕ) → option_and_then payload_of (option_and_then (λ n. slice_get (placed (objects_in s)) n) o) ≡ Some b → length w ≡ length b
    → objects_in (loaned s o w) ≡ changed_by (with_payload w) o (objects_in s)
loan-case s None b w e l = absurd (none-some b e)
loan-case s (Some n) b w e l =
    let layout : List (List Object) = s.layout.items in
    let r : RowAt (slice_get (placed (objects_in s)) n) b = row-at (slice_get (placed (objects_in s)) n) b e in
    let place : IsPlace layout (page_of layout n) (index_of layout n) n = place-of layout n (row_object b r.link) r.is in
    let t : There layout (page_of layout n) = there-page layout (page_of layout n) (place-page layout (page_of layout n) (index_of layout n) n place) in
    let row = sym (placed-at layout (page_of layout n) (index_of layout n) n t.objects place t.is) ∙ r.is in
    ap (λ p. record { layout = slice_set layout (page_of layout n) (spill_at w (index_of layout n) p); roots = s.roots }) (there-or layout (page_of layout n) t.objects [] t.is)
    ∙ ap (λ p. record { layout = slice_set layout (page_of layout n) p; roots = s.roots }) (spill-whole t.objects (index_of layout n) b w r.link row l)
    ∙ ap (λ p. record { layout = p; roots = s.roots }) (sym (changed-at (with_payload w) layout (page_of layout n) (index_of layout n) n t.objects place t.is))

loan-first : (s : HeapObjects) (o : Option ℕ) (w : List ℕ) → (loaned s o w).first ≡ s.first
loan-first s None w = refl
loan-first s (Some n) w = refl

loan-long : (s : HeapObjects) (o : Option ℕ) (w : List ℕ) → length (loaned s o w).layout.items ≡ length s.layout.items
loan-long s None w = refl
loan-long s (Some n) w = length-set s.layout.items (page_of s.layout.items n) (spill_at w (index_of s.layout.items n) (slice_index_or s.layout.items (page_of s.layout.items n) []))

set-same : (layout : List (List Object)) (page : ℕ) (w : List ℕ) (i : ℕ) → Layouts layout (slice_set layout page (spill_at w i (slice_index_or layout page [])))
set-same [] page w i = tt
set-same (p ∷ layout) zero w i = (spill_at-shapes w i p, same-layouts layout)
set-same (p ∷ layout) (suc page) w i = (same-shapes p, set-same layout page w i)

loan-well : (s : HeapObjects) (o : Option ℕ) (w : List ℕ) → AreWellPlaced (objects_in s) → AreWellPlaced (objects_in (loaned s o w))
loan-well s None w h = h
loan-well s (Some n) w h = well-shapes s.layout.items (slice_set s.layout.items (page_of s.layout.items n) (spill_at w (index_of s.layout.items n) (slice_index_or s.layout.items (page_of s.layout.items n) []))) s.roots
    (set-same s.layout.items (page_of s.layout.items n) w (index_of s.layout.items n)) h

-- a loan of a payload writes it, as many bytes as before
pub writes_payload_of : (s : PlainParts) (h a : ℕ) (b w : List ℕ) → payload_in (state_of s) h a ≡ Some b → length w ≡ length b → state_of (after_payload_of s h a w) ≡ after_bytes (state_of s) h a w
writes_payload_of s h a b w e l =
    let k : LockedAt s h = payload-locked s h a (subst (λ o. IsSome o) (sym e) refl) in
    let x : PlainHeap = k.heap in
    let under : payload_under x.objects a ≡ Some b = sym (ap (λ st. option_and_then payload_of (of_locked (λ o frames. object_at o frames a) st)) (standing-locked s h x k.is k.locked)) ∙ e in
    let n : Option ℕ = named_by (objects_in x.objects) (frames_in x.objects) a in
    ap (λ o. state_of (lent_by s h a o w)) k.is
    ∙ state-objects s h x (after_loan x.objects a w) (λ o frames. changed_at (with_payload w) frames a o) k.is k.locked (loan-case x.objects n b w under l) (loan-first x.objects n w) (loan-long x.objects n w)

-- and whatever it writes, the heaps are kept
pub loan-whole : (s : PlainParts) (h a : ℕ) (w : List ℕ) → IsWhole s → IsSome (payload_in (state_of s) h a) → IsWhole (after_payload_of s h a w)
loan-whole s h a w k e =
    let c : LockedAt s h = payload-locked s h a e in
    let x : PlainHeap = c.heap in
    let n : Option ℕ = named_by (objects_in x.objects) (frames_in x.objects) a in
    subst (λ o. IsWhole (lent_by s h a o w)) (sym c.is)
    (whole-objects s h x (after_loan x.objects a w) k c.is c.locked (loan-long x.objects n w)
    (loan-well x.objects n w (subst (λ z. Holds z (objects_in x.objects)) c.locked (k.kept.each h x c.is).holds)))
