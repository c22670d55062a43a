-- What it is that a heap goes.
use Rattle.std.specs.Prelude.{◌≡◌, ◌≢◌, ℕ, ◌<◌, ◌==◌, ◌&&◌, Bool, true, false, List, [], ◌∷◌, length, slice_set, Option, None, Some, if◌then◌else◌}
use Rattle.std.proofs.Common.{sym, ◌∙◌, ap, subst, refl, arith, inl, inr}
use Rattle.std.specs.List.{AllByRecursion}
use Rattle.std.proofs.lemmas.Bool.{false≢true, cases_eq}
use Rattle.std.proofs.lemmas.Option.{none-some}
use Rattle.std.proofs.lemmas.List.{length-set}
use Rattle.hg_base.specs.Content.{Heap}
use Rattle.hg_base.specs.HeapStates.{with_heap, without_heap_page, without_heap_pages}
use Rattle.hg_base.specs.LineLaws.{has_cases, all_both}
use Rattle.hg_base.specs.Lines.{has_page, AreApart}
use Rattle.hg_base.specs.Space.{Space, at}
use Rattle.hg_base.specs.Plain.{slot_at, empty_slot, is_key, is_plain, if_owned, owner_of}
use Rattle.hg_base.specs.PlainHeapFacts.{IsOwned, Holds, IsKeptHeap, AreKept, Drained}
use Rattle.hg_base.specs.PlainObjects.{objects_in}
use Rattle.hg_base.specs.PlainLaws.{slots-set, slot-in, and-false}
use Rattle.hg_base.specs.PlainTables.{IsClearable, cleared}
use Rattle.hg_base.specs.declared.plain_heap.PlainHeap.{PlainHeap}
use Rattle.hg_base.specs.declared.plain_parts.Slot.{Slot}
use Rattle.hg_base.specs.PlainKept.{at-here, at-other, kept-change, had-some, some-heap}

-- the slots of pages that are cleared
clear-other : (slots : List Slot) (p q : ℕ) → p < length slots → IsClearable slots q → IsClearable (slice_set slots p empty_slot) q
clear-other slots p q l h =
    let n : length (slice_set slots p empty_slot) ≡ length slots = length-set slots p empty_slot in
    let f = ap (λ g. g q) (slots-set slots p empty_slot l) in (
      let k : q < length slots = h.0 in omega arith,
      elim (cases_eq q p) as (λ _. is_plain q (slot_at (slice_set slots p empty_slot) q) ≡ false) [
        | inl same ↦ ap (is_plain q) (f ∙ ap (at (slot_at slots) p empty_slot) same ∙ at-here (slot_at slots) p empty_slot) ∙ and-false (is_key q)
        | inr other ↦ ap (is_plain q) (f ∙ at-other (slot_at slots) p empty_slot q other) ∙ h.1
      ],
    )

pub clear-others : (slots : List Slot) (p : ℕ) (pages : List ℕ) → p < length slots → AllByRecursion (IsClearable slots) pages → AllByRecursion (IsClearable (slice_set slots p empty_slot)) pages
clear-others slots p [] l h = tt
clear-others slots p (q ∷ pages) l h = (clear-other slots p q l h.0, clear-others slots p pages l h.1)

owned-not_plain : (k : Bool) (o : Option ℕ) (t : Bool) (h : ℕ) → (if k then o else None) ≡ Some h → ((k && if_owned o true t) ≡ true) × ((k && if_owned o false t) ≡ false)
owned-not_plain true None t h e = absurd (none-some h e)
owned-not_plain true (Some x) t h e = (refl, refl)
owned-not_plain false o t h e = absurd (none-some h e)

-- a page of a heap can be cleared
pub owned-clear : (slots : List Slot) (q h : ℕ) → owner_of q (slot_at slots q) ≡ Some h → IsClearable slots q
owned-clear slots q h e =
    let b = owned-not_plain (is_key q) (slot_at slots q).heap (length (slot_at slots q).page == 4096) h e in
    (slot-in slots q b.0, b.1)

pub all-clear : (slots : List Slot) (h : ℕ) (pages : List ℕ) → AllByRecursion (IsOwned (λ q. owner_of q (slot_at slots q)) h) pages → AllByRecursion (IsClearable slots) pages
all-clear slots h [] w = tt
all-clear slots h (q ∷ pages) w = (owned-clear slots q h w.0.owner, all-clear slots h pages w.1)

-- a heap that goes before its pages do
pub heap-first : (s : Space) (h : ℕ) (o : Option Heap) (pages : List ℕ) → without_heap_pages (with_heap s h o) pages ≡ with_heap (without_heap_pages s pages) h o
heap-first s h o [] = refl
heap-first s h o (p ∷ pages) = heap-first (without_heap_page s p) h o pages

-- Whose page each is once pages were cleared.
cleared-stays : (own : ℕ → Option ℕ) (pages : List ℕ) (q : ℕ) → own q ≡ None → cleared own pages q ≡ None
cleared-stays own [] q e = e
cleared-stays own (p ∷ pages) q e = cleared-stays (at own p None) pages q (elim (cases_eq q p) as (λ _. at own p None q ≡ None) [
  | inl same ↦ ap (at own p None) same ∙ at-here own p None
  | inr other ↦ at-other own p None q other ∙ e
])

cleared-none : (own : ℕ → Option ℕ) (pages : List ℕ) (q : ℕ) → has_page pages q ≡ true → cleared own pages q ≡ None
cleared-none own [] q h = absurd (false≢true h)
cleared-none own (p ∷ pages) q h = has_cases p q pages (cleared (at own p None) pages q ≡ None) h
    (λ same. cleared-stays (at own p None) pages q (ap (at own p None) (sym same) ∙ at-here own p None))
    (λ other rest. cleared-none (at own p None) pages q rest)

cleared-back : (own : ℕ → Option ℕ) (pages : List ℕ) (q k : ℕ) → cleared own pages q ≡ Some k → own q ≡ Some k
cleared-back own [] q k e = e
cleared-back own (p ∷ pages) q k e =
    let r : at own p None q ≡ Some k = cleared-back (at own p None) pages q k e in
    elim (cases_eq q p) as (λ _. own q ≡ Some k) [
      | inl same ↦ absurd (none-some k (sym (ap (at own p None) same ∙ at-here own p None) ∙ r))
      | inr other ↦ sym (at-other own p None q other) ∙ r
    ]

-- pages of one heap at most
abbrev pub AtMost : (ℕ → Option ℕ) → ℕ → ℕ → Type 0
AtMost own h p = (k : ℕ) → own p ≡ Some k → k ≡ h

most-after : (own : ℕ → Option ℕ) (h p q : ℕ) → AtMost own h q → AtMost (at own p None) h q
most-after own h p q m k e = elim (cases_eq q p) as (λ _. k ≡ h) [
  | inl same ↦ absurd (none-some k (sym (ap (at own p None) same ∙ at-here own p None) ∙ e))
  | inr other ↦ m k (sym (at-other own p None q other) ∙ e)
]

all-most : (own : ℕ → Option ℕ) (h p : ℕ) (pages : List ℕ) → AllByRecursion (AtMost own h) pages → AllByRecursion (AtMost (at own p None) h) pages
all-most own h p [] m = tt
all-most own h p (q ∷ pages) m = (most-after own h p q m.0, all-most own h p pages m.1)

cleared-forth : (own : ℕ → Option ℕ) (h : ℕ) (pages : List ℕ) (q k : ℕ) → AllByRecursion (AtMost own h) pages → k ≢ h → own q ≡ Some k → cleared own pages q ≡ Some k
cleared-forth own h [] q k m d e = e
cleared-forth own h (p ∷ pages) q k m d e = elim (cases_eq q p) as (λ _. cleared (at own p None) pages q ≡ Some k) [
  | inl same ↦ absurd (d (m.0 k (ap own (sym same) ∙ e)))
  | inr other ↦ cleared-forth (at own p None) h pages q k (all-most own h p pages m.1) d (at-other own p None q other ∙ e)
]

owned-most : (own : ℕ → Option ℕ) (h : ℕ) (pages : List ℕ) → AllByRecursion (IsOwned own h) pages → AllByRecursion (AtMost own h) pages
owned-most own h [] w = tt
owned-most own h (p ∷ pages) w = ((λ k e. let a : ◌≡◌ {A = Option ℕ} (Some k) (Some h) = sym e ∙ w.0.owner in cc), owned-most own h pages w.1)

-- a heap that goes with its pages
pub kept-drop : (own : ℕ → Option ℕ) (g : ℕ → Option PlainHeap) (h : ℕ) (x : PlainHeap) → AreKept own g → g h ≡ Some x → AreKept (cleared own x.pages.items) (at g h None)
kept-drop own g h x k is =
    let w : IsKeptHeap own h x = k.each h x is in
    kept-change own (cleared own x.pages.items) g h None k
    (record {
      forth = λ q n d e. cleared-forth own h x.pages.items q n (owned-most own h x.pages.items w.pages) d e;
      back = λ q n d e. cleared-back own x.pages.items q n e;
    })
    (λ z e. absurd (none-some z e))
    (λ q e. absurd (none-some h (sym (cleared-none own x.pages.items q (had-some own g h x k is q (cleared-back own x.pages.items q h e))) ∙ e)))

-- a heap whose first page goes
pub kept-first : (own : ℕ → Option ℕ) (g : ℕ → Option PlainHeap) (h p : ℕ) (x y : PlainHeap) → AreKept own g → g h ≡ Some x → x.pages.items ≡ p ∷ y.pages.items → IsKeptHeap (at own p None) h y
    → AreKept (at own p None) (at g h (Some y))
kept-first own g h p x y k is pages new =
    let w : IsKeptHeap own h x = k.each h x is in
    let owned : AllByRecursion (IsOwned own h) (p ∷ y.pages.items) = subst (λ l. AllByRecursion (IsOwned own h) l) pages w.pages in
    let most : AllByRecursion (AtMost own h) (p ∷ []) = ((owned-most own h (p ∷ y.pages.items) owned).0, tt) in
    kept-change own (at own p None) g h (Some y) k
    (record {
      forth = λ q n d e. cleared-forth own h (p ∷ []) q n most d e;
      back = λ q n d e. cleared-back own (p ∷ []) q n e;
    })
    (λ z e. subst (λ v. IsKeptHeap (at own p None) h v) (some-heap y z e) new)
    (λ q e.
    let had : has_page (p ∷ y.pages.items) q ≡ true = ap (λ l. has_page l q) (sym pages) ∙ had-some own g h x k is q (cleared-back own (p ∷ []) q h e) in
    record {
      heap = y;
      is = at-here g h (Some y);
      among = has_cases p q y.pages.items (has_page y.pages.items q ≡ true) had
          (λ same. absurd (none-some h (sym (ap (at own p None) (sym same) ∙ at-here own p None) ∙ e)))
          (λ other rest. rest);
    })

pub first-kept : (own : ℕ → Option ℕ) (h p : ℕ) (x y : PlainHeap) (out : List ℕ) → IsKeptHeap own h x → Drained x y p out → Holds y.standing (objects_in y.objects) → IsKeptHeap (at own p None) h y
first-kept own h p x y out w d holds =
    let owned : AllByRecursion (IsOwned own h) (p ∷ y.pages.items) = subst (λ l. AllByRecursion (IsOwned own h) l) d.pages w.pages in
    let apart : AreApart (p ∷ y.pages.items) = subst (λ l. AreApart l) d.pages w.apart in
    let many = ap length d.pages in
    let long = ap length d.layout.pages in
    let c = w.count in
    let f = w.few in
    record {
      number = w.number;
      request = let a = w.request in let b = d.request in omega arith;
      pages = all_both (IsOwned own h) (λ q. q ≢ p) (IsOwned (at own p None) h) y.pages.items
          (λ q o other. record { number = o.number; in_temp = o.in_temp; owner = at-other own p None q other ∙ o.owner }) owned.1 apart.0;
      apart = apart.1;
      count = omega arith;
      few = omega arith;
      holds = holds;
    }
