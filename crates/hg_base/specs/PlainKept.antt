-- What keeps the heaps of a plain space as they must be.
use Rattle.std.specs.Prelude.{◌≡◌, ◌≢◌, ℕ, zero, suc, ◌<◌, ◌==◌, ◌||◌, Bool, true, false, List, [], ◌∷◌, ◌++◌, length, Option, None, Some, option_map, if◌then◌else◌, slice_set}
use Rattle.std.proofs.Common.{sym, ◌∙◌, ap, subst, refl, arith, inl, inr}
use Rattle.std.proofs.lemmas.List.{length-set}
use Rattle.std.proofs.lemmas.Bool.{cases_eq, eq-eqb, ne_eqb, false≢true}
use Rattle.std.proofs.lemmas.Option.{none-some}
use Rattle.std.specs.Vec.{with_item}
use Rattle.hg_base.specs.Content.{Heap}
use Rattle.hg_base.specs.Lines.{has_page}
use Rattle.hg_base.specs.LineLaws.{all_map}
use Rattle.hg_base.specs.Space.{Space, at}
use Rattle.hg_base.specs.HeapStates.{with_heap}
use Rattle.hg_base.specs.Changes.{items-set, after-at, at-same}
use Rattle.hg_base.specs.Plain.{shown, shown_heaps, slot_at, heap_of, heap_at}
use Rattle.hg_base.specs.PlainHeapFacts.{IsOwned, IsKeptHeap, IsOwner, AreKept}
use Rattle.hg_base.specs.PlainSpaces.{state_of, counts_of, owners_of, IsWhole}
use Rattle.hg_base.specs.declared.plain_heap.PlainHeap.{PlainHeap}
use Rattle.hg_base.specs.declared.plain_parts.PlainParts.{PlainParts}

pub at-here : {X : Type 0} (f : ℕ → X) (p : ℕ) (x : X) → at f p x p ≡ x
at-here f p x = ap (λ b. if b then x else f p) (eq-eqb p p refl)

pub at-other : {X : Type 0} (f : ℕ → X) (p : ℕ) (x : X) (q : ℕ) → q ≢ p → at f p x q ≡ f q
at-other f p x q d = ap (λ b. if b then x else f q) (ne_eqb q p d)

-- the pages of all heaps but one have the owner that they had
pub record OthersSame (own new : ℕ → Option ℕ) (h : ℕ) : Type 0 where
  pub forth : (q k : ℕ) → k ≢ h → own q ≡ Some k → new q ≡ Some k
  pub back : (q k : ℕ) → k ≢ h → new q ≡ Some k → own q ≡ Some k

-- a change of one heap and of its pages
pub kept-change : (own new : ℕ → Option ℕ) (g : ℕ → Option PlainHeap) (h : ℕ) (o : Option PlainHeap) → AreKept own g → OthersSame own new h
    → ((x : PlainHeap) → o ≡ Some x → IsKeptHeap new h x) → ((q : ℕ) → new q ≡ Some h → IsOwner (at g h o) q h) → AreKept new (at g h o)
kept-change own new g h o k others mine pages = record {
  each = λ n x e. elim (cases_eq n h) as (λ _. IsKeptHeap new n x) [
    | inl same ↦ subst (λ m. IsKeptHeap new m x) (sym same) (mine x (sym (at-here g h o) ∙ ap (at g h o) (sym same) ∙ e))
    | inr other ↦ (let y : IsKeptHeap own n x = k.each n x (sym (at-other g h o n other) ∙ e) in record {
      number = y.number;
      request = y.request;
      pages = all_map (IsOwned own n) (IsOwned new n) x.pages.items (λ q w. record { number = w.number; in_temp = w.in_temp; owner = others.forth q n other w.owner }) y.pages;
      apart = y.apart;
      count = y.count;
      few = y.few;
      holds = y.holds;
    })
  ];
  owners = λ q n e. elim (cases_eq n h) as (λ _. IsOwner (at g h o) q n) [
    | inl same ↦ subst (λ m. IsOwner (at g h o) q m) (sym same) (pages q (e ∙ ap Some same))
    | inr other ↦ (let w : IsOwner g q n = k.owners q n (others.back q n other e) in record { heap = w.heap; is = at-other g h o n other ∙ w.is; among = w.among })
  ];
}

pub others-all : (own : ℕ → Option ℕ) (h : ℕ) → OthersSame own own h
others-all own h = record { forth = λ q k d e. e; back = λ q k d e. e }

pub some-heap : (x y : PlainHeap) → ◌≡◌ {A = Option PlainHeap} (Some x) (Some y) → x ≡ y
some-heap x y e = cc

-- a heap that has the pages that it had
pub kept-same : (own : ℕ → Option ℕ) (g : ℕ → Option PlainHeap) (h : ℕ) (x y : PlainHeap) → AreKept own g → g h ≡ Some x → y.pages.items ≡ x.pages.items → IsKeptHeap own h y → AreKept own (at g h (Some y))
kept-same own g h x y k is pages new = kept-change own own g h (Some y) k (others-all own h)
    (λ z e. subst (λ w. IsKeptHeap own h w) (some-heap y z e) new)
    (λ q e. let w : IsOwner g q h = k.owners q h e in record {
      heap = y;
      is = at-here g h (Some y);
      among = ap (λ l. has_page l q) (pages ∙ ap (λ (z : PlainHeap). z.pages.items) (some-heap x w.heap (sym is ∙ w.is))) ∙ w.among;
    })

pub some-number : (x y : ℕ) → ◌≡◌ {A = Option ℕ} (Some x) (Some y) → x ≡ y
some-number x y e = cc

-- one page more of a heap's own, which had no owner
others-owned : (own : ℕ → Option ℕ) (p h : ℕ) → own p ≡ None → OthersSame own (at own p (Some h)) h
others-owned own p h none = record {
  forth = λ q k d e. elim (cases_eq q p) as (λ _. at own p (Some h) q ≡ Some k) [
    | inl same ↦ absurd (none-some k (sym none ∙ ap own (sym same) ∙ e))
    | inr other ↦ at-other own p (Some h) q other ∙ e
  ];
  back = λ q k d e. elim (cases_eq q p) as (λ _. own q ≡ Some k) [
    | inl same ↦ absurd (d (sym (some-number h k (sym (at-here own p (Some h)) ∙ ap (at own p (Some h)) (sym same) ∙ e))))
    | inr other ↦ sym (at-other own p (Some h) q other) ∙ e
  ];
}

or-true : (b : Bool) → (b || true) ≡ true
or-true true = refl
or-true false = refl

has-last : (xs : List ℕ) (p : ℕ) → has_page (xs ++ p ∷ []) p ≡ true
has-last [] p = ap (λ b. b || false) (eq-eqb p p refl)
has-last (x ∷ xs) p = ap (λ b. (x == p) || b) (has-last xs p) ∙ or-true (x == p)

has-front : (xs : List ℕ) (p q : ℕ) → has_page xs q ≡ true → has_page (xs ++ p ∷ []) q ≡ true
has-front [] p q h = absurd (false≢true h)
has-front (x ∷ xs) p q h = elim (x == q) as (λ b. (b || has_page xs q) ≡ true → (b || has_page (xs ++ p ∷ []) q) ≡ true) [
  | true ↦ λ e. e
  | false ↦ λ e. has-front xs p q e
] h

-- a heap that is made, or gets a page: behind those that it had
pub kept-more : (own : ℕ → Option ℕ) (g : ℕ → Option PlainHeap) (h p : ℕ) (before : List ℕ) (y : PlainHeap) → AreKept own g → own p ≡ None
    → ((q : ℕ) → own q ≡ Some h → has_page before q ≡ true) → y.pages.items ≡ before ++ p ∷ [] → IsKeptHeap (at own p (Some h)) h y
    → AreKept (at own p (Some h)) (at g h (Some y))
kept-more own g h p before y k none had pages new = kept-change own (at own p (Some h)) g h (Some y) k (others-owned own p h none)
    (λ z e. subst (λ w. IsKeptHeap (at own p (Some h)) h w) (some-heap y z e) new)
    (λ q e. record {
      heap = y;
      is = at-here g h (Some y);
      among = ap (λ l. has_page l q) pages ∙ elim (cases_eq q p) as (λ _. has_page (before ++ p ∷ []) q ≡ true) [
        | inl same ↦ ap (has_page (before ++ p ∷ [])) same ∙ has-last before p
        | inr other ↦ has-front before p q (had q (sym (at-other own p (Some h) q other) ∙ e))
      ];
    })

-- the pages of a heap that is there; none where there is none
pub had-some : (own : ℕ → Option ℕ) (g : ℕ → Option PlainHeap) (h : ℕ) (x : PlainHeap) → AreKept own g → g h ≡ Some x → (q : ℕ) → own q ≡ Some h → has_page x.pages.items q ≡ true
had-some own g h x k is q e = let w : IsOwner g q h = k.owners q h e in ap (λ (z : PlainHeap). has_page z.pages.items q) (some-heap x w.heap (sym is ∙ w.is)) ∙ w.among

pub had-none : (own : ℕ → Option ℕ) (g : ℕ → Option PlainHeap) (h : ℕ) → AreKept own g → g h ≡ None → (q : ℕ) → own q ≡ Some h → has_page [] q ≡ true
had-none own g h k is q e = let w : IsOwner g q h = k.owners q h e in absurd (none-some w.heap (sym is ∙ w.is))

-- A heap at a number, as the space shows it.
pub heaps-set : (heaps : List (Option PlainHeap)) (h : ℕ) (o : Option PlainHeap) → h < length heaps → heap_at (slice_set heaps h o) ≡ at (heap_at heaps) h o
heaps-set heaps h o l = items-set heaps h o None l

pub state-put : (s : PlainParts) (h : ℕ) (o : Option PlainHeap) → h < length s.heaps.items
    → state_of (record s { heaps = with_item s.heaps h o }) ≡ with_heap (state_of s) h (option_map heap_of o)
state-put s h o l =
    ap (λ g. shown (slot_at s.slots.items) s.pins (counts_of s) (shown_heaps g s.caps s.peaks)) (heaps-set s.heaps.items h o l)
    ∙ ap (λ k. shown (slot_at s.slots.items) s.pins (counts_of s) (record (shown_heaps (heap_at s.heaps.items) s.caps s.peaks) { heap = k }))
    (after-at (λ _ x. option_map heap_of x) (heap_at s.heaps.items) h o)

pub whole-put : (s : PlainParts) (h : ℕ) (x y : PlainHeap) → IsWhole s → h < length s.heaps.items → heap_at s.heaps.items h ≡ Some x → y.pages.items ≡ x.pages.items → IsKeptHeap (owners_of s) h y
    → IsWhole (record s { heaps = with_item s.heaps h (Some y) })
whole-put s h x y w l is pages new = record {
  few = let e : length (slice_set s.heaps.items h (Some y)) ≡ length s.heaps.items = length-set s.heaps.items h (Some y) in let f = w.few in omega arith;
  kept = subst (λ g. AreKept (owners_of s) g) (sym (heaps-set s.heaps.items h (Some y) l)) (kept-same (owners_of s) (heap_at s.heaps.items) h x y w.kept is pages new);
}

-- a heap that is there has a place
pub there-in : (heaps : List (Option PlainHeap)) (h : ℕ) (x : PlainHeap) → heap_at heaps h ≡ Some x → h < length heaps
there-in [] h x e = absurd (none-some x e)
there-in (y ∷ heaps) zero x e = omega arith
there-in (y ∷ heaps) (suc h) x e = let l : h < length heaps = there-in heaps h x e in omega arith

-- the heap that is there already
pub with-same : (s : Space) (h : ℕ) (x : Heap) → s.heaps.heap h ≡ Some x → with_heap s h (Some x) ≡ s
with-same s h x e = ap (λ f. record s { heaps = record s.heaps { heap = f } }) (at-same s.heaps.heap h (Some x) e)
