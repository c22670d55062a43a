-- Sums over the heaps of a space.
use Rattle.std.specs.Prelude.{◌≡◌, ℕ, ◌+◌, ◌-◌, ◌<◌, ◌≤◌, zero, suc, List, [], ◌∷◌, length, slice_index_or, Option, None, Some, option_map}
use Rattle.std.proofs.Common.{sym, ◌∙◌, ap, refl, arith, add-zero, inl, inr}
use Rattle.std.proofs.lemmas.Bool.{cases_eq}
use Rattle.std.proofs.Math.ListN.{get_or-eq_default}
use Rattle.hg_base.specs.HeapStates.{sum_below, one_heap, pages_for}
use Rattle.hg_base.specs.Plain.{heap_of, heap_at}
use Rattle.hg_base.specs.declared.plain_heap.PlainHeap.{PlainHeap}

pub sum-zero : (f : ℕ → ℕ) → sum_below f 0 ≡ 0
unfolding sum_below
sum-zero f = refl

pub sum-suc : (f : ℕ → ℕ) (n : ℕ) → sum_below f (suc n) ≡ f n + sum_below f n
unfolding sum_below
sum-suc f n = refl

pub sum-more : (f : ℕ → ℕ) (n : ℕ) → sum_below f (n + 1) ≡ f n + sum_below f n
sum-more f n = ap (sum_below f) (let e : n + 1 ≡ suc n = omega arith in e) ∙ sum-suc f n

pub sum-le : (f : ℕ → ℕ) (n k : ℕ) → sum_below f n ≤ sum_below f (n + k)
sum-le f n zero = let e : n + 0 ≡ n = add-zero n in let i = ap (sum_below f) e in omega arith
sum-le f n (suc k) =
    let e : n + suc k ≡ suc (n + k) = omega arith in
    let i = ap (sum_below f) e ∙ sum-suc f (n + k) in
    let l = sum-le f n k in omega arith

-- nothing is added where all that follows is nothing
pub sum-rest : (f : ℕ → ℕ) (n k : ℕ) → ((m : ℕ) → n ≤ m → f m ≡ 0) → sum_below f (n + k) ≡ sum_below f n
sum-rest f n zero none = ap (sum_below f) (add-zero n)
sum-rest f n (suc k) none =
    let e : n + suc k ≡ suc (n + k) = omega arith in
    let i = ap (sum_below f) e ∙ sum-suc f (n + k) in
    let z = none (n + k) (omega arith) in
    let l = sum-rest f n k none in omega arith

-- one term is no more than the sum
pub sum-term : (f : ℕ → ℕ) (n h : ℕ) → h < n → f h ≤ sum_below f n
sum-term f zero h l = absurd (omega arith)
sum-term f (suc n) h l = elim (cases_eq h n) [
  | inl e ↦ (let i = ap f e in let s = sum-suc f n in omega arith)
  | inr d ↦ (let r = sum-term f n h (omega arith) in let s = sum-suc f n in omega arith)
]

-- a number that no heap has had
pub none-behind : (heaps : List (Option PlainHeap)) (h : ℕ) → length heaps ≤ h → heap_at heaps h ≡ None
none-behind heaps h l = get_or-eq_default heaps None l

some-counts : (o : Option PlainHeap) (x : PlainHeap) → o ≡ Some x → one_heap (option_map heap_of o) ≡ 1
some-counts o x e = ap (λ p. one_heap (option_map heap_of p)) e

-- one heap more is counted
pub count-step : (heaps : List (Option PlainHeap)) (n : ℕ) (x : PlainHeap) → heap_at heaps n ≡ Some x → sum_below (λ h. one_heap (option_map heap_of (heap_at heaps h))) n ≡ n
    → sum_below (λ h. one_heap (option_map heap_of (heap_at heaps h))) (n + 1) ≡ n + 1
count-step heaps n x e s =
    let m = sum-more (λ h. one_heap (option_map heap_of (heap_at heaps h))) n in
    let o = some-counts (heap_at heaps n) x e in omega arith

-- with fewer than 512 heaps not all numbers are used
pub count-few : (f : ℕ → ℕ) (n : ℕ) → n ≤ 512 → sum_below f n ≡ n → sum_below f 512 < 512 → n < 512
count-few f n l s few =
    let k : ℕ = 512 - n in
    let e : n + k ≡ 512 = omega arith in
    let i = ap (sum_below f) e in
    let g = sum-le f n k in omega arith

-- what the heaps hold for a request
pub held-all : (heaps : List (Option PlainHeap)) (r n : ℕ) → n ≡ length heaps → n ≤ 512
    → sum_below (λ h. pages_for r (option_map heap_of (heap_at heaps h))) 512 ≡ sum_below (λ h. pages_for r (option_map heap_of (heap_at heaps h))) n
held-all heaps r n e l =
    let k : ℕ = 512 - n in
    let s : n + k ≡ 512 = omega arith in
    ap (sum_below (λ h. pages_for r (option_map heap_of (heap_at heaps h)))) (sym s)
    ∙ sum-rest (λ h. pages_for r (option_map heap_of (heap_at heaps h))) n k
    (λ m b. ap (λ o. pages_for r (option_map heap_of o)) (none-behind heaps m (omega arith)))

get_or-same : {X : Type 0} (xs : List X) (n : ℕ) (x y : X) → n < length xs → slice_index_or xs n x ≡ slice_index_or xs n y
get_or-same [] n x y l = absurd (omega arith)
get_or-same (z ∷ xs) zero x y l = refl
get_or-same (z ∷ xs) (suc n) x y l = get_or-same xs n x y (omega arith)

-- the heap that is read at a number
pub read-heap : (heaps : List (Option PlainHeap)) (n : ℕ) (x : Option PlainHeap) → n < length heaps → x ≡ slice_index_or heaps n x → x ≡ heap_at heaps n
read-heap heaps n x l e = e ∙ get_or-same heaps n x None l
