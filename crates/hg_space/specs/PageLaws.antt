-- Laws of page maps: when two of them are one, and how a change changes the count of used pages.
use Rattle.std.specs.Prelude.{◌≡◌, ◌≢◌, ℕ, zero, suc, ◌+◌, ◌<◌, ◌≤◌, true, false, if◌then◌else◌}
use Rattle.std.proofs.Common.{◌∙◌, ap, refl, arith, inl, inr}
use Rattle.std.proofs.lemmas.Bool.Decides.{eqb_tells, nat_tests}
use Rattle.hg_base.specs.Space.{at}
use Rattle.hg_space.specs.PageMap.{PageMap, count_below, IsUnused, with_page, without_page}

-- two maps that agree in each page are one
pub maps_agree : (a b : PageMap) → a.limit ≡ b.limit → ((n : ℕ) → a.used n ≡ b.used n) → ((n : ℕ) → a.next n ≡ b.next n) → a ≡ b
maps_agree a b limit used next = λ i. record { limit = limit i; used = λ n. used n i; next = λ n. next n i }

pub at-here : {X : Type 0} (f : ℕ → X) (p : ℕ) (x : X) → at f p x p ≡ x
at-here f p x = grind (arith, nat_tests)

pub at-other : {X : Type 0} (f : ℕ → X) (p : ℕ) (x : X) (q : ℕ) → q ≢ p → at f p x q ≡ f q
at-other f p x q h = grind (arith, nat_tests)

-- no more pages are used below a number than that number
pub count_below-le : (m : PageMap) (n : ℕ) → count_below m n ≤ n
count_below-le m zero = omega arith
count_below-le m (suc n) =
    elim (m.used n) as (λ b. (if b then 1 else 0) + count_below m n ≤ suc n) [
      | true ↦ omega (arith, count_below-le m n)
      | false ↦ omega (arith, count_below-le m n)
    ]

-- the count reads which pages are used, and no more
pub count_below-same : (a b : PageMap) (n : ℕ) → ((k : ℕ) → k < n → a.used k ≡ b.used k) → count_below a n ≡ count_below b n
count_below-same a b zero h = refl
count_below-same a b (suc n) h =
    ap (λ u. (if u then 1 else 0) + count_below a n) (h n (omega arith))
    ∙ ap (λ k. (if b.used n then 1 else 0) + k) (count_below-same a b n (λ k l. h k (omega arith)))

-- where none is used the count is 0
pub count_below-unused : (m : PageMap) (n : ℕ) → IsUnused m → count_below m n ≡ 0
count_below-unused m zero h = refl
count_below-unused m (suc n) h = ap (λ u. (if u then 1 else 0) + count_below m n) (h n) ∙ (omega (arith, count_below-unused m n h))

-- a page that is used newly counts one
pub count_below-with : (m : PageMap) (n page : ℕ) → page < n → m.used page ≡ false → count_below (with_page m page) n ≡ count_below m n + 1
count_below-with m zero page l free = absurd (omega arith)
count_below-with m (suc n) page l free = elim (eqb_tells n page) [
  | inl w ↦
      let rest : count_below (with_page m page) n ≡ count_below m n =
      count_below-same (with_page m page) m n (λ k less. at-other m.used page true k (λ e. absurd (let z : n ≡ page = w.1 in omega arith))) in
      let here : at m.used page true n ≡ true = ap (at m.used page true) w.1 ∙ at-here m.used page true in
      let was : m.used n ≡ false = ap m.used w.1 ∙ free in
      rw (here, was, rest) (omega arith)
  | inr w ↦
      let there : at m.used page true n ≡ m.used n = at-other m.used page true n w.1 in
      let rest : count_below (with_page m page) n ≡ count_below m n + 1 = count_below-with m n page (let z : n ≢ page = w.1 in omega arith) free in
      rw (there, rest) (omega arith)
]

-- a page that is given back counts one less
pub count_below-without : (m : PageMap) (n page : ℕ) → page < n → m.used page ≡ true → count_below (without_page m page) n + 1 ≡ count_below m n
count_below-without m zero page l used = absurd (omega arith)
count_below-without m (suc n) page l used = elim (eqb_tells n page) [
  | inl w ↦
      let rest : count_below (without_page m page) n ≡ count_below m n =
      count_below-same (without_page m page) m n (λ k less. at-other m.used page false k (λ e. absurd (let z : n ≡ page = w.1 in omega arith))) in
      let here : at m.used page false n ≡ false = ap (at m.used page false) w.1 ∙ at-here m.used page false in
      let was : m.used n ≡ true = ap m.used w.1 ∙ used in
      rw (here, was, rest) (omega arith)
  | inr w ↦
      let there : at m.used page false n ≡ m.used n = at-other m.used page false n w.1 in
      let rest : count_below (without_page m page) n + 1 ≡ count_below m n = count_below-without m n page (let z : n ≢ page = w.1 in omega arith) used in
      rw (there, ← rest) (omega arith)
]
