-- Walks over pages by their successors.
use Rattle.std.specs.Prelude.{◌≡◌, ◌≢◌, ℕ, ◌<◌, ◌≤◌, ◌==◌, zero, suc, false, [], ◌∷◌, ◌++◌, length, Option}
use Rattle.std.specs.List.{AllByRecursion}
use Rattle.std.proofs.Common.{sym, ap, refl, arith}
use Rattle.std.proofs.lemmas.Bool.Decides.{nat_tests}
use Rattle.hg_base.specs.Lines.{AreApart}
use Rattle.hg_heap.specs.Resting.{pages_from, page_behind, temp_key, walk}
use Rattle.hg_heap.specs.Handing.{has_key}

pub walk-next : (next : ℕ → Option ℕ) (n k : ℕ) → walk next n (suc k) ≡ page_behind next (walk next n k)
walk-next next n zero = refl
walk-next next n (suc k) = walk-next next (page_behind next n) k

pub from-last : (next : ℕ → Option ℕ) (n k : ℕ) → pages_from next n (suc k) ≡ pages_from next n k ++ walk next n k ∷ []
from-last next n zero = refl
from-last next n (suc k) = ap (λ l. n ∷ l) (from-last next (page_behind next n) k)

pub length-from : (next : ℕ → Option ℕ) (n k : ℕ) → length (pages_from next n k) ≡ k
length-from next n zero = refl
length-from next n (suc k) = omega (arith, length-from next (page_behind next n) k)

pub all-walk : (P : ℕ → Type 0) (next : ℕ → Option ℕ) (n count k : ℕ) → AllByRecursion P (pages_from next n count) → k < count → P (walk next n k)
all-walk P next n zero k h l = absurd (omega arith)
all-walk P next n (suc count) zero h l = h.0
all-walk P next n (suc count) (suc k) h l = all-walk P next (page_behind next n) count k h.1 (omega arith)

pub all-front : (P : ℕ → Type 0) (next : ℕ → Option ℕ) (n count k : ℕ) → AllByRecursion P (pages_from next n count) → k ≤ count → AllByRecursion P (pages_from next n k)
all-front P next n count zero h l = tt
all-front P next n zero (suc k) h l = absurd (omega arith)
all-front P next n (suc count) (suc k) h l = (h.0, all-front P next (page_behind next n) count k h.1 (omega arith))

pub apart-front : (next : ℕ → Option ℕ) (n count k : ℕ) → AreApart (pages_from next n count) → k ≤ count → AreApart (pages_from next n k)
apart-front next n count zero h l = tt
apart-front next n zero (suc k) h l = absurd (omega arith)
apart-front next n (suc count) (suc k) h l =
    (all-front (λ y. y ≢ n) next (page_behind next n) count k h.0 (omega arith), apart-front next (page_behind next n) count k h.1 (omega arith))

other-key : (m n : ℕ) → m ≢ n → (temp_key m == temp_key n) ≡ false
other-key m n h = grind (arith, nat_tests)

-- a page that a walk comes to has not been passed
pub not-passed : (next : ℕ → Option ℕ) (n count k : ℕ) → AreApart (pages_from next n count) → k < count → has_key (pages_from next n k) (temp_key (walk next n k)) ≡ false
not-passed next n count zero h l = refl
not-passed next n zero (suc k) h l = absurd (omega arith)
not-passed next n (suc count) (suc k) h l =
    let apart : walk next (page_behind next n) k ≢ n = all-walk (λ y. y ≢ n) next (page_behind next n) count k h.0 (omega arith) in
    grind (arith, other-key n (walk next (page_behind next n) k) (λ e. apart (sym e)), not-passed next (page_behind next n) count k h.1 (omega arith))
