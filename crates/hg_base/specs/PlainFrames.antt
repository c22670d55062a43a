-- The frames in which the pages of a plain space's heap stand.
use Rattle.std.specs.Prelude.{◌≡◌, ◌≢◌, ℕ, ◌+◌, ◌%◌, ◌<◌, ◌≤◌, ◌||◌, zero, suc, false, [], ◌∷◌, ◌++◌, length}
use Rattle.std.specs.List.{AllByRecursion}
use Rattle.std.proofs.Common.{sym, ◌∙◌, ap, subst, refl, arith, add-zero}
use Rattle.std.proofs.lemmas.Bool.{ne_eqb}
use Rattle.hg_base.specs.Lines.{AreApart, has_page}
use Rattle.hg_base.specs.PlainObjects.{frames_from}

pub length-frames : (first n : ℕ) → length (frames_from first n) ≡ n
length-frames first zero = refl
length-frames first (suc n) = ap (λ k. suc k) (length-frames (first + 1) n)

pub frames-below : (first n : ℕ) → AllByRecursion (λ f. f < 65536) (frames_from first n)
frames-below first zero = tt
frames-below first (suc n) = (omega arith, frames-below (first + 1) n)

-- frames one behind the other are apart, up to 65,536 of them
frames-differ : (first k n : ℕ) → k + n < 65536 → AllByRecursion (λ y. y ≢ first % 65536) (frames_from (first + 1 + k) n)
frames-differ first k zero h = tt
frames-differ first k (suc n) h = (
  λ e. absurd (omega arith),
  (let s : first + 1 + k + 1 ≡ first + 1 + (k + 1) = omega arith in
      subst (λ f. AllByRecursion (λ y. y ≢ first % 65536) (frames_from f n)) (sym s) (frames-differ first (k + 1) n (omega arith))),
)

pub frames-apart : (first n : ℕ) → n ≤ 65536 → AreApart (frames_from first n)
frames-apart first zero h = tt
frames-apart first (suc n) h = (
  subst (λ f. AllByRecursion (λ y. y ≢ first % 65536) (frames_from f n)) (add-zero (first + 1)) (frames-differ first 0 n (omega arith)),
  frames-apart (first + 1) n (omega arith),
)

-- one frame more
pub frames-more : (first n : ℕ) → frames_from first (n + 1) ≡ frames_from first n ++ (first + n) % 65536 ∷ []
frames-more first zero = ap (λ f. f % 65536 ∷ []) (sym (add-zero first))
frames-more first (suc n) =
    let e : first + 1 + n ≡ first + suc n = omega arith in
    let m : suc n + 1 ≡ suc (n + 1) = omega arith in
    ap (frames_from first) m
    ∙ ap (λ l. first % 65536 ∷ l) (frames-more (first + 1) n ∙ ap (λ f. frames_from (first + 1) n ++ f % 65536 ∷ []) e)

-- it is none of the others
frames-new : (first k n : ℕ) → n + k < 65536 → has_page (frames_from first n) ((first + n + k) % 65536) ≡ false
frames-new first k zero h = refl
frames-new first k (suc n) h =
    let other : first % 65536 ≢ (first + suc n + k) % 65536 = (λ e. absurd (omega arith)) in
    let s : first + suc n + k ≡ first + 1 + n + k = omega arith in
    ap (λ t. t || has_page (frames_from (first + 1) n) ((first + suc n + k) % 65536)) (ne_eqb (first % 65536) ((first + suc n + k) % 65536) other)
    ∙ ap (λ f. has_page (frames_from (first + 1) n) (f % 65536)) s
    ∙ frames-new (first + 1) k n (omega arith)

pub frames-fresh : (first n : ℕ) → n < 65536 → has_page (frames_from first n) ((first + n) % 65536) ≡ false
frames-fresh first n h = ap (λ f. has_page (frames_from first n) (f % 65536)) (sym (add-zero (first + n))) ∙ frames-new first 0 n (omega arith)
