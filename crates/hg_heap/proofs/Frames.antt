-- The frames of a chain one by one.
use Rattle.std.specs.Prelude.{◌≡◌, ◌≢◌, ℕ, ◌&&◌, ◌||◌, not, Bool, true, false, List, [], ◌∷◌, ◌++◌, length, if◌then◌else◌}
use Rattle.std.specs.List.{AllByRecursion}
use Rattle.std.proofs.Common.{◌∙◌, sym, ap, refl, inl, inr, arith}
use Rattle.std.proofs.lemmas.Bool.{false≢true}
use Rattle.std.proofs.lemmas.Bool.Decides.{nat_tests, eqb_tells}
use Rattle.std.proofs.lemmas.Grind.{common_steps}
use Rattle.hg_base.specs.Lines.{AreApart}
use Rattle.hg_raw.specs.Frames.{Frame, numbers, is_in, distinct, bytes_of, with_bytes, refit}

pub numbers-join : (xs ys : List Frame) → numbers (xs ++ ys) ≡ numbers xs ++ numbers ys
numbers-join [] ys = refl
numbers-join (x ∷ xs) ys = ap (λ l. x.0 ∷ l) (numbers-join xs ys)

both-left : (a b : Bool) → (a && b) ≡ true → a ≡ true
both-left true b e = refl
both-left false b e = e

both-right : (a b : Bool) → (a && b) ≡ true → b ≡ true
both-right true b e = e
both-right false b e = absurd (cc)

not-true : (a : Bool) → not a ≡ true → a ≡ false
not-true true e = absurd (cc)
not-true false e = refl

pub is-there : (front back : List Frame) (x : Frame) → is_in x.0 (numbers (front ++ x ∷ back)) ≡ true
is-there [] back x = grind (arith, nat_tests)
is-there (y ∷ front) back x = grind (arith, nat_tests, is-there front back x)

-- a number that stands behind others is none of them
pub not-before : (front back : List Frame) (x : Frame) → distinct (numbers (front ++ x ∷ back)) ≡ true → is_in x.0 (numbers front) ≡ false
not-before [] back x h = refl
not-before (y ∷ front) back x h =
    let d : is_in y.0 (numbers (front ++ x ∷ back)) ≡ false = not-true (is_in y.0 (numbers (front ++ x ∷ back))) (both-left (not (is_in y.0 (numbers (front ++ x ∷ back)))) (distinct (numbers (front ++ x ∷ back))) h) in
    let r : is_in x.0 (numbers front) ≡ false = not-before front back x (both-right (not (is_in y.0 (numbers (front ++ x ∷ back)))) (distinct (numbers (front ++ x ∷ back))) h) in
    elim (eqb_tells y.0 x.0) [
      | inl e ↦ absurd (false≢true (sym d ∙ ap (λ n. is_in n (numbers (front ++ x ∷ back))) e.1 ∙ is-there front back x))
      | inr n ↦ ap (λ b. b || is_in x.0 (numbers front)) n.0 ∙ r
    ]

pub bytes-behind : (front back : List Frame) (x : Frame) → is_in x.0 (numbers front) ≡ false → bytes_of (front ++ x ∷ back) x.0 ≡ x.1
bytes-behind [] back x h = grind (arith, nat_tests)
bytes-behind (y ∷ front) back x h = elim (eqb_tells y.0 x.0) [
  | inl e ↦ absurd (false≢true (sym h ∙ ap (λ b. b || is_in x.0 (numbers front)) e.0))
  | inr n ↦ ap (λ b. if b then y.1 else bytes_of (front ++ x ∷ back) x.0) n.0
      ∙ bytes-behind front back x (sym (ap (λ b. b || is_in x.0 (numbers front)) n.0) ∙ h)
]

pub bytes-there : (front back : List Frame) (x : Frame) → distinct (numbers (front ++ x ∷ back)) ≡ true → bytes_of (front ++ x ∷ back) x.0 ≡ x.1
bytes-there front back x h = bytes-behind front back x (not-before front back x h)

pub written-behind : (front back : List Frame) (x : Frame) (w : List ℕ) → is_in x.0 (numbers front) ≡ false → with_bytes (front ++ x ∷ back) x.0 w ≡ front ++ (x.0, w) ∷ back
written-behind [] back x w h = grind (arith, nat_tests)
written-behind (y ∷ front) back x w h = elim (eqb_tells y.0 x.0) [
  | inl e ↦ absurd (false≢true (sym h ∙ ap (λ b. b || is_in x.0 (numbers front)) e.0))
  | inr n ↦ ap (λ b. if b then (y.0, w) ∷ front ++ x ∷ back else y ∷ with_bytes (front ++ x ∷ back) x.0 w) n.0
      ∙ ap (λ l. y ∷ l) (written-behind front back x w (sym (ap (λ b. b || is_in x.0 (numbers front)) n.0) ∙ h))
]

other-number : (n : ℕ) (ms : List ℕ) → is_in n ms ≡ false → AllByRecursion (λ m. m ≢ n) ms
other-number n [] h = tt
other-number n (m ∷ ms) h = elim (eqb_tells m n) [
  | inl e ↦ absurd (false≢true (sym h ∙ ap (λ b. b || is_in n ms) e.0))
  | inr d ↦ (d.1, other-number n ms (sym (ap (λ b. b || is_in n ms) d.0) ∙ h))
]

pub apart-numbers : (ns : List ℕ) → distinct ns ≡ true → AreApart ns
apart-numbers [] h = tt
apart-numbers (n ∷ ns) h =
    (other-number n ns (not-true (is_in n ns) (both-left (not (is_in n ns)) (distinct ns) h)), apart-numbers ns (both-right (not (is_in n ns)) (distinct ns) h))

-- a page that is written over as a whole is what was written
pub refit-same : (xs ws : List ℕ) → length ws ≡ length xs → refit xs ws ≡ ws
refit-same xs ws e = grind (arith, common_steps)
