-- Each condition is tested at one table.
use Rattle.std.proofs.Common.{◌≡◌, ◌≤◌, ◌<◌, ◌+◌, ℕ, zero, suc, Bool, true, false, List, [], ◌∷◌, ◌++◌, length, refl, sym, ap, subst, ◌∙◌, arith, cond}
use Rattle.std.specs.Prelude.{nat_eq}
use Rattle.std.specs.List.{All, filter, flat_map, range_with_len}
use Rattle.std.specs.List.Sorted.{IsPermutation}
use Rattle.std.proofs.lemmas.Bool.Decides.{nat_tests}
use Rattle.std.proofs.lemmas.List.Sorted.{IsPermutation-refl, IsPermutation-trans, IsPermutation-cons, IsPermutation-append, IsPermutation-middle}
use Rattle.hg_model.specs.Conditions.{first_table, split_conditions}
use Rattle.hg_model.specs.PlanLaws.{EachIsTestedOnce}

module _ (f : ℕ → ℕ) where
  abbrev at : List ℕ → ℕ → List ℕ
  at cs k = filter (λ n. nat_eq (f n) k) cs

  abbrev all_at : List ℕ → ℕ → ℕ → List ℕ
  all_at cs a m = flat_map (at cs) (range_with_len a m)

  none_at : (a m : ℕ) → all_at [] a m ≡ []
  none_at a zero = refl
  none_at a (suc m) = none_at (a + 1) m

  -- one that belongs in front of the range is nowhere in it
  passed : (c : ℕ) (cs : List ℕ) (a m : ℕ) → f c < a → all_at (c ∷ cs) a m ≡ all_at cs a m
  passed c cs a zero h = refl
  passed c cs a (suc m) h =
      let no_match : nat_eq (f c) a ≡ false = grind (arith, nat_tests) in
      ap (λ b. cond b (c ∷ at cs a) (at cs a) ++ all_at (c ∷ cs) (a + 1) m) no_match ∙ ap (λ l. at cs a ++ l) (passed c cs (a + 1) m (omega arith))

  -- one that belongs into the range is there once
  placed : (c : ℕ) (cs : List ℕ) (a m : ℕ) → a ≤ f c → f c < a + m → IsPermutation (all_at (c ∷ cs) a m) (c ∷ all_at cs a m)
  placed c cs a zero low high = absurd (omega arith)
  placed c cs a (suc m) low high =
      let P : Bool → Type 0 = λ b. IsPermutation (cond b (c ∷ at cs a) (at cs a) ++ all_at (c ∷ cs) (a + 1) m) (c ∷ (at cs a ++ all_at cs (a + 1) m)) in
      elim (nat_eq (f c) a) as (λ b. nat_eq (f c) a ≡ b → P b) [
        | true ↦ λ e. let is : f c ≡ a = grind (arith, nat_tests) in
            let Q : List ℕ → Type 0 = λ l. IsPermutation (c ∷ (at cs a ++ l)) (c ∷ (at cs a ++ all_at cs (a + 1) m)) in
            subst Q (sym (passed c cs (a + 1) m (omega arith))) (IsPermutation-refl (c ∷ (at cs a ++ all_at cs (a + 1) m)))
        | false ↦ λ e. let no_match : a + 1 ≤ f c = grind (arith, nat_tests) in
            IsPermutation-trans (at cs a ++ all_at (c ∷ cs) (a + 1) m) (at cs a ++ c ∷ all_at cs (a + 1) m) (c ∷ (at cs a ++ all_at cs (a + 1) m))
            (IsPermutation-append (at cs a) (at cs a) (all_at (c ∷ cs) (a + 1) m) (c ∷ all_at cs (a + 1) m) (IsPermutation-refl (at cs a))
            (placed c cs (a + 1) m no_match (omega arith)))
            (IsPermutation-middle (at cs a) c (all_at cs (a + 1) m))
      ]
      refl

  pub each_once : (cs : List ℕ) (m : ℕ) → All (λ n. f n < m) cs → IsPermutation (all_at cs 0 m) cs
  each_once [] m h = subst (λ l. IsPermutation l []) (sym (none_at 0 m)) (IsPermutation-refl [])
  each_once (c ∷ cs) m h =
      let first : f c < m = h 0 0 (omega arith) in
      let others : All (λ n. f n < m) cs = λ k d below. h (suc k) d (omega arith) in
      IsPermutation-trans (all_at (c ∷ cs) 0 m) (c ∷ all_at cs 0 m) (c ∷ cs) (placed c cs 0 m (omega arith) (omega arith))
      (IsPermutation-cons c (all_at cs 0 m) cs (each_once cs m others))

pub each_is_tested_once : EachIsTestedOnce
each_is_tested_once scope positions q h = each_once (first_table scope positions q) (split_conditions q) (length q.tables) h
