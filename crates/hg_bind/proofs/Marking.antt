-- Which columns of FROM are named, marked in one walk over the nodes.
use Rattle.std.proofs.Common.{◌≡◌, ◌<◌, ◌≤◌, ℕ, zero, suc, ◌+◌, Bool, true, false, List, [], ◌∷◌, ◌++◌, Option, refl, sym, ap, subst, ◌∙◌, length, length-append, get_or, take, ◌||◌, arith}
use Rattle.std.specs.List.{list_any}
use Rattle.std.proofs.lemmas.List.Folds.{list_any_more}
use Rattle.hg_model.specs.Binding.{is_place}
use Rattle.hg_bind.specs.Selecting.{AreMarks, MarksOne}

-- one mark more
mark_step : (star : Bool) (marks : List Bool) (p : ℕ) → ((k : ℕ) → k < length marks → get_or marks k false ≡ star) → p < length (marks ++ star ∷ []) → get_or (marks ++ star ∷ []) p false ≡ star
mark_step star [] zero h below = refl
mark_step star [] (suc p) h below = absurd (omega arith)
mark_step star (m ∷ ms) zero h below = h 0 (omega arith)
mark_step star (m ∷ ms) (suc p) h below = mark_step star ms p (λ k b. h (suc k) (omega arith)) (omega arith)

pub mark_more : (star : Bool) (marks new : List Bool) → new ≡ marks ++ star ∷ [] → ((k : ℕ) → k < length marks → get_or marks k false ≡ star) → (k : ℕ) → k < length new → get_or new k false ≡ star
mark_more star marks new made h k below = ap (λ l. get_or l k false) made ∙ mark_step star marks k h (subst (λ l. k < length l) made below)

pub count_more : (star : Bool) (marks new : List Bool) (n : ℕ) → new ≡ marks ++ star ∷ [] → length marks ≡ n → length new ≡ n + 1
count_more star marks new n made size = let pushed = length-append marks (star ∷ []) in ap length made ∙ omega (arith, pushed)

or_turned : (star b c : Bool) → (b || (star || c)) ≡ (star || (c || b))
or_turned true true true = refl
or_turned true true false = refl
or_turned true false c = refl
or_turned false true true = refl
or_turned false true false = refl
or_turned false false true = refl
or_turned false false false = refl

-- the marks of one node more
pub marks_next : (star : Bool) (named : List (Option ℕ)) (i count : ℕ) (d : Option ℕ) (old new : List Bool) → i < length named → AreMarks star (take i named) count old
    → MarksOne (get_or named i d) old new → AreMarks star (take (i + 1) named) count new
marks_next star named i count d old new h are one = record {
  count_is = one.count ∙ are.count_is;
  each = λ p below.
      one.each p (subst (λ n. p < n) (sym are.count_is) below)
      ∙ ap (λ b. is_place p (get_or named i d) || b) (are.each p below)
      ∙ or_turned star (is_place p (get_or named i d)) (list_any (is_place p) (take i named))
      ∙ ap (λ b. star || b) (sym (list_any_more (is_place p) named i d h));
}
