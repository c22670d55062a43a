-- What a name in ORDER BY finds among the outputs, and the cause against it.
use Rattle.std.proofs.Common.{◌≡◌, ℕ, suc, Bool, true, false, List, [], ◌∷◌, Option, Some, None, refl, sym, ap, subst, ◌∙◌, length, not, ◌&&◌, if◌then◌else◌, arith}
use Rattle.std.specs.Prelude.{nat_lt}
use Rattle.std.specs.List.{count_by, list_all}
use Rattle.std.proofs.lemmas.Bool.Decides.{nat_tests}
use Rattle.hg_model.specs.Binding.{are_one_column, cause_if, cause_of_count, column_cause, is_place, key_cause, may_name_columns, outputs_found}
use Rattle.hg_model.specs.Query.{Query}
use Rattle.hg_model.specs.Refusal.{Refusal, UnknownColumn, AmbiguousColumn}
use Rattle.hg_model.specs.Scope.{is_named}
use Rattle.hg_model.specs.declared.tables.FromColumn.{FromColumn}
use Rattle.hg_model.specs.declared.trees.ColRef.{ColRef}
use Rattle.hg_bind.specs.Selecting.{found_in, one_or_several}
use Rattle.hg_bind.specs.declared.names.Found.{Found}
use Rattle.hg_bind.specs.declared.names.Found.TheVariants.{Nothing, One, Several}

abbrev Tells : Found → List (Option ℕ) → Type 0
Tells Nothing ps = nat_lt 0 (length ps) ≡ false
Tells (One p) ps = (nat_lt 0 (length ps) ≡ true) × (are_one_column ps ≡ true)
Tells Several ps = (nat_lt 0 (length ps) ≡ true) × (are_one_column ps ≡ false)

some : (n : ℕ) → nat_lt 0 (suc n) ≡ true
some n = grind (arith, nat_tests)

several : (os : List (Option ℕ)) → found_in Several os ≡ Several
several [] = refl
several (o ∷ os) = several os

ones : (p : ℕ) (os : List (Option ℕ)) → found_in (One (Some p)) os ≡ one_or_several (list_all (is_place p) os) (Some p)
ones p [] = refl
ones p (o ∷ os) = by (is_place p o) (ones p os)
  where
    by : (b : Bool) → found_in (One (Some p)) os ≡ one_or_several (list_all (is_place p) os) (Some p)
        → found_in (one_or_several b (Some p)) os ≡ one_or_several (b && list_all (is_place p) os) (Some p)
    by true more = more
    by false more = several os

told : (p : ℕ) (os : List (Option ℕ)) (b : Bool) → list_all (is_place p) os ≡ b → Tells (one_or_several b (Some p)) (Some p ∷ os)
told p os true h = (some (length os), h)
told p os false h = (some (length os), h)

tells : (ps : List (Option ℕ)) → Tells (found_in Nothing ps) ps
tells [] = refl
tells (None ∷ []) = (some 0, refl)
tells (None ∷ o ∷ os) = subst (λ f. Tells f (None ∷ o ∷ os)) (sym (several os)) (some (suc (length os)), refl)
tells (Some p ∷ os) = subst (λ f. Tells f (Some p ∷ os)) (sym (ones p os)) (told p os (list_all (is_place p) os) refl)

module _ (scope : List FromColumn) (positions : List ℕ) (q : Query) (c : ColRef) (written : q.star ≡ false) where
  abbrev ps : List (Option ℕ)
  ps = outputs_found scope positions q c

  abbrev else_cause : Bool → Option Refusal
  else_cause may = if may then column_cause scope (length q.tables) c else Some (UnknownColumn c)

  abbrev inner : Bool → Bool → Option Refusal
  inner some one = if some then cause_if (not one) (AmbiguousColumn c) else else_cause (may_name_columns q)

  behind_star : key_cause scope positions q c ≡ inner (nat_lt 0 (length ps)) (are_one_column ps)
  behind_star = ap (λ b. if b then cause_of_count (count_by (is_named c) scope) c else inner (nat_lt 0 (length ps)) (are_one_column ps)) written

  pub one_found : (p : Option ℕ) → found_in Nothing ps ≡ One p → key_cause scope positions q c ≡ None
  one_found p is =
      let t = subst (λ f. Tells f ps) is (tells ps) in
      behind_star ∙ ap (λ b. inner b (are_one_column ps)) t.0 ∙ ap (inner true) t.1

  pub several_found : found_in Nothing ps ≡ Several → key_cause scope positions q c ≡ Some (AmbiguousColumn c)
  several_found is =
      let t = subst (λ f. Tells f ps) is (tells ps) in
      behind_star ∙ ap (λ b. inner b (are_one_column ps)) t.0 ∙ ap (inner true) t.1

  nothing_found : found_in Nothing ps ≡ Nothing → key_cause scope positions q c ≡ else_cause (may_name_columns q)
  nothing_found is = behind_star ∙ ap (λ b. inner b (are_one_column ps)) (subst (λ f. Tells f ps) is (tells ps))

  pub may_be_column : found_in Nothing ps ≡ Nothing → may_name_columns q ≡ true → key_cause scope positions q c ≡ column_cause scope (length q.tables) c
  may_be_column is may = nothing_found is ∙ ap else_cause may

  pub is_no_column : found_in Nothing ps ≡ Nothing → may_name_columns q ≡ false → key_cause scope positions q c ≡ Some (UnknownColumn c)
  is_no_column is may = nothing_found is ∙ ap else_cause may
