-- What holds of a SELECT that nothing stands against.
use Rattle.std.proofs.Common.{◌≡◌, Bool, true, false, List, ◌∷◌, Option, Some, None, refl, length, not, ◌&&◌}
use Rattle.std.specs.Prelude.{nat_lt}
use Rattle.hg_model.specs.Binding.{cause_if, lengths_fit, select_kinds, select_refusal, select_types_fit, unknown_table}
use Rattle.hg_model.specs.Query.{Query}
use Rattle.hg_model.specs.Refusal.{Refusal, first_cause}
use Rattle.hg_model.specs.Scope.{positions_of, scope_of}
use Rattle.hg_model.specs.Tables.{Table}
use Rattle.hg_model.specs.Types.{all_narrow}

pub record IsUnrefused (tables : List Table) (q : Query) : Type 0 where
  pub known : unknown_table tables q.tables ≡ None
  pub few_starred : (q.star && nat_lt 16 (length (scope_of tables q))) ≡ false
  pub typed : select_types_fit q (select_kinds (scope_of tables q) (positions_of (scope_of tables q) q) q) ≡ true
  pub narrow : all_narrow q.nodes ≡ true
  pub lengths : lengths_fit (scope_of tables q) (positions_of (scope_of tables q) q) q ≡ true

-- no cause of a list of causes
cause_left : (o : Option Refusal) (more : List (Option Refusal)) → first_cause (o ∷ more) ≡ None → (o ≡ None) × (first_cause more ≡ None)
unfolding first_cause
cause_left None more h = (refl, h)
cause_left (Some r) more h = absurd cc

no_cause : (b : Bool) (r : Refusal) → cause_if b r ≡ None → b ≡ false
no_cause true r h = absurd cc
no_cause false r h = refl

no_cause_not : (b : Bool) (r : Refusal) → cause_if (not b) r ≡ None → b ≡ true
no_cause_not true r h = refl
no_cause_not false r h = absurd cc

pub unrefused : (tables : List Table) (q : Query) → select_refusal tables q ≡ None → IsUnrefused tables q
unfolding select_refusal
unrefused tables q h =
    let a = cause_left _ _ h in
    let b = cause_left _ _ a.1 in
    let c = cause_left _ _ b.1 in
    let d = cause_left _ _ c.1 in
    let e = cause_left _ _ d.1 in
    let f = cause_left _ _ e.1 in
    let g = cause_left _ _ f.1 in
    let i = cause_left _ _ g.1 in
    let j = cause_left _ _ i.1 in record {
      known = a.0;
      few_starred = no_cause _ _ c.0;
      typed = no_cause_not _ _ f.0;
      narrow = no_cause_not _ _ i.0;
      lengths = no_cause_not _ _ j.0;
    }
