-- Each by computation.
use Rattle.std.proofs.Common.{refl, arith, inl, inr}
use Rattle.hg_worked.specs.LimitsHeld.{LimitsHold}

pub limits_hold : LimitsHold
limits_hold = record {
  few_frames = refl;
  defaults_hard = refl;
  one_active = refl;
  rounded_down = refl;
  defaults_soft = refl;
  small_soft = refl;
  ceiling_of_the_pool = refl;
  ceiling_of_the_limit = refl;
  below_both = record { below_ceiling = omega arith; below_soft = inl (omega arith) };
  at_soft = record { below_ceiling = omega arith; below_soft = inr refl };
  at_soft_freeable = λ h. elim (h.below_soft) as (λ x. ⊥) [ inl p ↦ absurd (omega arith) | inr e ↦ absurd (omega arith) ];
  at_ceiling = λ h. absurd (omega (arith, h.below_ceiling));
  cap_by_floor = refl;
  cap_by_ceiling = refl;
}
