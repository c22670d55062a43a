-- The two cases of a truth value, and of two numbers.
use Rattle.std.proofs.Common.{◌≡◌, ℕ, ◌<◌, ◌≤◌, ◌⊎◌, Bool, true, false, refl, inl, inr}
use Rattle.std.proofs.lemmas.Bool.Decides.{leb_tells}

pub true-or-false : (b : Bool) → (b ≡ true) ⊎ (b ≡ false)
true-or-false true = inl refl
true-or-false false = inr refl

pub lt-or-le : (a b : ℕ) → (a < b) ⊎ (b ≤ a)
lt-or-le a b = elim (leb_tells b a) [ inl w ↦ inr w.1 | inr w ↦ inl w.1 ]
