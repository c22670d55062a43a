-- Magnitudes of sums and products, and their bounds by powers of two.
use Rattle.std.proofs.Common.{◌≡◌, ℕ, zero, suc, ◌+◌, ◌*◌, ◌^◌, ◌<◌, ◌≤◌, max, refl, sym, subst, arith, ℤ, pos, negsuc, ◌+ℤ◌, ◌*ℤ◌, neg_ℤ}
use Rattle.std.specs.Prelude.{nat_abs, ◌-ℤ◌}
use Rattle.std.proofs.lemmas.Int.{ints, unsigned_abs-mul}
use Rattle.std.proofs.lemmas.Nat.{pow-add, mul-lt}
use Rattle.std.proofs.Math.Nat.{pow-le-pow_right}

pub nat_abs-add : (x y : ℤ) → nat_abs (x +ℤ y) ≤ nat_abs x + nat_abs y
nat_abs-add (pos a) (pos b) = omega arith
nat_abs-add (pos a) (negsuc b) = grind (arith, ints)
nat_abs-add (negsuc a) (pos b) = grind (arith, ints)
nat_abs-add (negsuc a) (negsuc b) = omega arith

pub nat_abs-neg : (x : ℤ) → nat_abs (neg_ℤ x) ≡ nat_abs x
nat_abs-neg (pos zero) = refl
nat_abs-neg (pos (suc n)) = refl
nat_abs-neg (negsuc n) = refl

pub pow_up : (a b : ℕ) → a ≤ b → 2 ^ a ≤ 2 ^ b
pow_up a b h = pow-le-pow_right (omega arith) h

pub add_below : (x y : ℤ) (a b : ℕ) → nat_abs x < 2 ^ a → nat_abs y < 2 ^ b → nat_abs (x +ℤ y) < 2 ^ (max a b + 1)
add_below x y a b p q =
    let one : 2 ^ a ≤ 2 ^ max a b = pow_up a (max a b) (omega arith) in
    let two : 2 ^ b ≤ 2 ^ max a b = pow_up b (max a b) (omega arith) in
    let double : 2 ^ (max a b + 1) ≡ 2 ^ max a b * 2 ^ 1 = pow-add 2 (max a b) 1 in
    omega (arith, nat_abs-add x y)

pub sub_below : (x y : ℤ) (a b : ℕ) → nat_abs x < 2 ^ a → nat_abs y < 2 ^ b → nat_abs (x -ℤ y) < 2 ^ (max a b + 1)
sub_below x y a b p q = add_below x (neg_ℤ y) a b p (subst (λ n. n < 2 ^ b) (sym (nat_abs-neg y)) q)

pub mul_below : (x y : ℤ) (a b : ℕ) → nat_abs x < 2 ^ a → nat_abs y < 2 ^ b → nat_abs (x *ℤ y) < 2 ^ (a + b)
mul_below x y a b p q =
    subst (λ n. n < 2 ^ (a + b)) (sym (unsigned_abs-mul x y))
    (subst (λ m. nat_abs x * nat_abs y < m) (sym (pow-add 2 a b)) (mul-lt (nat_abs x) (nat_abs y) (2 ^ a) (2 ^ b) p q))
