-- Aggregates over values below a bound.
use Rattle.std.proofs.Common.{◌≡◌, ℕ, zero, suc, ◌+◌, ◌*◌, ◌^◌, ◌<◌, ◌≤◌, sym, subst, arith, Bool, true, false, cond, List, [], ◌∷◌, length, Option, Some, None, le_trans, lt_of_lt_of_le, lt_of_le_of_lt, zero-mul}
use Rattle.std.specs.Prelude.{nat_abs, ⊤}
use Rattle.std.specs.List.{fold}
use Rattle.std.specs.Ordering.{is_lt}
use Rattle.std.proofs.lemmas.Nat.{pow-add, pow_pos, mul-le}
use borrow.Author.Tests.{leb-true}
use Rattle.hg_model.proofs.Magnitudes.{nat_abs-add, pow_up}
use Rattle.hg_model.specs.Aggregates.{add_value, lesser, greater, count_value, aggregate}
use Rattle.hg_model.specs.Order.{value_cmp}
use Rattle.hg_model.specs.Types.{fold_bound, bound_at, is_narrow}
use Rattle.hg_model.specs.Width.{IsBelow, SumsBelow, FoldFits}
use Rattle.hg_model.specs.declared.values.Value.{Value}
use Rattle.hg_model.specs.declared.values.Value.TheVariants.{Null, Int, Text}
use Rattle.hg_model.specs.declared.trees.Fold.{Fold}
use Rattle.hg_model.specs.declared.trees.Fold.TheVariants as of

-- a sum of n values below m
abbrev pub SumOf : ℕ → ℕ → Value → Type 0
SumOf n m Null = ⊤
SumOf n m (Int x) = nat_abs x + n ≤ n * m
SumOf n m (Text t) = ⊤

one_more : (n m : ℕ) → 0 < m → n ≤ n * m
one_more n m h = omega (arith, mul-le n 1 n m (omega arith) (omega arith))

sum_step : (b n : ℕ) (acc v : Value) → SumOf n (2 ^ b) acc → IsBelow b v → SumOf (n + 1) (2 ^ b) (add_value acc v)
sum_step b n Null Null h p = tt
sum_step b n (Int x) Null h p = let m = pow_pos b in omega arith
sum_step b n (Text t) Null h p = tt
sum_step b n Null (Int y) h p = omega (arith, one_more n (2 ^ b) (pow_pos b))
sum_step b n (Int x) (Int y) h p = omega (arith, nat_abs-add x y)
sum_step b n (Text s) (Int y) h p = tt
sum_step b n Null (Text t) h p = tt
sum_step b n (Int x) (Text t) h p = let m = pow_pos b in omega arith
sum_step b n (Text s) (Text t) h p = tt

below_product : (b n x : ℕ) → x + n ≤ n * 2 ^ b → n ≤ 2 ^ 30 → x < 2 ^ 30 * 2 ^ b
below_product b zero x h few = let m = pow_pos b in omega (arith, zero-mul (2 ^ b))
below_product b (suc n) x h few = omega (arith, mul-le (suc n) (2 ^ b) (2 ^ 30) (2 ^ b) few (omega arith))

sum_final : (b n : ℕ) (v : Value) → SumOf n (2 ^ b) v → n ≤ 2 ^ 30 → IsBelow (30 + b) v
sum_final b n Null h few = tt
sum_final b n (Int x) h few = subst (λ m. nat_abs x < m) (sym (pow-add 2 30 b)) (below_product b n (nat_abs x) h few)
sum_final b n (Text t) h few = tt

pub wider : (a b : ℕ) (v : Value) → a ≤ b → IsBelow a v → IsBelow b v
wider a b Null h p = tt
wider a b (Int x) h p = lt_of_lt_of_le p (pow_up a b h)
wider a b (Text t) h p = tt

abbrev pub EachBelow : ℕ → List Value → Type 0
EachBelow b [] = ⊤
EachBelow b (v ∷ vs) = IsBelow b v × EachBelow b vs

pub sums_below : (b n : ℕ) (vs : List Value) (acc : Value) → SumOf n (2 ^ b) acc → EachBelow b vs → n + length vs ≤ 2 ^ 30 → 30 + b ≤ 126
    → SumsBelow vs acc × IsBelow (30 + b) (fold add_value acc vs)
sums_below b n [] acc h p few narrow = (tt, sum_final b n acc h (omega arith))
sums_below b n (v ∷ vs) acc h p few narrow =
    let next = sum_step b n acc v h p.0 in
    let rest = sums_below b (n + 1) vs (add_value acc v) next p.1 (omega arith) narrow in
    ((wider (30 + b) 126 (add_value acc v) narrow (sum_final b (n + 1) (add_value acc v) next (omega arith)), rest.0), rest.1)

count_step : (n : ℕ) (v : Value) → count_value n v ≤ n + 1
count_step n Null = omega arith
count_step n (Int x) = omega arith
count_step n (Text t) = omega arith

pub count_few : (n : ℕ) (vs : List Value) → fold count_value n vs ≤ n + length vs
count_few n [] = omega arith
count_few n (v ∷ vs) = omega (arith, count_few (count_value n v) vs, count_step n v)

either_below : (b : ℕ) (t : Bool) (v w : Value) → IsBelow b v → IsBelow b w → IsBelow b (cond t v w)
either_below b true v w p q = p
either_below b false v w p q = q

lesser_below : (b : ℕ) (v w : Value) → IsBelow b v → IsBelow b w → IsBelow b (lesser v w)
lesser_below b Null Null p q = tt
lesser_below b (Int x) Null p q = p
lesser_below b (Text s) Null p q = tt
lesser_below b Null (Int y) p q = q
lesser_below b (Int x) (Int y) p q = either_below b (is_lt (value_cmp (Int y) (Int x))) (Int y) (Int x) q p
lesser_below b (Text s) (Int y) p q = q
lesser_below b Null (Text t) p q = tt
lesser_below b (Int x) (Text t) p q = p
lesser_below b (Text s) (Text t) p q = either_below b (is_lt (value_cmp (Text t) (Text s))) (Text t) (Text s) tt tt

greater_below : (b : ℕ) (v w : Value) → IsBelow b v → IsBelow b w → IsBelow b (greater v w)
greater_below b Null Null p q = tt
greater_below b (Int x) Null p q = p
greater_below b (Text s) Null p q = tt
greater_below b Null (Int y) p q = q
greater_below b (Int x) (Int y) p q = either_below b (is_lt (value_cmp (Int x) (Int y))) (Int y) (Int x) q p
greater_below b (Text s) (Int y) p q = tt
greater_below b Null (Text t) p q = tt
greater_below b (Int x) (Text t) p q = tt
greater_below b (Text s) (Text t) p q = either_below b (is_lt (value_cmp (Text s) (Text t))) (Text t) (Text s) tt tt

least_below : (b : ℕ) (vs : List Value) (v : Value) → IsBelow b v → EachBelow b vs → IsBelow b (fold lesser v vs)
least_below b [] v p q = p
least_below b (w ∷ vs) v p q = least_below b vs (lesser v w) (lesser_below b v w p q.0) q.1

greatest_below : (b : ℕ) (vs : List Value) (v : Value) → IsBelow b v → EachBelow b vs → IsBelow b (fold greater v vs)
greatest_below b [] v p q = p
greatest_below b (w ∷ vs) v p q = greatest_below b vs (greater v w) (greater_below b v w p q.0) q.1

-- what an operand gives lies below its bound; without an operand there is NULL alone
abbrev pub OperandsBelow : List ℕ → Option ℕ → List Value → Type 0
OperandsBelow bs None vs = (b : ℕ) → EachBelow b vs
OperandsBelow bs (Some a) vs = EachBelow (bound_at bs a) vs

few_fit : (n : ℕ) → n ≤ 2 ^ 30 → n < 2 ^ 31
few_fit n h = lt_of_le_of_lt h (omega arith)

pub aggregate_below : (f : Fold) (bs : List ℕ) (a : Option ℕ) (vs : List Value) → OperandsBelow bs a vs → length vs ≤ 2 ^ 30
    → is_narrow (fold_bound f bs a) ≡ true → FoldFits f vs × IsBelow (fold_bound f bs a) (aggregate f vs)
aggregate_below of.CountRows bs a vs p few narrow = (tt, few_fit (length vs) few)
aggregate_below of.Count bs a vs p few narrow = (tt, few_fit (fold count_value 0 vs) (le_trans (count_few 0 vs) (omega arith)))
aggregate_below of.Sum bs None vs p few narrow =
    let sums = sums_below 0 0 vs Null tt (p 0) (omega arith) (omega arith) in (sums.0, wider (30 + 0) 30 (fold add_value Null vs) (omega arith) sums.1)
aggregate_below of.Sum bs (Some a) vs p few narrow = sums_below (bound_at bs a) 0 vs Null tt p (omega arith) (leb-true (30 + bound_at bs a) 126 narrow)
aggregate_below of.Min bs None vs p few narrow = (tt, least_below 1 vs Null tt (p 1))
aggregate_below of.Min bs (Some a) vs p few narrow = (tt, least_below (bound_at bs a) vs Null tt p)
aggregate_below of.Max bs None vs p few narrow = (tt, greatest_below 1 vs Null tt (p 1))
aggregate_below of.Max bs (Some a) vs p few narrow = (tt, greatest_below (bound_at bs a) vs Null tt p)
