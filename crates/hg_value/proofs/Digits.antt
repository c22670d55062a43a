-- Numbers and the bytes that spell them, the least byte first and the highest first.
use Rattle.std.proofs.Common.{◌≡◌, ℕ, zero, suc, ◌+◌, ◌*◌, ◌/◌, ◌%◌, ◌^◌, ◌<◌, List, [], ◌∷◌, length, get_or, refl, sym, ap, ◌∙◌, arith, add_assoc}
use Rattle.std.specs.Int.{byte_at, byte_worth, bytes_low_first, bytes_high_first, sum_through}
use Rattle.std.specs.List.{AllByRecursion}
use Rattle.std.proofs.Math.Nat.{div-div-eq-div-mul, pow-zero, pow-suc, mul_comm}
use Rattle.std.proofs.lemmas.Nat.{div_below}
use Rattle.std.proofs.Math.Nat as nat

-- the number that bytes spell, the least first
abbrev pub number : List ℕ → ℕ
number [] = 0
number (b ∷ bs) = b + 256 * number bs

pub length-low_first : (i k n : ℕ) → length (bytes_low_first i k n) ≡ k
length-low_first i zero n = refl
length-low_first i (suc k) n = ap suc (length-low_first (suc i) k n)

pub length-high_first : (k n : ℕ) → length (bytes_high_first k n) ≡ k
length-high_first zero n = refl
length-high_first (suc k) n = ap suc (length-high_first k n)

pow_up : (k : ℕ) → 256 ^ suc k ≡ 256 * 256 ^ k
pow_up k = omega (arith, pow-suc 256 k)

pub byte_at-suc : (i n : ℕ) → byte_at (suc i) n ≡ byte_at i (n / 256)
byte_at-suc zero n = ap (λ p. n / p % 256) (pow_up 0 ∙ (let e : 256 * 256 ^ 0 ≡ 256 = refl in e))
byte_at-suc (suc i) n = ap (λ m. m % 256) (ap (λ p. n / p) (pow_up (suc i)) ∙ sym (div-div-eq-div-mul n 256 (256 ^ suc i)))

pub low_first-suc : (i k n : ℕ) → bytes_low_first (suc i) k n ≡ bytes_low_first i k (n / 256)
low_first-suc i zero n = refl
low_first-suc i (suc k) n = λ j. byte_at-suc i n j ∷ low_first-suc (suc i) k n j

-- a number is what its bytes spell
pub number-low_first : (k n : ℕ) → n < 256 ^ k → number (bytes_low_first 0 k n) ≡ n
number-low_first zero n h = omega (arith, pow-zero 256)
number-low_first (suc k) n h =
    let p : n / 256 < 256 ^ k = div_below n 256 (256 ^ k) (omega arith) (omega (arith, pow_up k)) in
    ap (λ m. n % 256 + 256 * m) (ap number (low_first-suc 0 k n) ∙ number-low_first k (n / 256) p) ∙ omega arith

-- bytes are those of the number that they spell
pub low_first-number : (bs : List ℕ) → AllByRecursion (λ b. b < 256) bs → bytes_low_first 0 (length bs) (number bs) ≡ bs
low_first-number [] h = refl
low_first-number (b ∷ bs) h =
    let p : b < 256 = h.0 in
    let low : (b + 256 * number bs) % 256 ≡ b = omega arith in
    let rest : (b + 256 * number bs) / 256 ≡ number bs = omega arith in
    let more : bytes_low_first 1 (length bs) (b + 256 * number bs) ≡ bs =
    low_first-suc 0 (length bs) (b + 256 * number bs) ∙ ap (bytes_low_first 0 (length bs)) rest ∙ low_first-number bs h.1 in
    λ j. low j ∷ more j

pub number_below : (bs : List ℕ) → AllByRecursion (λ b. b < 256) bs → number bs < 256 ^ length bs
number_below [] h = omega (arith, pow-zero 256)
number_below (b ∷ bs) h = let p : b < 256 = h.0 in omega (arith, pow_up (length bs), number_below bs h.1)

sum_through-suc : (f : ℕ → ℕ) (k : ℕ) → sum_through f (suc k) ≡ f 0 + sum_through (λ i. f (suc i)) k
sum_through-suc f zero = refl
sum_through-suc f (suc k) = ap (λ s. s + f (suc (suc k))) (sum_through-suc f k) ∙ add_assoc (f 0) _ _

sum_through-scaled : (f g : ℕ → ℕ) (k : ℕ) → ((i : ℕ) → f i ≡ 256 * g i) → sum_through f k ≡ 256 * sum_through g k
sum_through-scaled f g zero h = h 0
sum_through-scaled f g (suc k) h = omega (arith, sum_through-scaled f g k h, h (suc k))

worth-suc : (i b : ℕ) → byte_worth (suc i) b ≡ 256 * byte_worth i b
worth-suc zero b = omega (arith, ap (λ p. b * p) (pow_up 0))
worth-suc (suc i) b =
    ap (λ p. b * p) (pow_up (suc i)) ∙ sym (nat.mul_assoc b 256 (256 ^ suc i)) ∙ ap (λ m. m * 256 ^ suc i) (mul_comm b 256)
    ∙ nat.mul_assoc 256 b (256 ^ suc i)

-- a sum of bytes by their places is the number that they spell
pub sum_through-number : (k : ℕ) (bs : List ℕ) → length bs ≡ suc k → sum_through (λ i. byte_worth i (get_or bs i 0)) k ≡ number bs
sum_through-number k [] l = absurd (omega arith)
sum_through-number zero (b ∷ []) l = omega arith
sum_through-number zero (b ∷ c ∷ bs) l = absurd (omega arith)
sum_through-number (suc k) (b ∷ bs) l =
    sum_through-suc (λ i. byte_worth i (get_or (b ∷ bs) i 0)) k
    ∙ ap (λ s. b + s) (sum_through-scaled (λ i. byte_worth (suc i) (get_or bs i 0)) (λ i. byte_worth i (get_or bs i 0)) k (λ i. worth-suc i (get_or bs i 0))
    ∙ ap (λ s. 256 * s) (sum_through-number k bs (omega arith)))
