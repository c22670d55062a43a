-- A coding spells one value, and nothing that stands behind it.
use Rattle.std.proofs.Common.{◌≡◌, ℕ, ℤ, pos, negsuc, suc, ◌+◌, ◌^◌, ◌<◌, ◌≤◌, Bool, true, false, List, [], ◌∷◌, ◌++◌, length, take, drop, get_or, refl, sym, ap, ◌∙◌, subst, arith, append_assoc, length-append}
use Rattle.std.specs.Prelude.{FitsSigned, if◌then◌else◌, ◌==◌}
use Rattle.std.specs.Int.{w32, w128, to_le_bytes, from_le_bytes, cast_signed, cast_unsigned, bytes_low_first}
use Rattle.std.specs.List.{AllByRecursion}
use Rattle.std.proofs.lemmas.Bool.Decides.{nat_tests}
use Rattle.std.proofs.lemmas.Int.{to_z-of_z, of_z-to_z}
use Rattle.std.proofs.lemmas.List.Sums.{sum_by-cons}
use Rattle.std.proofs.Math.Facts.{sfits_to_z}
use Rattle.std.proofs.lemmas.List.{take_at, drop_at}
use Rattle.hg_model.specs.Changes.{value_length, row_length}
use Rattle.hg_model.specs.Tables.{fits_integer}
use Rattle.hg_model.specs.declared.values.Value.{Value}
use Rattle.hg_model.specs.declared.values.Value.TheVariants.{Null, Int, Text}
use Rattle.hg_value.specs.Coding.{coding, coded, narrow, wide, IsHeld}
use Rattle.hg_value.specs.RowParts.{narrow_number, wide_number, decoded}
use Rattle.hg_value.proofs.Digits.{number, length-low_first, number-low_first, low_first-number, number_below, sum_through-number}

-- ---- numbers in four bytes

pub length-narrow : (x : ℤ) → length (narrow x) ≡ 4
unfolding narrow
length-narrow x = length-low_first 0 4 (cast_unsigned w32 x)

pub length-wide : (x : ℤ) → length (wide x) ≡ 16
unfolding wide
length-wide x = length-low_first 0 16 (cast_unsigned w128 x)

pub narrow_fits : (x : ℤ) → fits_integer x ≡ true → FitsSigned w32 x
narrow_fits (pos n) h = record { sfits = grind (arith, nat_tests) }
narrow_fits (negsuc n) h = record { sfits = grind (arith, nat_tests) }

pub fits_narrow : (x : ℤ) → FitsSigned w32 x → fits_integer x ≡ true
fits_narrow (pos n) h = let p = h.sfits in grind (arith, nat_tests)
fits_narrow (negsuc n) h = let p = h.sfits in grind (arith, nat_tests)

unsigned_below : (x : ℤ) → FitsSigned w32 x → cast_unsigned w32 x < 256 ^ 4
unsigned_below (pos n) h = omega (arith, h.sfits)
unsigned_below (negsuc n) h = omega (arith, h.sfits)

unsigned_below_wide : (x : ℤ) → FitsSigned w128 x → cast_unsigned w128 x < 256 ^ 16
unsigned_below_wide (pos n) h = omega (arith, h.sfits)
unsigned_below_wide (negsuc n) h = omega (arith, h.sfits)

signed_fits : (n : ℕ) → n < 256 ^ 4 → FitsSigned w32 (cast_signed w32 n)
signed_fits n h = sfits_to_z (record { fits = h })

signed_fits_wide : (n : ℕ) → n < 256 ^ 16 → FitsSigned w128 (cast_signed w128 n)
signed_fits_wide n h = sfits_to_z (record { fits = h })

-- four bytes are read as the number that they were written from
pub read_narrow : (x : ℤ) → fits_integer x ≡ true → narrow_number (narrow x) ≡ x
unfolding narrow narrow_number
read_narrow x h =
    let f : FitsSigned w32 x = narrow_fits x h in
    ap (cast_signed w32)
    (sum_through-number 3 (bytes_low_first 0 4 (cast_unsigned w32 x)) (length-low_first 0 4 (cast_unsigned w32 x))
    ∙ number-low_first 4 (cast_unsigned w32 x) (unsigned_below x f))
    ∙ to_z-of_z w32 x f

pub read_wide : (x : ℤ) → FitsSigned w128 x → wide_number (wide x) ≡ x
unfolding wide wide_number
read_wide x f =
    ap (cast_signed w128)
    (sum_through-number 15 (bytes_low_first 0 16 (cast_unsigned w128 x)) (length-low_first 0 16 (cast_unsigned w128 x))
    ∙ number-low_first 16 (cast_unsigned w128 x) (unsigned_below_wide x f))
    ∙ to_z-of_z w128 x f

-- four bytes are those of the number that is read from them
pub narrow_read : (bs : List ℕ) → length bs ≡ 4 → AllByRecursion (λ b. b < 256) bs
    → (narrow (narrow_number bs) ≡ bs) × FitsSigned w32 (narrow_number bs)
unfolding narrow narrow_number
narrow_read bs l h =
    let n : from_le_bytes w32 bs ≡ number bs = sum_through-number 3 bs l in
    let small : from_le_bytes w32 bs < 256 ^ 4 = subst (λ k. from_le_bytes w32 bs < 256 ^ k) l (subst (λ m. m < 256 ^ length bs) (sym n) (number_below bs h)) in (
      ap (bytes_low_first 0 4) (of_z-to_z w32 (from_le_bytes w32 bs) small ∙ n)
          ∙ ap (λ k. bytes_low_first 0 k (number bs)) (sym l) ∙ low_first-number bs h,
      signed_fits (from_le_bytes w32 bs) small,
    )

pub wide_read : (bs : List ℕ) → length bs ≡ 16 → AllByRecursion (λ b. b < 256) bs
    → (wide (wide_number bs) ≡ bs) × FitsSigned w128 (wide_number bs)
unfolding wide wide_number
wide_read bs l h =
    let n : from_le_bytes w128 bs ≡ number bs = sum_through-number 15 bs l in
    let small : from_le_bytes w128 bs < 256 ^ 16 = subst (λ k. from_le_bytes w128 bs < 256 ^ k) l (subst (λ m. m < 256 ^ length bs) (sym n) (number_below bs h)) in (
      ap (bytes_low_first 0 16) (of_z-to_z w128 (from_le_bytes w128 bs) small ∙ n)
          ∙ ap (λ k. bytes_low_first 0 k (number bs)) (sym l) ∙ low_first-number bs h,
      signed_fits_wide (from_le_bytes w128 bs) small,
    )

-- ---- lengths

pub coding_narrow : (x : ℤ) → fits_integer x ≡ true → coding (Int x) ≡ 1 ∷ narrow x
coding_narrow x h = ap (λ b. if b then 1 ∷ narrow x else 3 ∷ wide x) h

pub coding_wide : (x : ℤ) → fits_integer x ≡ false → coding (Int x) ≡ 3 ∷ wide x
coding_wide x h = ap (λ b. if b then 1 ∷ narrow x else 3 ∷ wide x) h

length_int : (x : ℤ) (b : Bool) → length (if b then 1 ∷ narrow x else 3 ∷ wide x) ≡ (if b then 5 else 17)
length_int x true = ap suc (length-narrow x)
length_int x false = ap suc (length-wide x)

pub length-coding : (v : Value) → length (coding v) ≡ value_length v
length-coding Null = refl
length-coding (Int x) = length_int x (fits_integer x)
length-coding (Text t) = omega arith

pub length-coded : (vs : List Value) → length (coded vs) ≡ row_length vs
length-coded [] = refl
length-coded (v ∷ vs) = length-append (coding v) (coded vs) ∙ (λ i. length-coding v i + length-coded vs i) ∙ sym (sum_by-cons value_length v vs)

-- ---- one reading

decoded_int : (x : ℤ) → FitsSigned w128 x → (b : Bool) → fits_integer x ≡ b → decoded (if b then 1 ∷ narrow x else 3 ∷ wide x) ≡ Int x
unfolding decoded
decoded_int x f true e = ap Int (read_narrow x e)
decoded_int x f false e = ap Int (read_wide x f)

-- a coding spells its value
pub decoded-coding : (v : Value) → IsHeld v → decoded (coding v) ≡ v
unfolding decoded
decoded-coding Null h = refl
decoded-coding (Int x) h = decoded_int x h (fits_integer x) refl
decoded-coding (Text t) h = refl

-- how many bytes a value has, by its first bytes
abbrev pub front : List ℕ → ℕ
front [] = 0
front (form ∷ rest) = if form == 1 then 5 else (if form == 2 then 2 + get_or rest 0 0 else (if form == 3 then 17 else 1))

front_int : (x : ℤ) (r : List ℕ) (b : Bool) → front ((if b then 1 ∷ narrow x else 3 ∷ wide x) ++ r) ≡ (if b then 5 else 17)
front_int x r true = refl
front_int x r false = refl

pub front_is : (v : Value) (r : List ℕ) → front (coding v ++ r) ≡ length (coding v)
front_is Null r = refl
front_is (Int x) r = front_int x r (fits_integer x) ∙ sym (length_int x (fits_integer x))
front_is (Text t) r = omega arith

pub one_reading : (v w : Value) (r s : List ℕ) → IsHeld v → IsHeld w → coding v ++ r ≡ coding w ++ s → (v ≡ w) × (r ≡ s)
one_reading v w r s h k e =
    let long : length (coding w) ≡ length (coding v) = sym (front_is w s) ∙ ap front (sym e) ∙ front_is v r in
    let same : coding v ≡ coding w =
    sym (take_at (coding v) r (length (coding v)) refl) ∙ ap (take (length (coding v))) e ∙ take_at (coding w) s (length (coding v)) long in (
      sym (decoded-coding v h) ∙ ap decoded same ∙ decoded-coding w k,
      sym (drop_at (coding v) r (length (coding v)) refl) ∙ ap (drop (length (coding v))) e ∙ drop_at (coding w) s (length (coding v)) long,
    )

-- a row that begins as another: its further values are what stands behind
pub record GoesOn (vs ws : List Value) (rest : List ℕ) : Type 0 where
  pub more : List Value
  pub held : AllByRecursion IsHeld more
  pub whole : ws ≡ vs ++ more
  pub spelled : rest ≡ coded more

pub going_on : (vs ws : List Value) (rest : List ℕ) → AllByRecursion IsHeld vs → AllByRecursion IsHeld ws → length vs ≤ length ws
    → coded vs ++ rest ≡ coded ws → GoesOn vs ws rest
going_on [] ws rest h k l e = record { more = ws; held = k; whole = refl; spelled = e }
going_on (v ∷ vs) [] rest h k l e = absurd (omega arith)
going_on (v ∷ vs) (w ∷ ws) rest h k l e =
    let both = one_reading v w (coded vs ++ rest) (coded ws) h.0 k.0 (sym (append_assoc (coding v) (coded vs) rest) ∙ e) in
    let r = going_on vs ws rest h.1 k.1 (omega arith) both.1 in
    record { more = r.more; held = r.held; whole = λ i. sym both.0 i ∷ r.whole i; spelled = r.spelled }

pub one_row : (vs ws : List Value) (xs ys : List ℕ) → AllByRecursion IsHeld vs → AllByRecursion IsHeld ws → length vs ≡ length ws
    → coded vs ++ xs ≡ coded ws ++ ys → (vs ≡ ws) × (xs ≡ ys)
one_row [] [] xs ys h k l e = (refl, e)
one_row [] (w ∷ ws) xs ys h k l e = absurd (omega arith)
one_row (v ∷ vs) [] xs ys h k l e = absurd (omega arith)
one_row (v ∷ vs) (w ∷ ws) xs ys h k l e =
    let both = one_reading v w (coded vs ++ xs) (coded ws ++ ys) h.0 k.0
    (sym (append_assoc (coding v) (coded vs) xs) ∙ e ∙ append_assoc (coding w) (coded ws) ys) in
    let r = one_row vs ws xs ys h.1 k.1 (omega arith) both.1 in
    ((λ i. both.0 i ∷ r.0 i), r.1)

-- ---- writing and reading a number

pub long_narrow : (x : ℤ) → fits_integer x ≡ true → length (coding (Int x)) ≡ 5
long_narrow x h = ap length (coding_narrow x h) ∙ ap suc (length-narrow x)

pub long_wide : (x : ℤ) → fits_integer x ≡ false → length (coding (Int x)) ≡ 17
long_wide x h = ap length (coding_wide x h) ∙ ap suc (length-wide x)

-- a number that was cast is the number
pub cast_128 : (x : ℤ) → FitsSigned w128 x → cast_signed w128 (cast_unsigned w128 x) ≡ x
cast_128 x f = to_z-of_z w128 x f

cast_32 : (x : ℤ) → FitsSigned w128 x → fits_integer x ≡ true → cast_signed w32 (cast_unsigned w32 (cast_signed w128 (cast_unsigned w128 x))) ≡ x
cast_32 x f h = ap (λ z. cast_signed w32 (cast_unsigned w32 z)) (cast_128 x f) ∙ to_z-of_z w32 x (narrow_fits x h)

pub written_narrow : (old bs : List ℕ) (x : ℤ) → FitsSigned w128 x → fits_integer x ≡ true
    → bs ≡ to_le_bytes w32 (cast_unsigned w32 (cast_signed w32 (cast_unsigned w32 (cast_signed w128 (cast_unsigned w128 x)))))
    → (old ++ 1 ∷ []) ++ bs ≡ old ++ coding (Int x)
unfolding narrow
written_narrow old bs x f h e =
    append_assoc old (1 ∷ []) bs
    ∙ ap (λ r. old ++ r) (ap (λ r. 1 ∷ r) (e ∙ ap (λ z. to_le_bytes w32 (cast_unsigned w32 z)) (cast_32 x f h)) ∙ sym (coding_narrow x h))

pub written_wide : (old bs : List ℕ) (x : ℤ) → FitsSigned w128 x → fits_integer x ≡ false
    → bs ≡ to_le_bytes w128 (cast_unsigned w128 (cast_signed w128 (cast_unsigned w128 x)))
    → (old ++ 3 ∷ []) ++ bs ≡ old ++ coding (Int x)
unfolding wide
written_wide old bs x f h e =
    append_assoc old (3 ∷ []) bs
    ∙ ap (λ r. old ++ r) (ap (λ r. 3 ∷ r) (e ∙ ap (λ z. to_le_bytes w128 (cast_unsigned w128 z)) (cast_128 x f)) ∙ sym (coding_wide x h))

-- what a test of a number has told
pub told : (x : ℤ) (r b : Bool) → FitsSigned w128 x → r ≡ fits_integer (cast_signed w128 (cast_unsigned w128 x)) → r ≡ b → fits_integer x ≡ b
told x r b f e t = ap fits_integer (sym (to_z-of_z w128 x f)) ∙ sym e ∙ t
