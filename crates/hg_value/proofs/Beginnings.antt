-- What stands at the front of bytes.
use Rattle.std.proofs.Common.{◌≡◌, ℕ, ℤ, zero, suc, ◌+◌, ◌-◌, ◌<◌, ◌≤◌, Bool, true, false, List, [], ◌∷◌, length, take, drop, get_or, refl, sym, ap, ◌∙◌, arith, length-append, length-take-le, Some}
use Rattle.std.specs.Prelude.{IsTrue, FitsSigned, if◌then◌else◌, ◌==◌, ◌&&◌, nat_le, slice_get}
use Rattle.std.specs.Int.{w32, w128}
use Rattle.std.specs.List.{AllByRecursion, list_all}
use Rattle.std.proofs.lemmas.Bool.Decides.{nat_tests}
use Rattle.std.proofs.lemmas.Bool.{and_parts}
use Rattle.std.proofs.lemmas.List.{take_at}
use Rattle.hg_model.specs.Tables.{fits_integer}
use Rattle.hg_model.specs.Value.{is_printable, is_chars}
use Rattle.hg_model.specs.declared.values.Value.{Value}
use Rattle.hg_model.specs.declared.values.Value.TheVariants.{Null, Int, Text}
use Rattle.hg_value.specs.Coding.{coding, narrow, wide, IsHeld}
use Rattle.hg_value.specs.RowParts.{narrow_number, wide_number, decoded, IsCoding, BeginsWith, BeginsWithNone}
use Rattle.hg_value.proofs.Codings.{front, front_is, length-narrow, length-wide, coding_narrow, coding_wide, narrow_read, wide_read, fits_narrow, read_wide}

-- ---- what a coding is made of, by its first byte

pub narrow_rest : (v : Value) → get_or (coding v) 0 0 ≡ 1 → length (drop 1 (coding v)) ≡ 4
narrow_rest Null e = absurd (omega arith)
narrow_rest (Int x) e = by (fits_integer x) e
  where
    by : (b : Bool) → get_or (if b then 1 ∷ narrow x else 3 ∷ wide x) 0 0 ≡ 1 → length (drop 1 (if b then 1 ∷ narrow x else 3 ∷ wide x)) ≡ 4
    by true p = length-narrow x
    by false p = absurd (omega arith)
narrow_rest (Text t) e = absurd (omega arith)

pub wide_rest : (v : Value) → get_or (coding v) 0 0 ≡ 3 → length (drop 1 (coding v)) ≡ 16
wide_rest Null e = absurd (omega arith)
wide_rest (Int x) e = by (fits_integer x) e
  where
    by : (b : Bool) → get_or (if b then 1 ∷ narrow x else 3 ∷ wide x) 0 0 ≡ 3 → length (drop 1 (if b then 1 ∷ narrow x else 3 ∷ wide x)) ≡ 16
    by true p = absurd (omega arith)
    by false p = length-wide x
wide_rest (Text t) e = absurd (omega arith)

-- ---- what a coding is read as, by its first byte

pub decoded_narrow : (bytes : List ℕ) → get_or bytes 0 0 ≡ 1 → decoded bytes ≡ Int (narrow_number (drop 1 bytes))
unfolding decoded
decoded_narrow [] e = absurd (omega arith)
decoded_narrow (b ∷ bs) e = ap (λ f. decoded (f ∷ bs)) e

pub decoded_text : (bytes : List ℕ) → get_or bytes 0 0 ≡ 2 → decoded bytes ≡ Text (drop 1 (drop 1 bytes))
unfolding decoded
decoded_text [] e = absurd (omega arith)
decoded_text (b ∷ bs) e = ap (λ f. decoded (f ∷ bs)) e

pub decoded_wide : (bytes : List ℕ) → get_or bytes 0 0 ≡ 3 → decoded bytes ≡ Int (wide_number (drop 1 bytes))
unfolding decoded
decoded_wide [] e = absurd (omega arith)
decoded_wide (b ∷ bs) e = ap (λ f. decoded (f ∷ bs)) e

-- ---- the front of bytes

none_short : (bytes : List ℕ) → length bytes < front bytes → BeginsWithNone bytes
none_short bytes l v rest h e =
    let long : length (coding v) ≡ front bytes = sym (front_is v rest) ∙ ap front e in
    absurd (omega (arith, length-append (coding v) rest, ap length e))

none_unlike : (bytes : List ℕ) → ((v : Value) → IsHeld v → coding v ≡ take (front bytes) bytes → ⊥) → BeginsWithNone bytes
none_unlike bytes differs v rest h e =
    let long : length (coding v) ≡ front bytes = sym (front_is v rest) ∙ ap front e in
    differs v h (sym (take_at (coding v) rest (front bytes) long) ∙ ap (take (front bytes)) e)

all_bytes : (bs : List ℕ) → ((i : ℕ) → get_or bs i 0 < 256) → AllByRecursion (λ b. b < 256) bs
all_bytes [] h = tt
all_bytes (b ∷ bs) h = (h 0, all_bytes bs (λ i. h (suc i)))

take_bytes : (n : ℕ) (bs : List ℕ) → AllByRecursion (λ b. b < 256) bs → AllByRecursion (λ b. b < 256) (take n bs)
take_bytes zero bs h = tt
take_bytes (suc n) [] h = tt
take_bytes (suc n) (b ∷ bs) h = (h.0, take_bytes n bs h.1)

narrower : (x : ℤ) → FitsSigned w32 x → FitsSigned w128 x
narrower x f = record { sfits = omega (arith, f.sfits) }

pub begins_narrow : (bytes : List ℕ) → ((i : ℕ) → get_or bytes i 0 < 256) → slice_get bytes 0 ≡ Some 1 → 5 ≤ length bytes → BeginsWith bytes 5
begins_narrow [] small e l = absurd (omega arith)
begins_narrow (b ∷ bs) small e l =
    let n : length (take 4 bs) ≡ 4 = length-take-le 4 bs (omega arith) in
    let r = narrow_read (take 4 bs) n (take_bytes 4 bs (all_bytes bs (λ i. small (suc i)))) in
    let x : ℤ = narrow_number (take 4 bs) in
    let first : b ≡ 1 = cc in
    record { within = l; spells = record { value = Int x; held = narrower x r.1; is = (λ i. first i ∷ sym r.0 i) ∙ sym (coding_narrow x (fits_narrow x r.1)) } }

pub none_narrow : (bytes : List ℕ) → slice_get bytes 0 ≡ Some 1 → length bytes < 5 → BeginsWithNone bytes
none_narrow [] e l = absurd cc
none_narrow (b ∷ bs) e l =
    let first : b ≡ 1 = cc in
    let f : front (b ∷ bs) ≡ 5 = ap (λ m. front (m ∷ bs)) first in
    none_short (b ∷ bs) (omega arith)

pub begins_wide : (bytes : List ℕ) → ((i : ℕ) → get_or bytes i 0 < 256) → slice_get bytes 0 ≡ Some 3 → 17 ≤ length bytes
    → fits_integer (wide_number (take 16 (drop 1 bytes))) ≡ false → BeginsWith bytes 17
begins_wide [] small e l n = absurd (omega arith)
begins_wide (b ∷ bs) small e l other =
    let n : length (take 16 bs) ≡ 16 = length-take-le 16 bs (omega arith) in
    let r = wide_read (take 16 bs) n (take_bytes 16 bs (all_bytes bs (λ i. small (suc i)))) in
    let x : ℤ = wide_number (take 16 bs) in
    let first : b ≡ 3 = cc in
    record { within = l; spells = record { value = Int x; held = r.1; is = (λ i. first i ∷ sym r.0 i) ∙ sym (coding_wide x other) } }

pub none_wide : (bytes : List ℕ) → slice_get bytes 0 ≡ Some 3 → length bytes < 17 → BeginsWithNone bytes
none_wide [] e l = absurd cc
none_wide (b ∷ bs) e l =
    let first : b ≡ 3 = cc in
    let f : front (b ∷ bs) ≡ 17 = ap (λ m. front (m ∷ bs)) first in
    none_short (b ∷ bs) (omega arith)

not_wide_int : (x : ℤ) (rest : List ℕ) → FitsSigned w128 x → (t : Bool) → fits_integer x ≡ t → (if t then 1 ∷ narrow x else 3 ∷ wide x) ≡ 3 ∷ rest
    → fits_integer (wide_number rest) ≡ false
not_wide_int x rest f true p e = absurd cc
not_wide_int x rest f false p e =
    let same : wide x ≡ rest = cc in
    ap (λ r. fits_integer (wide_number r)) (sym same) ∙ ap fits_integer (read_wide x f) ∙ p

wide_value : (v : Value) (rest : List ℕ) → IsHeld v → coding v ≡ 3 ∷ rest → fits_integer (wide_number rest) ≡ false
wide_value Null rest h e = absurd cc
wide_value (Int x) rest h e = not_wide_int x rest h (fits_integer x) refl e
wide_value (Text t) rest h e = absurd cc

-- sixteen bytes that spell a number of 32 bits
pub none_wide_narrow : (bytes : List ℕ) → slice_get bytes 0 ≡ Some 3
    → fits_integer (wide_number (take 16 (drop 1 bytes))) ≡ true → BeginsWithNone bytes
none_wide_narrow [] e known = absurd cc
none_wide_narrow (b ∷ bs) e known =
    let first : b ≡ 3 = cc in
    let f : front (b ∷ bs) ≡ 17 = ap (λ m. front (m ∷ bs)) first in
    none_unlike (b ∷ bs) (λ v h k.
    let other : fits_integer (wide_number (take 16 bs)) ≡ false =
    wide_value v (take 16 bs) h (k ∙ ap (λ n. take n (b ∷ bs)) f ∙ ap (λ m. m ∷ take 16 bs) first) in
    absurd cc)

pub begins_text : (bytes : List ℕ) (n : ℕ) → ((i : ℕ) → get_or bytes i 0 < 256) → slice_get bytes 0 ≡ Some 2 → 2 ≤ length bytes
    → n ≡ 2 + get_or bytes 1 0 → n ≤ length bytes → list_all is_printable (take (n - 2) (drop 2 bytes)) ≡ true → BeginsWith bytes n
begins_text [] n small e two is l p = absurd (omega arith)
begins_text (b ∷ []) n small e two is l p = absurd (omega arith)
begins_text (b ∷ m ∷ bs) n small e two is l p =
    let first : b ≡ 2 = cc in
    let left : n - 2 ≡ m = omega arith in
    let long : length (take m bs) ≡ m = length-take-le m bs (omega arith) in
    let byte : m < 256 = small 1 in
    let fits : nat_le (length (take m bs)) 255 ≡ true = grind (arith, nat_tests) in
    let all : list_all is_printable (take m bs) ≡ true = ap (λ k. list_all is_printable (take k bs)) (sym left) ∙ p in
    let chars : IsTrue (is_chars (take m bs)) = (λ i. all i && fits i) in
    let parts : take (2 + m) (b ∷ m ∷ bs) ≡ b ∷ m ∷ take m bs = (let k : 2 + m ≡ suc (suc m) = omega arith in ap (λ j. take j (b ∷ m ∷ bs)) k) in
    record { within = l; spells = record { value = Text (take m bs); held = chars; is = ap (λ k. take k (b ∷ m ∷ bs)) is ∙ parts ∙ (λ i. first i ∷ sym long i ∷ take m bs) } }

pub none_text : (bytes : List ℕ) → slice_get bytes 0 ≡ Some 2 → length bytes < 2 + get_or bytes 1 0 → BeginsWithNone bytes
none_text [] e l = absurd cc
none_text (b ∷ bs) e l =
    let first : b ≡ 2 = cc in
    let f : front (b ∷ bs) ≡ 2 + get_or bs 0 0 = ap (λ m. front (m ∷ bs)) first in
    none_short (b ∷ bs) (omega arith)

text_value_int : (x : ℤ) (m : ℕ) (rest : List ℕ) → (t : Bool) → (if t then 1 ∷ narrow x else 3 ∷ wide x) ≡ 2 ∷ m ∷ rest → ⊥
text_value_int x m rest true e = cc
text_value_int x m rest false e = cc

text_value : (v : Value) (m : ℕ) (rest : List ℕ) → IsHeld v → coding v ≡ 2 ∷ m ∷ rest → list_all is_printable rest ≡ true
text_value Null m rest h e = absurd cc
text_value (Int x) m rest h e = absurd (text_value_int x m rest (fits_integer x) e)
text_value (Text t) m rest h e =
    let same : t ≡ rest = cc in
    ap (list_all is_printable) (sym same) ∙ (and_parts _ _ h).0

-- a text with another character
pub none_text_other : (bytes : List ℕ) (n : ℕ) → slice_get bytes 0 ≡ Some 2 → 2 ≤ length bytes
    → n ≡ 2 + get_or bytes 1 0 → list_all is_printable (take (n - 2) (drop 2 bytes)) ≡ false → BeginsWithNone bytes
none_text_other [] n e two is p = absurd cc
none_text_other (b ∷ []) n e two is p = absurd (omega arith)
none_text_other (b ∷ m ∷ bs) n e two is p =
    let first : b ≡ 2 = cc in
    let f : front (b ∷ m ∷ bs) ≡ 2 + m = ap (λ k. front (k ∷ m ∷ bs)) first in
    let left : n - 2 ≡ m = omega arith in
    let parts : take (2 + m) (b ∷ m ∷ bs) ≡ b ∷ m ∷ take m bs = (let k : 2 + m ≡ suc (suc m) = omega arith in ap (λ j. take j (b ∷ m ∷ bs)) k) in
    none_unlike (b ∷ m ∷ bs) (λ v h k.
    let good : list_all is_printable (take m bs) ≡ true =
    text_value v m (take m bs) h (k ∙ ap (λ j. take j (b ∷ m ∷ bs)) f ∙ parts ∙ ap (λ j. j ∷ m ∷ take m bs) first) in
    let bad : list_all is_printable (take m bs) ≡ false = ap (λ j. list_all is_printable (take j bs)) (sym left) ∙ p in
    absurd cc)

-- ---- the parts of a coding

pub four_bytes : (bytes : List ℕ) → IsCoding bytes → get_or bytes 0 0 ≡ 1 → length (drop 1 bytes) ≡ 4
four_bytes bytes c e = ap (λ b. length (drop 1 b)) c.is ∙ narrow_rest c.value (ap (λ b. get_or b 0 0) (sym c.is) ∙ e)

pub sixteen_bytes : (bytes : List ℕ) → IsCoding bytes → get_or bytes 0 0 ≡ 3 → length (drop 1 bytes) ≡ 16
sixteen_bytes bytes c e = ap (λ b. length (drop 1 b)) c.is ∙ wide_rest c.value (ap (λ b. get_or b 0 0) (sym c.is) ∙ e)

pub decoded_other : (bytes : List ℕ) → (get_or bytes 0 0 ≡ 1 → ⊥) → (get_or bytes 0 0 ≡ 2 → ⊥) → (get_or bytes 0 0 ≡ 3 → ⊥) → decoded bytes ≡ Null
unfolding decoded
decoded_other [] p q r = refl
decoded_other (b ∷ bs) p q r =
    let one : (b == 1) ≡ false = grind (arith, nat_tests) in
    let two : (b == 2) ≡ false = grind (arith, nat_tests) in
    let three : (b == 3) ≡ false = grind (arith, nat_tests) in
    (λ i. if one i then Int (narrow_number bs) else (if two i then Text (drop 1 bs) else (if three i then Int (wide_number bs) else Null)))
