-- the text of a line, and a line of which the first 4,097 bytes were kept
use Rattle.std.proofs.Common.{◌≡◌, ◌≢◌, ℕ, ◌<◌, ◌≤◌, Bool, true, false, List, [], ◌∷◌, ◌++◌, length, take, ◌==◌, if◌then◌else◌, refl, sym, ap, ◌∙◌, arith, length-take}
use Rattle.std.proofs.lemmas.Bool.Decides.{nat_tests}
use Rattle.std.proofs.lemmas.List.{take_all}
use Rattle.hg_model.specs.Script.{without_return, text_of_line}

either_cons : (x : ℕ) (t : Bool) (xs ys : List ℕ) → x ∷ (if t then xs else ys) ≡ (if t then x ∷ xs else x ∷ ys)
either_cons x true xs ys = refl
either_cons x false xs ys = refl

pub without_return-last : (xs : List ℕ) (b : ℕ) → without_return (xs ++ b ∷ []) ≡ (if b == 13 then xs else xs ++ b ∷ [])
without_return-last [] b = refl
without_return-last (x ∷ []) b = either_cons x (b == 13) [] (b ∷ [])
without_return-last (x ∷ y ∷ ys) b = ap (λ l. x ∷ l) (without_return-last (y ∷ ys) b) ∙ either_cons x (b == 13) (y ∷ ys) (y ∷ ys ++ b ∷ [])

pub short-whole : (kept whole : List ℕ) → kept ≡ take 4097 whole → length kept ≤ 4096 → whole ≡ kept
short-whole kept whole is short =
    sym (is ∙ take_all 4097 whole (omega (arith, ap length is, length-take 4097 whole)))

pub long-whole : (kept whole : List ℕ) → kept ≡ take 4097 whole → 4096 < length kept → 4096 < length whole
long-whole kept whole is long = omega (arith, ap length is, length-take 4097 whole)

pub text-cut : (line front : List ℕ) (last : ℕ) (ended : Bool) → ended ≡ true → line ≡ front ++ last ∷ [] → last ≡ 13
    → front ≡ text_of_line (record { bytes = line; ended = ended })
text-cut line front last ended is parts return = rw (is, parts, without_return-last, return)

pub text-kept : (line front : List ℕ) (last : ℕ) (ended : Bool) → ended ≡ true → line ≡ front ++ last ∷ [] → last ≢ 13
    → line ≡ text_of_line (record { bytes = line; ended = ended })
text-kept line front last ended is parts other =
    let test : (last == 13) ≡ false = grind (arith, nat_tests) in
    rw (is, parts, without_return-last, test)
