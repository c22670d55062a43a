-- Steps of loops that build a list from the front.
use Rattle.std.proofs.Common.{◌≡◌, ℕ, ◌+◌, ◌<◌, List, [], ◌∷◌, ◌++◌, length, get_or, take, suc, drop, sym, ap, ◌∙◌, append_assoc, arith}
use Rattle.std.proofs.lemmas.List.{at_drop_more}

-- a loop appends f of each element, and F is all of them one after the other
pub concat_step : {X Y : Type 0} (F : List X → List Y) (f : X → List Y) → ((x : X) (xs : List X) → F (x ∷ xs) ≡ f x ++ F xs)
    → (xs : List X) (i : ℕ) (x : X) (old new total : List Y) → i < length xs → x ≡ get_or xs i x → new ≡ old ++ f x
    → old ++ F (drop i xs) ≡ total → new ++ F (drop (i + 1) xs) ≡ total
concat_step F f step xs i x old new total below is more done =
    ap (λ l. l ++ F (drop (i + 1) xs)) more ∙ append_assoc old (f x) (F (drop (i + 1) xs))
    ∙ ap (λ l. old ++ l) (sym (at_drop_more F xs i x below ∙ ap (λ y. F (y ∷ drop (i + 1) xs)) (sym is) ∙ step x (drop (i + 1) xs)))
    ∙ done

-- a list that has an element is that element and the rest
pub take_first : {X : Type 0} (xs : List X) (x : X) → 0 < length xs → x ≡ get_or xs 0 x → xs ≡ x ∷ (take 0 xs ++ drop (suc 0) xs)
take_first [] x h is = absurd (omega arith)
take_first (y ∷ ys) x h is = ap (λ z. z ∷ ys) (sym is)
