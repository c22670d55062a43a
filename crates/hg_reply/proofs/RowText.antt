-- The text of a row, value by value, and how long it is.
use Rattle.std.proofs.Common.{◌≡◌, ℕ, zero, suc, ◌+◌, ◌<◌, ◌≤◌, List, [], ◌∷◌, ◌++◌, Some, length, take, sym, ap, ◌∙◌, arith, add-one, append_assoc, append-nil, length-append}
use Rattle.std.specs.Prelude.{slice_get}
use Rattle.std.specs.List.{flat_map}
use Rattle.std.proofs.lemmas.Grind.{flat_map-append}
use Rattle.hg_machine.specs.Plain.Replies.{ReplyLine, line_text, text_of, value_text, next_text, row_text}
use Rattle.hg_model.specs.declared.values.Value.{Value}
use Rattle.hg_value.specs.Coding.{coding, coded}

-- the front of a list that ends with the element at a place
take_next : {A : Type 0} (xs : List A) (k : ℕ) (x : A) → slice_get xs k ≡ Some x → take (suc k) xs ≡ take k xs ++ x ∷ []
take_next [] k x at = cc
take_next (y ∷ ys) zero x at = let e : y ≡ x = cc in ap (λ z. z ∷ []) e
take_next (y ∷ ys) (suc k) x at = ap (λ zs. y ∷ zs) (take_next ys k x at)

text_next : (vs : List Value) (k : ℕ) (v : Value) → slice_get vs (suc k) ≡ Some v → row_text (take (suc (suc k)) vs) ≡ row_text (take (suc k) vs) ++ next_text v
text_next [] k v at = cc
text_next (w ∷ ws) k v at =
    ap (λ xs. value_text w ++ flat_map next_text xs) (take_next ws k v at)
    ∙ ap (λ bs. value_text w ++ bs)
    (flat_map-append next_text (take k ws) (v ∷ []) ∙ ap (λ bs. flat_map next_text (take k ws) ++ bs) (append-nil (next_text v)))
    ∙ sym (append_assoc (value_text w) (flat_map next_text (take k ws)) (next_text v))

-- one value more behind the first
pub row_text_more : (vs : List Value) (k : ℕ) (v : Value) → 0 < k → slice_get vs k ≡ Some v → row_text (take (k + 1) vs) ≡ row_text (take k vs) ++ next_text v
row_text_more vs zero v some at = absurd (omega arith)
row_text_more vs (suc k) v some at = ap (λ n. row_text (take n vs)) (add-one (suc k)) ∙ text_next vs k v at

-- ---- how many bytes the first values have in their coding

pub length_coded_more : (vs : List Value) (k : ℕ) (v : Value) → slice_get vs k ≡ Some v
    → length (coded (take (k + 1) vs)) ≡ length (coded (take k vs)) + length (coding v)
length_coded_more vs k v at =
    ap (λ n. length (coded (take n vs))) (add-one k) ∙ ap (λ xs. length (coded xs)) (take_next vs k v at)
    ∙ ap length (flat_map-append coding (take k vs) (v ∷ []) ∙ ap (λ bs. coded (take k vs) ++ bs) (append-nil (coding v)))
    ∙ length-append (coded (take k vs)) (coding v)

length_coded_front : (vs : List Value) (k : ℕ) → length (coded (take k vs)) ≤ length (coded vs)
length_coded_front [] zero = omega arith
length_coded_front [] (suc k) = omega arith
length_coded_front (w ∷ ws) zero = omega arith
length_coded_front (w ∷ ws) (suc k) =
    omega (arith, length-append (coding w) (coded (take k ws)), length-append (coding w) (coded ws), length_coded_front ws k)

-- the first values and the next one have no more than all
pub coded_within : (vs : List Value) (k : ℕ) (v : Value) → slice_get vs k ≡ Some v
    → length (coded (take k vs)) + length (coding v) ≤ length (coded vs)
coded_within vs k v at = omega (arith, length_coded_more vs k v at, length_coded_front vs (k + 1))

-- ---- two lines

pub two_put : (old mid new : List ℕ) (one other : ReplyLine) → mid ≡ old ++ line_text one → new ≡ mid ++ line_text other
    → new ≡ old ++ text_of (one ∷ other ∷ [])
unfolding text_of
two_put old mid new one other first then =
    then ∙ ap (λ t. t ++ line_text other) first ∙ append_assoc old (line_text one) (line_text other)
    ∙ ap (λ t. old ++ (line_text one ++ t)) (sym (append-nil (line_text other)))
