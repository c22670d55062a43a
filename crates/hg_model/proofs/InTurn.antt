-- The laws of bags, and of pairs given in turn.
use Rattle.std.proofs.Common.{◌≡◌, ℕ, suc, ◌<◌, false, List, [], ◌∷◌, length, get_or, sym, subst, arith, cond}
use Rattle.std.specs.List.{All, AllByRecursion}
use Rattle.std.specs.List.Sorted.{IsPermutation}
use Rattle.std.proofs.lemmas.List.Sorted.{IsPermutation-refl, IsPermutation-sym, IsPermutation-trans, IsPermutation-cons, IsPermutation-append, IsPermutation-middle, All-permutation, sum_by-IsPermutation}
use Rattle.hg_model.specs.Laws.{TurnsGiveAll, BagsAreEqual, BagsCountAlike, BagsAppend, BagsTakeOne}
use Rattle.hg_model.specs.Order.{Pair, stands_before}

all_later : (P : Pair → Type 0) (ps : List Pair) → ((k : ℕ) (d : Pair) → k < length ps → P (get_or ps k d)) → AllByRecursion P ps
all_later P [] h = tt
all_later P (p ∷ ps) h = (h 0 p (omega arith), all_later P ps (λ k d below. h (suc k) d (omega arith)))

none_before : (p : Pair) (left rest ps : List Pair) → All (λ other. stands_before other p ≡ false) left → IsPermutation left (p ∷ rest) → IsPermutation rest ps
    → AllByRecursion (λ later. stands_before later p ≡ false) ps
none_before p left rest ps none moved same =
    let P : Pair → Type 0 = λ other. stands_before other p ≡ false in
    let all = All-permutation P left (p ∷ rest) moved none in
    let others : All P rest = λ k d below. all (suc k) d (omega arith) in
    all_later P ps (All-permutation P rest ps same others)

pub turns_give_all : TurnsGiveAll
turns_give_all left [] none = let P : List Pair → Type 0 = λ l. IsPermutation l [] in (subst P (sym none) (IsPermutation-refl []), tt)
turns_give_all left (p ∷ ps) (may, (rest, moved, later)) =
    let others = turns_give_all rest ps later in
    (IsPermutation-trans left (p ∷ rest) (p ∷ ps) moved (IsPermutation-cons p rest ps others.0), (none_before p left rest ps may.first moved others.0, others.1))

pub bags_equal : (X : Type 0) → BagsAreEqual X
bags_equal X = (λ xs. IsPermutation-refl xs, λ xs ys h. IsPermutation-sym xs ys h, λ xs ys zs h k. IsPermutation-trans xs ys zs h k)

pub bags_count_alike : (X : Type 0) → BagsCountAlike X
bags_count_alike X test xs ys h = sum_by-IsPermutation (λ x. cond (test x) 1 0) xs ys h

pub bags_append : (X : Type 0) → BagsAppend X
bags_append X xs ys us vs h k = IsPermutation-append xs ys us vs h k

pub bags_take_one : (X : Type 0) → BagsTakeOne X
bags_take_one X front back x = IsPermutation-middle front x back
