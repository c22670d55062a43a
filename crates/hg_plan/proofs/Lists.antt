-- Lists, one element after the other.
use Rattle.std.proofs.Common.{◌≡◌, ℕ, suc, ◌+◌, ◌<◌, ◌≤◌, true, List, [], ◌∷◌, ◌++◌, length, map, take, drop, get_or, refl, sym, ap, ◌∙◌, arith}
use Rattle.std.specs.Prelude.{IsTrue, nat_lt}
use Rattle.std.specs.Cmp.{first_so, second_so}
use Rattle.std.specs.List.{list_all}
use Rattle.std.proofs.lemmas.Bool.Decides.{nat_tests}
use Rattle.std.proofs.lemmas.List.{at_drop_more, get_or_default, map-append, take_more}
use Rattle.hg_expr.specs.Slots.{ArePlaced}
use Rattle.hg_model.specs.declared.trees.Node.{Node}

-- the next element, and those behind it
pub drop_is : {X : Type 0} (xs : List X) (k : ℕ) (x : X) → k < length xs → x ≡ get_or xs k x → drop k xs ≡ x ∷ drop (k + 1) xs
drop_is xs k x h e = at_drop_more (λ l. l) xs k x h ∙ ap (λ y. y ∷ drop (k + 1) xs) (sym e)

pub at_same : {X : Type 0} (xs : List X) (k : ℕ) (d : X) → k < length xs → get_or xs k d ≡ get_or xs k (get_or xs k d)
at_same xs k d h = get_or_default xs k d (get_or xs k d) h

-- the first elements, and one more
pub map_next : {X Y : Type 0} (f : X → Y) (xs : List X) (x : X) (ys : List Y) (k : ℕ) (d : Y) → k < length ys → f x ≡ get_or ys k d → map f xs ≡ take k ys
    → map f (xs ++ x ∷ []) ≡ take (k + 1) ys
map_next f xs x ys k d h is so_far =
    map-append f xs (x ∷ []) ∙ (λ i. so_far i ++ is i ∷ []) ∙ sym (take_more ys k d h)

-- numbers below one bound are below a greater one
pub all_below : (ns : List ℕ) (a b : ℕ) → a ≤ b → IsTrue (list_all (λ n. nat_lt n a) ns) → IsTrue (list_all (λ n. nat_lt n b) ns)
all_below [] a b h all = refl
all_below (n ∷ ns) a b h all =
    let first : nat_lt n a ≡ true = first_so (nat_lt n a) (list_all (λ m. nat_lt m a) ns) all in
    let here : nat_lt n b ≡ true = grind (arith, nat_tests) in
    rw here (all_below ns a b h (second_so (nat_lt n a) (list_all (λ m. nat_lt m a) ns) all))

pub placed_length : (ns : List Node) (ps : List (ℕ × ℕ)) → ArePlaced ns ps → length ps ≡ length ns
placed_length [] [] h = refl
placed_length [] (p ∷ ps) h = absurd h
placed_length (n ∷ ns) [] h = absurd h
placed_length (n ∷ ns) (p ∷ ps) h = ap suc (placed_length ns ps h.1)
