-- Each number that a node gives lies below 2^bound in magnitude.
use Rattle.std.proofs.Common.{◌≡◌, ℕ, zero, suc, ◌+◌, ◌^◌, ◌<◌, ◌≤◌, refl, sym, ap, subst, ◌∙◌, arith, Bool, true, List, [], ◌∷◌, ◌++◌, length, lt_of_lt_of_le, le_trans}
use Rattle.std.specs.Prelude.{nat_abs, nat_lt, ⊤}
use Rattle.std.specs.List.{list_all, position_or_len, range_with_len}
use Rattle.std.specs.Cmp.{first_so, second_so}
use Rattle.std.proofs.lemmas.Bool.Decides.{nat_tests}
use Rattle.std.proofs.lemmas.List.Folds.{list_all-append}
use borrow.Author.Tests.{ltb-true, leb-true}
use Rattle.hg_model.proofs.Magnitudes.{nat_abs-neg, pow_up, add_below, sub_below, mul_below}
use Rattle.hg_model.specs.Width.{IsBelow, AllBelow}
use Rattle.hg_model.specs.Evaluation.{value_at, value_of, as_value, node_value, values_from, arithmetic, negative, literal_value}
use Rattle.hg_model.specs.Types.{bound_of, bounds_from, bound_at, literal_bound, arithmetic_bound, is_narrow, binary_digits, digits_within}
use Rattle.hg_model.specs.declared.values.Value.{Value}
use Rattle.hg_model.specs.declared.values.Value.TheVariants.{Null, Int, Text}
use Rattle.hg_model.specs.declared.values.NodeValue.{NodeValue}
use Rattle.hg_model.specs.declared.trees.Literal.{Literal}
use Rattle.hg_model.specs.declared.trees.Literal.TheVariants as literal
use Rattle.hg_model.specs.declared.trees.Op.{Op}
use Rattle.hg_model.specs.declared.trees.Op.TheVariants.{Add, Sub, Mul}
use Rattle.hg_model.specs.declared.trees.Node.{Node}
use Rattle.hg_model.specs.declared.trees.Node.TheVariants as node

-- the least b of a list of tests that passes, where one does
first_passes : (p : ℕ → Bool) (from n : ℕ) → position_or_len p (range_with_len from n) < n → p (from + position_or_len p (range_with_len from n)) ≡ true
first_passes p from zero h = absurd (omega arith)
first_passes p from (suc n) h = grind (arith, first_passes p (from + 1) n)

within_below : (limit n : ℕ) → digits_within limit n ≤ limit → n < 2 ^ digits_within limit n
unfolding digits_within
within_below limit n h =
    let p : ℕ → Bool = λ b. nat_lt n (2 ^ (b + 1)) in
    let passes = first_passes p 0 limit (omega arith) in
    let below : n < 2 ^ (0 + position_or_len p (range_with_len 0 limit) + 1) = ltb-true n (2 ^ (0 + position_or_len p (range_with_len 0 limit) + 1)) passes in
    let same : 0 + position_or_len p (range_with_len 0 limit) + 1 ≡ 1 + position_or_len p (range_with_len 0 limit) = omega arith in
    subst (λ m. n < 2 ^ m) same below

pub digits_below : (n : ℕ) → is_narrow (binary_digits n) ≡ true → n < 2 ^ binary_digits n
unfolding binary_digits
digits_below n h = within_below 128 n (le_trans (leb-true (digits_within 128 n) 126 h) (omega arith))

pub literal_below : (texts : List ℕ) (l : Literal) → is_narrow (literal_bound l) ≡ true → IsBelow (literal_bound l) (literal_value texts l)
literal_below texts literal.Null h = tt
literal_below texts (literal.Int x) h = digits_below (nat_abs x) h
literal_below texts (literal.Text s) h = tt

pub negative_below : (b : ℕ) (v : Value) → IsBelow b v → IsBelow b (negative v)
negative_below b Null h = tt
negative_below b (Int x) h = subst (λ n. n < 2 ^ b) (sym (nat_abs-neg x)) h
negative_below b (Text t) h = tt

pub arithmetic_below : (o : Op) (a b : ℕ) (v w : Value) → IsBelow a v → IsBelow b w → IsBelow (arithmetic_bound o a b) (arithmetic o v w)
arithmetic_below Add a b Null w p q = tt
arithmetic_below Add a b (Text s) w p q = tt
arithmetic_below Add a b (Int x) Null p q = tt
arithmetic_below Add a b (Int x) (Text t) p q = tt
arithmetic_below Add a b (Int x) (Int y) p q = add_below x y a b p q
arithmetic_below Sub a b Null w p q = tt
arithmetic_below Sub a b (Text s) w p q = tt
arithmetic_below Sub a b (Int x) Null p q = tt
arithmetic_below Sub a b (Int x) (Text t) p q = tt
arithmetic_below Sub a b (Int x) (Int y) p q = sub_below x y a b p q
arithmetic_below Mul a b Null w p q = tt
arithmetic_below Mul a b (Text s) w p q = tt
arithmetic_below Mul a b (Int x) Null p q = tt
arithmetic_below Mul a b (Int x) (Text t) p q = tt
arithmetic_below Mul a b (Int x) (Int y) p q = mul_below x y a b p q

-- place by place the numbers lie below the bounds
abbrev pub Zipped : List ℕ → List NodeValue → Type 0
Zipped [] [] = ⊤
Zipped [] (v ∷ vs) = ⊥
Zipped (b ∷ bs) [] = ⊥
Zipped (b ∷ bs) (v ∷ vs) = IsBelow b (as_value v) × Zipped bs vs

pub zipped_length : (bs : List ℕ) (vs : List NodeValue) → Zipped bs vs → length vs ≡ length bs
zipped_length [] [] h = refl
zipped_length [] (v ∷ vs) h = absurd h
zipped_length (b ∷ bs) [] h = absurd h
zipped_length (b ∷ bs) (v ∷ vs) h = ap suc (zipped_length bs vs h.1)

pub zipped_push : (bs : List ℕ) (vs : List NodeValue) (b : ℕ) (v : NodeValue) → Zipped bs vs → IsBelow b (as_value v) → Zipped (bs ++ b ∷ []) (vs ++ v ∷ [])
zipped_push [] [] b v h p = (p, tt)
zipped_push [] (w ∷ vs) b v h p = absurd h
zipped_push (c ∷ bs) [] b v h p = absurd h
zipped_push (c ∷ bs) (w ∷ vs) b v h p = (h.0, zipped_push bs vs b v h.1 p)

pub zipped_at : (bs : List ℕ) (vs : List NodeValue) (k : ℕ) → Zipped bs vs → IsBelow (bound_at bs k) (value_of vs k)
zipped_at [] [] k h = tt
zipped_at [] (v ∷ vs) k h = absurd h
zipped_at (b ∷ bs) [] k h = absurd h
zipped_at (b ∷ bs) (v ∷ vs) zero h = h.0
zipped_at (b ∷ bs) (v ∷ vs) (suc k) h = zipped_at bs vs k h.1

-- the value of a column or an aggregate lies below the node's bound
abbrev pub LeafBelow : Node → ℕ → Value → Type 0
LeafBelow (node.Col c) b v = IsBelow b v
LeafBelow (node.Aggregate f a) b v = IsBelow b v
LeafBelow (node.Lit l) b v = ⊤
LeafBelow (node.Neg a) b v = ⊤
LeafBelow (node.Arith o a c) b v = ⊤
LeafBelow (node.Compare o a c) b v = ⊤
LeafBelow (node.Both a c) b v = ⊤
LeafBelow (node.Either a c) b v = ⊤
LeafBelow (node.Not a) b v = ⊤
LeafBelow (node.IsNull a) b v = ⊤
LeafBelow (node.NotNull a) b v = ⊤

pub node_below : (leaf : Value) (texts : List ℕ) (n : Node) (bs : List ℕ) (done : List NodeValue) → Zipped bs done
    → LeafBelow n (bound_of n bs) leaf → is_narrow (bound_of n bs) ≡ true → IsBelow (bound_of n bs) (as_value (node_value leaf texts n done))
node_below leaf texts (node.Lit l) bs done z p h = literal_below texts l h
node_below leaf texts (node.Col c) bs done z p h = p
node_below leaf texts (node.Neg a) bs done z p h = negative_below (bound_at bs a) (value_of done a) (zipped_at bs done a z)
node_below leaf texts (node.Arith o a b) bs done z p h = arithmetic_below o (bound_at bs a) (bound_at bs b) (value_of done a) (value_of done b) (zipped_at bs done a z) (zipped_at bs done b z)
node_below leaf texts (node.Compare o a b) bs done z p h = tt
node_below leaf texts (node.Both a b) bs done z p h = tt
node_below leaf texts (node.Either a b) bs done z p h = tt
node_below leaf texts (node.Not a) bs done z p h = tt
node_below leaf texts (node.IsNull a) bs done z p h = tt
node_below leaf texts (node.NotNull a) bs done z p h = tt
node_below leaf texts (node.Aggregate f a) bs done z p h = p

pub narrow_done : (ns : List Node) (bs : List ℕ) → list_all is_narrow (bounds_from ns bs) ≡ true → list_all is_narrow bs ≡ true
narrow_done [] bs h = h
narrow_done (n ∷ ns) bs h =
    first_so (list_all is_narrow bs) (list_all is_narrow (bound_of n bs ∷ []))
    (sym (list_all-append is_narrow bs (bound_of n bs ∷ [])) ∙ narrow_done ns (bs ++ bound_of n bs ∷ []) h)

pub narrow_next : (n : Node) (ns : List Node) (bs : List ℕ) → list_all is_narrow (bounds_from (n ∷ ns) bs) ≡ true → is_narrow (bound_of n bs) ≡ true
narrow_next n ns bs h =
    first_so (is_narrow (bound_of n bs)) true
    (second_so (list_all is_narrow bs) (list_all is_narrow (bound_of n bs ∷ []))
    (sym (list_all-append is_narrow bs (bound_of n bs ∷ [])) ∙ narrow_done ns (bs ++ bound_of n bs ∷ []) h))

pub narrow_bound : (b : ℕ) (v : Value) → is_narrow b ≡ true → IsBelow b v → IsBelow 126 v
narrow_bound b Null h p = tt
narrow_bound b (Int x) h p = lt_of_lt_of_le p (pow_up b 126 (grind (arith, nat_tests)))
narrow_bound b (Text t) h p = tt

-- each column and aggregate among the nodes has a value below its bound
abbrev pub LeavesBelow : List Value → List Node → List ℕ → Type 0
LeavesBelow leaves [] bs = ⊤
LeavesBelow leaves (n ∷ ns) bs = LeafBelow n (bound_of n bs) (value_at leaves (length bs)) × LeavesBelow leaves ns (bs ++ bound_of n bs ∷ [])

pub values_below : (leaves : List Value) (texts : List ℕ) (ns : List Node) (bs : List ℕ) (done : List NodeValue) → Zipped bs done
    → LeavesBelow leaves ns bs → list_all is_narrow (bounds_from ns bs) ≡ true → AllBelow leaves texts ns done × Zipped (bounds_from ns bs) (values_from leaves texts ns done)
values_below leaves texts [] bs done z p h = (tt, z)
values_below leaves texts (n ∷ ns) bs done z p h =
    let P : ℕ → Type 0 = λ k. LeafBelow n (bound_of n bs) (value_at leaves k) in
    let leaf = subst P (sym (zipped_length bs done z)) p.0 in
    let one = node_below (value_at leaves (length done)) texts n bs done z leaf (narrow_next n ns bs h) in
    let rest = values_below leaves texts ns (bs ++ bound_of n bs ∷ []) (done ++ node_value (value_at leaves (length done)) texts n done ∷ [])
    (zipped_push bs done (bound_of n bs) (node_value (value_at leaves (length done)) texts n done) z one) p.1 h in
    ((narrow_bound (bound_of n bs) (as_value (node_value (value_at leaves (length done)) texts n done)) (narrow_next n ns bs h) one, rest.0), rest.1)
