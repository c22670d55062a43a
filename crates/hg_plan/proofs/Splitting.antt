-- Marks that go down from each AND to its children.
use Rattle.std.proofs.Common.{◌≡◌, ◌≢◌, ℕ, ◌+◌, ◌<◌, ◌≤◌, refl, sym, ap, subst, ◌∙◌, arith, Bool, true, false, ◌&&◌, List, [], ◌∷◌, length, get_or, set}
use Rattle.std.specs.Prelude.{nat_lt}
use Rattle.std.specs.Cmp.{first_so, second_so}
use Rattle.std.specs.List.{flat_map, list_all}
use Rattle.std.proofs.lemmas.Bool.{false≢true}
use Rattle.std.proofs.lemmas.Bool.Decides.{nat_tests}
use Rattle.std.proofs.lemmas.List.{get_or-set_same, get_or-set_other, length-set}
use Rattle.std.proofs.lemmas.List.Folds.{list_all-append}
use borrow.Author.Tests.{ltb-true}
use Rattle.hg_model.specs.Conditions.{parts_at, parts_from}
use Rattle.hg_model.specs.Width.{has_children_before, is_tree}
use Rattle.hg_model.specs.declared.trees.Node.{Node}
use Rattle.hg_model.specs.declared.trees.Node.TheVariants as node
use Rattle.hg_plan.specs.Testing.{HaveSame, marked, passed, passed_if}
use Rattle.hg_plan.proofs.Marking.{and_true, mark_cleared, mark_set, same_marked}
use Rattle.hg_plan.proofs.Parts.{node_parts, parts_behind}

abbrev parts : List Node → ℕ → List ℕ
parts nodes = parts_at (parts_from nodes [])

-- whether all parts of a node pass a test
abbrev all_parts : List Node → (ℕ → Bool) → ℕ → Bool
all_parts nodes p n = list_all p (parts nodes n)

-- The marks from the k-th node on are those of conditions that are not split further.
pub record Splits (nodes : List Node) (first now : List Bool) (k : ℕ) : Type 0 where
  pub room : length now ≡ length first
  pub same : (p : ℕ → Bool) → list_all (all_parts nodes p) (marked now) ≡ list_all (all_parts nodes p) (marked first)
  pub whole : (i : ℕ) → k ≤ i → get_or now i false ≡ true → parts nodes i ≡ i ∷ []

pub splits_first : (nodes : List Node) (first : List Bool) → Splits nodes first first (length nodes)
splits_first nodes first = record { room = refl; same = λ p. refl; whole = λ i h m. parts_behind nodes i h }

-- a fact of one number, and of those behind it
from_here : (P : ℕ → Type 0) (k : ℕ) → P k → ((i : ℕ) → k + 1 ≤ i → P i) → (i : ℕ) → k ≤ i → P i
from_here P k here later i h = by (nat_lt k i) refl
  where
    by : (b : Bool) → nat_lt k i ≡ b → P i
    by true e = later i (let lt : k < i = ltb-true k i e in omega arith)
    by false e = let is : k ≡ i = grind (arith, nat_tests) in subst P is here

module _ (nodes : List Node) (first now : List Bool) (j k : ℕ) (tree : is_tree nodes ≡ true) (step : j ≡ k + 1) (lt : k < length nodes) (few : length nodes ≤ length first)
    (s : Splits nodes first now j) where
  -- a node that is not split
  stays : (get_or now k false ≡ true → parts nodes k ≡ k ∷ []) → Splits nodes first now k
  stays alone = record {
    room = s.room;
    same = s.same;
    whole = from_here (λ i. get_or now i false ≡ true → parts nodes i ≡ i ∷ []) k alone (λ i h m. s.whole i (omega (arith, step)) m);
  }

  module _ (a b : ℕ) (e : node.Both a b ≡ get_or nodes k (node.Both a b)) (left : a < k) (right : b < k) where
    abbrev now_1 : List Bool
    now_1 = set now k false

    abbrev now_2 : List Bool
    now_2 = set now_1 a true

    abbrev now_3 : List Bool
    now_3 = set now_2 b true

    long : length now ≡ length first
    long = s.room

    room_1 : length now_1 ≡ length first
    room_1 = length-set now k false ∙ long

    room_2 : length now_2 ≡ length first
    room_2 = length-set now_1 a true ∙ room_1

    room_3 : length now_3 ≡ length first
    room_3 = length-set now_2 b true ∙ room_2

    turn : (x y z : Bool) → (y && (x && z)) ≡ ((x && y) && z)
    turn true y z = refl
    turn false true z = refl
    turn false false z = refl

    split : (p : ℕ → Bool) → (all_parts nodes p a && all_parts nodes p b) ≡ all_parts nodes p k
    split p = sym (ap (list_all p) (node_parts nodes k (node.Both a b) tree lt e) ∙ list_all-append p (parts nodes a) (parts nodes b))

    same_3 : get_or now k false ≡ true → (p : ℕ → Bool) → list_all (all_parts nodes p) (marked now_3) ≡ list_all (all_parts nodes p) (marked first)
    same_3 m p =
        let q = all_parts nodes p in
        mark_set q 0 b b now_2 (omega (arith, room_2, right, lt, few)) (omega arith)
        ∙ ap (λ x. q b && x) (mark_set q 0 a a now_1 (omega (arith, room_1, left, lt, few)) (omega arith))
        ∙ turn (q a) (q b) (list_all q (marked now_1))
        ∙ ap (λ x. x && list_all q (marked now_1)) (split p)
        ∙ sym (mark_cleared q 0 k k now m (omega arith))
        ∙ s.same p

    unset : (i : ℕ) → k ≤ i → get_or now_3 i false ≡ get_or now_1 i false
    unset i h =
        let other_b : i ≢ b = omega (arith, right, h) in
        let other_a : i ≢ a = omega (arith, left, h) in
        get_or-set_other now_2 b i true false other_b ∙ get_or-set_other now_1 a i true false other_a

    whole_3 : (i : ℕ) → k ≤ i → get_or now_1 i false ≡ true → parts nodes i ≡ i ∷ []
    whole_3 =
        from_here (λ i. get_or now_1 i false ≡ true → parts nodes i ≡ i ∷ []) k
        (λ m. absurd (false≢true (sym (get_or-set_same now k false false (omega (arith, long, lt, few))) ∙ m)))
        (λ i h m. let other : i ≢ k = omega arith in s.whole i (omega (arith, step)) (sym (get_or-set_other now k i false false other) ∙ m))

    and_passes : (m : Bool) → get_or now k false ≡ m → Splits nodes first (passed_if m k a b now) k
    and_passes true is = record {
      room = room_3;
      same = same_3 is;
      whole = λ i h m. whole_3 i h (sym (unset i h) ∙ m);
    }
    and_passes false is = stays (λ m. absurd (false≢true (sym is ∙ m)))

  pub splits_next : (n : Node) → n ≡ get_or nodes k n → has_children_before k n ≡ true → Splits nodes first (passed k n now) k
  splits_next (node.Both a b) e h =
      and_passes a b e (ltb-true a k (first_so (nat_lt a k) (nat_lt b k) h)) (ltb-true b k (second_so (nat_lt a k) (nat_lt b k) h)) (get_or now k false) refl
  splits_next (node.Lit l) e h = stays (λ m. node_parts nodes k (node.Lit l) tree lt e)
  splits_next (node.Col c) e h = stays (λ m. node_parts nodes k (node.Col c) tree lt e)
  splits_next (node.Neg a) e h = stays (λ m. node_parts nodes k (node.Neg a) tree lt e)
  splits_next (node.Arith o a b) e h = stays (λ m. node_parts nodes k (node.Arith o a b) tree lt e)
  splits_next (node.Compare c a b) e h = stays (λ m. node_parts nodes k (node.Compare c a b) tree lt e)
  splits_next (node.Either a b) e h = stays (λ m. node_parts nodes k (node.Either a b) tree lt e)
  splits_next (node.Not a) e h = stays (λ m. node_parts nodes k (node.Not a) tree lt e)
  splits_next (node.IsNull a) e h = stays (λ m. node_parts nodes k (node.IsNull a) tree lt e)
  splits_next (node.NotNull a) e h = stays (λ m. node_parts nodes k (node.NotNull a) tree lt e)
  splits_next (node.Aggregate f a) e h = stays (λ m. node_parts nodes k (node.Aggregate f a) tree lt e)

-- all parts of some nodes
all_split : (p : ℕ → Bool) (f : ℕ → List ℕ) (ns : List ℕ) → list_all p (flat_map f ns) ≡ list_all (λ n. list_all p (f n)) ns
all_split p f [] = refl
all_split p f (n ∷ ns) = list_all-append p (f n) (flat_map f ns) ∙ ap (λ b. list_all p (f n) && b) (all_split p f ns)

pub splits_all : (nodes : List Node) (first now : List Bool) → Splits nodes first now 0 → HaveSame (marked now) (flat_map (parts nodes) (marked first))
splits_all nodes first now s p =
    same_marked p (all_parts nodes p) 0 now
    (λ i n e m. let is : i ≡ n = omega (arith, e) in
    let at : get_or now n false ≡ true = ap (λ l. get_or now l false) (sym is) ∙ m in
    sym (ap (list_all p) (s.whole n (omega arith) at) ∙ and_true (p n)))
    ∙ s.same p ∙ sym (all_split p (parts nodes) (marked first))

-- the parts of lists with the same members
pub split_same : (f : ℕ → List ℕ) (xs ys zs : List ℕ) → HaveSame zs (flat_map f xs) → HaveSame xs ys → HaveSame zs (flat_map f ys)
split_same f xs ys zs split same p =
    split p ∙ all_split p f xs ∙ same (λ n. list_all p (f n)) ∙ sym (all_split p f ys)
