-- The values of nodes agree but where a name of ORDER BY was replaced.
use Rattle.std.proofs.Common.{◌≡◌, ◌<◌, ◌≤◌, ℕ, zero, suc, ◌+◌, Bool, true, false, List, [], ◌∷◌, ◌++◌, Option, Some, None, map, refl, sym, ap, subst, ◌∙◌, length, length-append, get_or, not, ◌&&◌, arith}
use Rattle.std.specs.List.{list_all}
use Rattle.std.specs.Cmp.{first_so, second_so}
use Rattle.std.proofs.lemmas.List.{get_or_append_left}
use Rattle.hg_model.specs.Evaluation.{arithmetic, as_truth, as_value, negative, node_value, truth_of, value_at, value_of, values_from}
use Rattle.hg_model.specs.NullLogic.{both, compare, either, is_null, known, opposite}
use Rattle.hg_model.specs.declared.trees.Node.{Node}
use Rattle.hg_model.specs.declared.trees.Node.TheVariants as node
use Rattle.hg_model.specs.declared.values.NodeValue.{NodeValue}
use Rattle.hg_model.specs.declared.values.NodeValue.TheVariants.{Plain, Condition}
use Rattle.hg_model.specs.declared.values.Value.{Value}
use Rattle.hg_model.specs.declared.values.Value.TheVariants.{Null}
use Rattle.hg_bind.specs.BoundMeaning.{children}

pub not_so : (b : Bool) → not b ≡ true → b ≡ false
not_so true h = absurd cc
not_so false h = refl

-- the values so far: those of nodes that are not dead agree
pub record Alike (dead : ℕ → Bool) (xs ys : List NodeValue) : Type 0 where
  pub even : length ys ≡ length xs
  pub same : (n : ℕ) → dead n ≡ false → get_or ys n (Plain Null) ≡ get_or xs n (Plain Null)

one_more : {X : Type 0} (xs ys : List X) (x y d : X) (n : ℕ) → length ys ≡ length xs → get_or ys n d ≡ get_or xs n d → (n ≡ length xs → y ≡ x)
    → get_or (ys ++ y ∷ []) n d ≡ get_or (xs ++ x ∷ []) n d
one_more [] [] x y d zero e s new = new refl
one_more [] [] x y d (suc n) e s new = refl
one_more [] (b ∷ ys) x y d n e s new = absurd (omega arith)
one_more (a ∷ xs) [] x y d n e s new = absurd (omega arith)
one_more (a ∷ xs) (b ∷ ys) x y d zero e s new = s
one_more (a ∷ xs) (b ∷ ys) x y d (suc n) e s new = one_more xs ys x y d n (omega arith) s (λ h. new (ap suc h))

module _ (dead : ℕ → Bool) where
  pub alike_more : (xs ys : List NodeValue) (x y : NodeValue) → Alike dead xs ys → (dead (length xs) ≡ false → y ≡ x) → Alike dead (xs ++ x ∷ []) (ys ++ y ∷ [])
  alike_more xs ys x y a new = record {
    even = omega (arith, length-append xs (x ∷ []), length-append ys (y ∷ []), a.even);
    same = λ n h. one_more xs ys x y (Plain Null) n a.even (a.same n h) (λ e. new (subst (λ m. dead m ≡ false) e h));
  }

  abbrev pub live : ℕ → Bool
  live n = not (dead n)

  module _ (xs ys : List NodeValue) (a : Alike dead xs ys) where
    value_alike : (n : ℕ) → live n ≡ true → value_of ys n ≡ value_of xs n
    value_alike n h = ap as_value (a.same n (not_so (dead n) h))

    truth_alike : (n : ℕ) → live n ≡ true → truth_of ys n ≡ truth_of xs n
    truth_alike n h = ap as_truth (a.same n (not_so (dead n) h))

    first : (m n : ℕ) → list_all live (m ∷ n ∷ []) ≡ true → live m ≡ true
    first m n h = first_so (live m) (live n && true) h

    second : (m n : ℕ) → list_all live (m ∷ n ∷ []) ≡ true → live n ≡ true
    second m n h = first_so (live n) true (second_so (live m) (live n && true) h)

    alone : (n : ℕ) → list_all live (n ∷ []) ≡ true → live n ≡ true
    alone n h = first_so (live n) true h

    -- a node whose children are not dead
    pub node_alike : (leaf leaf' : Value) (texts : List ℕ) (n : Node) → leaf' ≡ leaf → list_all live (children n) ≡ true → node_value leaf' texts n ys ≡ node_value leaf texts n xs
    node_alike leaf leaf' texts (node.Lit l) e h = refl
    node_alike leaf leaf' texts (node.Col c) e h = ap Plain e
    node_alike leaf leaf' texts (node.Neg m) e h = ap (λ v. Plain (negative v)) (value_alike m (alone m h))
    node_alike leaf leaf' texts (node.Arith o m n) e h =
        ap (λ v. Plain (arithmetic o v (value_of ys n))) (value_alike m (first m n h)) ∙ ap (λ v. Plain (arithmetic o (value_of xs m) v)) (value_alike n (second m n h))
    node_alike leaf leaf' texts (node.Compare c m n) e h =
        ap (λ v. Condition (compare c v (value_of ys n))) (value_alike m (first m n h)) ∙ ap (λ v. Condition (compare c (value_of xs m) v)) (value_alike n (second m n h))
    node_alike leaf leaf' texts (node.Both m n) e h =
        ap (λ t. Condition (both t (truth_of ys n))) (truth_alike m (first m n h)) ∙ ap (λ t. Condition (both (truth_of xs m) t)) (truth_alike n (second m n h))
    node_alike leaf leaf' texts (node.Either m n) e h =
        ap (λ t. Condition (either t (truth_of ys n))) (truth_alike m (first m n h)) ∙ ap (λ t. Condition (either (truth_of xs m) t)) (truth_alike n (second m n h))
    node_alike leaf leaf' texts (node.Not m) e h = ap (λ t. Condition (opposite t)) (truth_alike m (alone m h))
    node_alike leaf leaf' texts (node.IsNull m) e h = ap (λ v. Condition (known (is_null v))) (value_alike m (alone m h))
    node_alike leaf leaf' texts (node.NotNull m) e h = ap (λ v. Condition (known (not (is_null v)))) (value_alike m (alone m h))
    node_alike leaf leaf' texts (node.Aggregate f m) e h = ap Plain e

-- nodes are read from the front: later ones leave the values of the earlier
pub kept : (leaves : List Value) (texts : List ℕ) (ns : List Node) (done : List NodeValue) (k : ℕ) → k < length done
    → get_or (values_from leaves texts ns done) k (Plain Null) ≡ get_or done k (Plain Null)
kept leaves texts [] done k h = refl
kept leaves texts (n ∷ ns) done k h =
    let x = node_value (value_at leaves (length done)) texts n done in
    kept leaves texts ns (done ++ x ∷ []) k (omega (arith, length-append done (x ∷ []))) ∙ get_or_append_left done (x ∷ []) (Plain Null) k h

pub count : (leaves : List Value) (texts : List ℕ) (ns : List Node) (done : List NodeValue) → length (values_from leaves texts ns done) ≡ length done + length ns
count leaves texts [] done = omega arith
count leaves texts (n ∷ ns) done =
    let x = node_value (value_at leaves (length done)) texts n done in
    let more = count leaves texts ns (done ++ x ∷ []) in
    let pushed = length-append done (x ∷ []) in
    omega (arith, more, pushed)

pub in_turn : (leaves : List Value) (texts : List ℕ) (ns ms : List Node) (done : List NodeValue) → values_from leaves texts (ns ++ ms) done ≡ values_from leaves texts ms (values_from leaves texts ns done)
in_turn leaves texts [] ms done = refl
in_turn leaves texts (n ∷ ns) ms done = in_turn leaves texts ns ms (done ++ node_value (value_at leaves (length done)) texts n done ∷ [])
