-- A condition is true exactly where all parts are that it is split into at AND.
use Rattle.std.proofs.Common.{◌≡◌, ℕ, zero, suc, ◌<◌, refl, sym, ap, subst, ◌∙◌, arith, Bool, true, false, ◌&&◌, List, [], ◌∷◌, ◌++◌, length, length-append}
use Rattle.std.specs.Prelude.{slice_index_or, nat_lt}
use Rattle.std.specs.List.{list_all, flat_map}
use Rattle.std.specs.Cmp.{first_so, second_so}
use Rattle.std.proofs.lemmas.List.{get_or_append_left}
use Rattle.std.proofs.lemmas.List.Folds.{list_all-append}
use Rattle.std.proofs.Math.Seq.{get_or-append_seam}
use borrow.Author.Tests.{ltb-true}
use Rattle.hg_model.specs.Conditions.{parts_at, parts_of, parts_from}
use Rattle.hg_model.specs.Evaluation.{values_from, values_of, node_value, value_at, truth_of, as_truth}
use Rattle.hg_model.specs.NullLogic.{is_true, both}
use Rattle.hg_model.specs.PlanLaws.{SplittingKeepsRows}
use Rattle.hg_model.specs.SelectMeaning.{conditions, row_values, keeps_row, leaves_of, row_leaf}
use Rattle.hg_model.specs.Width.{is_tree_from, has_children_before}
use Rattle.hg_model.specs.declared.trees.Node.{Node}
use Rattle.hg_model.specs.declared.trees.Node.TheVariants as node
use Rattle.hg_model.specs.declared.trees.Truth.{Truth}
use Rattle.hg_model.specs.declared.trees.Truth.TheVariants.{True, False, Unknown}
use Rattle.hg_model.specs.declared.values.NodeValue.{NodeValue}
use Rattle.hg_model.specs.declared.values.NodeValue.TheVariants.{Plain}
use Rattle.hg_model.specs.declared.values.Value.{Value}
use Rattle.hg_model.specs.declared.values.Value.TheVariants.{Null}

both_true : (t u : Truth) → is_true (both t u) ≡ (is_true t && is_true u)
both_true True True = refl
both_true True False = refl
both_true True Unknown = refl
both_true False True = refl
both_true False False = refl
both_true False Unknown = refl
both_true Unknown True = refl
both_true Unknown False = refl
both_true Unknown Unknown = refl

and_nothing : (b : Bool) → (b && true) ≡ b
and_nothing true = refl
and_nothing false = refl

all_split : (p : ℕ → Bool) (f : ℕ → List ℕ) → ((n : ℕ) → list_all p (f n) ≡ p n) → (ns : List ℕ) → list_all p (flat_map f ns) ≡ list_all p ns
all_split p f h [] = refl
all_split p f h (n ∷ ns) =
    list_all-append p (f n) (flat_map f ns) ∙ ap (λ b. b && list_all p (flat_map f ns)) (h n) ∙ ap (λ b. p n && b) (all_split p f h ns)

-- at a place of a list that grew by one
push_at : (R : List ℕ → Type 0) (xs : List (List ℕ)) (y : List ℕ) (k : ℕ) (d : List ℕ) → R (slice_index_or xs k d) → (k ≡ length xs → R y)
    → R (slice_index_or (xs ++ y ∷ []) k d)
push_at R [] y zero d h e = e refl
push_at R [] y (suc k) d h e = h
push_at R (x ∷ xs) y zero d h e = h
push_at R (x ∷ xs) y (suc k) d h e = push_at R xs y k d h (λ i. e (ap suc i))

module _ (leaves : List Value) (texts : List ℕ) where
  -- later nodes leave what the earlier ones stand for
  value_kept : (ns : List Node) (done : List NodeValue) (k : ℕ) (d : NodeValue) → k < length done
      → slice_index_or (values_from leaves texts ns done) k d ≡ slice_index_or done k d
  value_kept [] done k d h = refl
  value_kept (n ∷ ns) done k d h =
      let v = node_value (value_at leaves (length done)) texts n done in
      value_kept ns (done ++ v ∷ []) k d (omega (arith, length-append done (v ∷ []))) ∙ get_or_append_left done (v ∷ []) d k h

  module _ (all : List NodeValue) where
    abbrev holds_at : ℕ → Bool
    holds_at n = is_true (truth_of all n)

    -- the parts of each node are true exactly where it is
    abbrev Splits : List (List ℕ) → Type 0
    Splits parts = (k : ℕ) → list_all holds_at (parts_at parts k) ≡ holds_at k

    truth_kept : (ns : List Node) (done : List NodeValue) (k : ℕ) → values_from leaves texts ns done ≡ all → k < length done → truth_of done k ≡ truth_of all k
    truth_kept ns done k is h =
        sym (ap as_truth (value_kept ns done k (Plain Null) h)) ∙ ap (λ vs. truth_of vs k) is

    node_truth : (n : Node) (ns : List Node) (done : List NodeValue) → values_from leaves texts (n ∷ ns) done ≡ all
        → as_truth (node_value (value_at leaves (length done)) texts n done) ≡ truth_of all (length done)
    node_truth n ns done is =
        let v = node_value (value_at leaves (length done)) texts n done in
        let one : length done < length (done ++ v ∷ []) = omega (arith, length-append done (v ∷ [])) in
        sym (ap as_truth (get_or-append_seam done v [] (Plain Null))) ∙ truth_kept ns (done ++ v ∷ []) (length done) is one

    and_splits : (a b : ℕ) (ns : List Node) (done : List NodeValue) (parts : List (List ℕ)) → values_from leaves texts (node.Both a b ∷ ns) done ≡ all
        → has_children_before (length done) (node.Both a b) ≡ true → Splits parts
        → list_all holds_at (parts_at parts a ++ parts_at parts b) ≡ holds_at (length done)
    and_splits a b ns done parts is before splits =
        let left : a < length done = ltb-true a (length done) (first_so (nat_lt a (length done)) (nat_lt b (length done)) before) in
        let right : b < length done = ltb-true b (length done) (second_so (nat_lt a (length done)) (nat_lt b (length done)) before) in
        list_all-append holds_at (parts_at parts a) (parts_at parts b)
        ∙ ap (λ x. x && list_all holds_at (parts_at parts b)) (splits a) ∙ ap (λ x. holds_at a && x) (splits b)
        ∙ sym (both_true (truth_of all a) (truth_of all b))
        ∙ ap (λ t. is_true (both t (truth_of all b))) (sym (truth_kept (node.Both a b ∷ ns) done a is left))
        ∙ ap (λ t. is_true (both (truth_of done a) t)) (sym (truth_kept (node.Both a b ∷ ns) done b is right))
        ∙ ap is_true (node_truth (node.Both a b) ns done is)

    one_splits : (k : ℕ) → list_all holds_at (k ∷ []) ≡ holds_at k
    one_splits k = and_nothing (holds_at k)

    node_splits : (n : Node) (ns : List Node) (done : List NodeValue) (parts : List (List ℕ)) → values_from leaves texts (n ∷ ns) done ≡ all
        → has_children_before (length done) n ≡ true → Splits parts → list_all holds_at (parts_of (length done) n parts) ≡ holds_at (length done)
    node_splits (node.Lit l) ns done parts is before splits = one_splits (length done)
    node_splits (node.Col c) ns done parts is before splits = one_splits (length done)
    node_splits (node.Neg a) ns done parts is before splits = one_splits (length done)
    node_splits (node.Arith o a b) ns done parts is before splits = one_splits (length done)
    node_splits (node.Compare o a b) ns done parts is before splits = one_splits (length done)
    node_splits (node.Both a b) ns done parts is before splits = and_splits a b ns done parts is before splits
    node_splits (node.Either a b) ns done parts is before splits = one_splits (length done)
    node_splits (node.Not a) ns done parts is before splits = one_splits (length done)
    node_splits (node.IsNull a) ns done parts is before splits = one_splits (length done)
    node_splits (node.NotNull a) ns done parts is before splits = one_splits (length done)
    node_splits (node.Aggregate f a) ns done parts is before splits = one_splits (length done)

    nodes_split : (ns : List Node) (done : List NodeValue) (parts : List (List ℕ)) → values_from leaves texts ns done ≡ all → length parts ≡ length done
        → is_tree_from (length done) ns ≡ true → Splits parts → Splits (parts_from ns parts)
    nodes_split [] done parts is same tree splits = splits
    nodes_split (n ∷ ns) done parts is same tree splits =
        let v = node_value (value_at leaves (length done)) texts n done in
        let p = parts_of (length parts) n parts in
        let longer : length (done ++ v ∷ []) ≡ suc (length done) = omega (arith, length-append done (v ∷ [])) in
        let before = first_so (has_children_before (length done) n) (is_tree_from (suc (length done)) ns) tree in
        let later = second_so (has_children_before (length done) n) (is_tree_from (suc (length done)) ns) tree in
        let T : ℕ → Type 0 = λ m. is_tree_from m ns ≡ true in
        let Q : ℕ → Type 0 = λ k. list_all holds_at (parts_of k n parts) ≡ holds_at k in
        let here : Q (length parts) = subst Q (sym same) (node_splits n ns done parts is before splits) in
        nodes_split ns (done ++ v ∷ []) (parts ++ p ∷ []) is
        (omega (arith, same, length-append done (v ∷ []), length-append parts (p ∷ [])))
        (subst T (sym longer) later)
        (λ k. push_at (λ ps. list_all holds_at ps ≡ holds_at k) parts p k (k ∷ []) (splits k)
        (λ e. let R : ℕ → Type 0 = λ m. list_all holds_at p ≡ holds_at m in subst R (sym e) here))

pub splitting_keeps_rows : SplittingKeepsRows
unfolding row_values keeps_row
splitting_keeps_rows s row tree =
    let leaves = leaves_of (row_leaf row) s.query.nodes s.positions in
    let all = values_of leaves s.texts s.query.nodes in
    all_split (λ n. is_true (truth_of all n)) (parts_at (parts_from s.query.nodes []))
    (nodes_split leaves s.texts all s.query.nodes [] [] refl refl tree (λ k. and_nothing (is_true (truth_of all k)))) (conditions s.query)
