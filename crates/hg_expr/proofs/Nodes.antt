-- What a node stands for, by what its children stand for.
use Rattle.std.proofs.Common.{◌≡◌, ℕ, zero, suc, ◌+◌, ◌<◌, ◌≤◌, List, [], ◌∷◌, ◌++◌, length, get_or, refl, sym, ap, ◌∙◌, subst, arith, true, length-append, Option, Some, None}
use Rattle.std.specs.Prelude.{slice_get, not, nat_lt}
use Rattle.std.specs.Cmp.{first_so, second_so}
use Rattle.std.specs.List.{list_all}
use Rattle.std.proofs.lemmas.List.{get_or_append_left}
use borrow.Author.Tests.{ltb-true}
use Rattle.hg_model.specs.Evaluation.{value_at, value_of, truth_of, as_value, as_truth, node_value, values_from, negative, arithmetic}
use Rattle.hg_model.specs.declared.trees.Op.{Op}
use Rattle.hg_model.specs.declared.trees.Truth.{Truth}
use Rattle.hg_model.specs.declared.trees.Truth.TheVariants.{True, False, Unknown}
use Rattle.hg_model.specs.NullLogic.{both, either, opposite, known, compare, is_null}
use Rattle.hg_model.specs.SelectMeaning.{leaves_of}
use Rattle.hg_model.specs.Width.{is_tree, is_tree_from, has_children_before, stands_before_place, text_fits}
use Rattle.hg_model.specs.declared.values.Value.{Value}
use Rattle.hg_model.specs.declared.values.Value.TheVariants.{Null}
use Rattle.hg_model.specs.declared.values.NodeValue.{NodeValue}
use Rattle.hg_model.specs.declared.values.NodeValue.TheVariants.{Plain, Condition}
use Rattle.hg_model.specs.declared.trees.Cmp.{Cmp}
use Rattle.hg_model.specs.declared.trees.ColRef.{ColRef}
use Rattle.hg_model.specs.declared.trees.Fold.{Fold}
use Rattle.hg_model.specs.declared.trees.Literal.{Literal}
use Rattle.hg_model.specs.declared.trees.Node.{Node}
use Rattle.hg_model.specs.declared.trees.Node.TheVariants as node
use Rattle.hg_expr.specs.Over.{leaf_at, leaves_at, values_over}

-- the nodes behind leave what stands before them
pub kept : (leaves : List Value) (texts : List ℕ) (ns : List Node) (done : List NodeValue) (d : NodeValue) (k : ℕ) → k < length done
    → get_or (values_from leaves texts ns done) k d ≡ get_or done k d
kept leaves texts [] done d k h = refl
kept leaves texts (n ∷ ns) done d k h =
    let x : NodeValue = node_value (value_at leaves (length done)) texts n done in
    kept leaves texts ns (done ++ x ∷ []) d k (omega (arith, length-append done (x ∷ [])))
    ∙ get_or_append_left done (x ∷ []) d k h

pub values_length : (leaves : List Value) (texts : List ℕ) (ns : List Node) (done : List NodeValue) → length (values_from leaves texts ns done) ≡ length done + length ns
values_length leaves texts [] done = omega arith
values_length leaves texts (n ∷ ns) done =
    let x : NodeValue = node_value (value_at leaves (length done)) texts n done in
    omega (arith, values_length leaves texts ns (done ++ x ∷ []), length-append done (x ∷ []))

-- a node looks at its children alone
module _ (leaf : Value) (texts : List ℕ) (k : ℕ) (a b : List NodeValue) (same : (j : ℕ) → j < k → get_or a j (Plain Null) ≡ get_or b j (Plain Null)) where
  pub same_children : (m : Node) → has_children_before k m ≡ true → node_value leaf texts m a ≡ node_value leaf texts m b
  same_children (node.Lit l) h = refl
  same_children (node.Col c) h = refl
  same_children (node.Neg x) h = ap (λ v. Plain (negative (as_value v))) (same x (ltb-true x k h))
  same_children (node.Arith o x y) h =
      let p = same x (ltb-true x k (first_so (nat_lt x k) (nat_lt y k) h)) in
      let q = same y (ltb-true y k (second_so (nat_lt x k) (nat_lt y k) h)) in
      λ i. Plain (arithmetic o (as_value (p i)) (as_value (q i)))
  same_children (node.Compare o x y) h =
      let p = same x (ltb-true x k (first_so (nat_lt x k) (nat_lt y k) h)) in
      let q = same y (ltb-true y k (second_so (nat_lt x k) (nat_lt y k) h)) in
      λ i. Condition (compare o (as_value (p i)) (as_value (q i)))
  same_children (node.Both x y) h =
      let p = same x (ltb-true x k (first_so (nat_lt x k) (nat_lt y k) h)) in
      let q = same y (ltb-true y k (second_so (nat_lt x k) (nat_lt y k) h)) in
      λ i. Condition (both (as_truth (p i)) (as_truth (q i)))
  same_children (node.Either x y) h =
      let p = same x (ltb-true x k (first_so (nat_lt x k) (nat_lt y k) h)) in
      let q = same y (ltb-true y k (second_so (nat_lt x k) (nat_lt y k) h)) in
      λ i. Condition (either (as_truth (p i)) (as_truth (q i)))
  same_children (node.Not x) h = ap (λ v. Condition (opposite (as_truth v))) (same x (ltb-true x k h))
  same_children (node.IsNull x) h = ap (λ v. Condition (known (is_null (as_value v)))) (same x (ltb-true x k h))
  same_children (node.NotNull x) h = ap (λ v. Condition (known (not (is_null (as_value v))))) (same x (ltb-true x k h))
  same_children (node.Aggregate f x) h = refl

at_end : (done : List NodeValue) (x d : NodeValue) → get_or (done ++ x ∷ []) (length done) d ≡ x
at_end [] x d = refl
at_end (y ∷ ys) x d = at_end ys x d

-- each node's value is that of the node over all values
at_node : (leaves : List Value) (texts : List ℕ) (ns : List Node) (done : List NodeValue) (j k : ℕ) (m : Node) → k ≡ length done + j → slice_get ns j ≡ Some m
    → is_tree_from (length done) ns ≡ true
    → get_or (values_from leaves texts ns done) k (Plain Null) ≡ node_value (value_at leaves k) texts m (values_from leaves texts ns done)
at_node leaves texts [] done j k m e g t = absurd cc
at_node leaves texts (n ∷ ns) done zero k m e g t =
    let x : NodeValue = node_value (value_at leaves (length done)) texts n done in
    let vs : List NodeValue = values_from leaves texts ns (done ++ x ∷ []) in
    let is : n ≡ m = cc in
    let at : k ≡ length done = omega arith in
    let first : get_or vs (length done) (Plain Null) ≡ x =
    kept leaves texts ns (done ++ x ∷ []) (Plain Null) (length done) (omega (arith, length-append done (x ∷ []))) ∙ at_end done x (Plain Null) in
    let whole : x ≡ node_value (value_at leaves (length done)) texts n vs =
    same_children (value_at leaves (length done)) texts (length done) done vs
    (λ j' h. sym (kept leaves texts (n ∷ ns) done (Plain Null) j' h)) n
    (first_so (has_children_before (length done) n) (is_tree_from (suc (length done)) ns) t) in
    ap (λ i. get_or vs i (Plain Null)) at ∙ first ∙ whole
    ∙ ap (λ i. node_value (value_at leaves i) texts n vs) (sym at)
    ∙ ap (λ n'. node_value (value_at leaves k) texts n' vs) is
at_node leaves texts (n ∷ ns) done (suc j) k m e g t =
    let x : NodeValue = node_value (value_at leaves (length done)) texts n done in
    let longer : length (done ++ x ∷ []) ≡ suc (length done) = omega (arith, length-append done (x ∷ [])) in
    let Q : ℕ → Type 0 = λ i. is_tree_from i ns ≡ true in
    at_node leaves texts ns (done ++ x ∷ []) j k m (omega arith) g
    (subst Q (sym longer) (second_so (has_children_before (length done) n) (is_tree_from (suc (length done)) ns) t))

pub node_is : (texts slots : List ℕ) (nodes : List Node) (row : List Value) (n : ℕ) (m : Node) → is_tree nodes ≡ true → slice_get nodes n ≡ Some m
    → get_or (values_over texts slots nodes row) n (Plain Null)
    ≡ node_value (value_at (leaves_at row nodes slots) n) texts m (values_over texts slots nodes row)
unfolding values_over
node_is texts slots nodes row n m t g = at_node (leaves_at row nodes slots) texts nodes [] n n m (omega arith) g t

behind_end : (vs : List NodeValue) (k : ℕ) (d : NodeValue) → length vs ≤ k → get_or vs k d ≡ d
behind_end [] k d h = refl
behind_end (v ∷ vs) zero d h = absurd (omega arith)
behind_end (v ∷ vs) (suc k) d h = behind_end vs k d (omega arith)

-- children stand before
children_from : (ns : List Node) (i j k : ℕ) (m : Node) → k ≡ i + j → slice_get ns j ≡ Some m → is_tree_from i ns ≡ true → has_children_before k m ≡ true
children_from [] i j k m e g t = absurd cc
children_from (n ∷ ns) i zero k m e g t =
    let is : n ≡ m = cc in
    let at : i ≡ k = omega arith in
    subst (λ m'. has_children_before k m' ≡ true) is (subst (λ l. has_children_before l n ≡ true) at (first_so (has_children_before i n) (is_tree_from (suc i) ns) t))
children_from (n ∷ ns) i (suc j) k m e g t = children_from ns (suc i) j k m (omega arith) g (second_so (has_children_before i n) (is_tree_from (suc i) ns) t)

pub children : (nodes : List Node) (n : ℕ) (m : Node) → is_tree nodes ≡ true → slice_get nodes n ≡ Some m → has_children_before n m ≡ true
children nodes n m t g = children_from nodes 0 n n m (omega arith) g t

-- a node has what all nodes have
pub text_of : (texts : List ℕ) (ns : List Node) (k : ℕ) (m : Node) → list_all (text_fits texts) ns ≡ true → slice_get ns k ≡ Some m → text_fits texts m ≡ true
text_of texts [] k m h g = absurd cc
text_of texts (n ∷ ns) zero m h g =
    let is : n ≡ m = cc in
    subst (λ m'. text_fits texts m' ≡ true) is (first_so (text_fits texts n) (list_all (text_fits texts) ns) h)
text_of texts (n ∷ ns) (suc k) m h g = text_of texts ns k m (second_so (text_fits texts n) (list_all (text_fits texts) ns) h) g

-- the value that the row gives at a node
pub leaf_is : (row : List Value) (ns : List Node) (slots : List ℕ) (k : ℕ) (m : Node) → slice_get ns k ≡ Some m → k < length slots
    → value_at (leaves_at row ns slots) k ≡ leaf_at row m (get_or slots k 0)
leaf_is row [] slots k m g h = absurd cc
leaf_is row (n ∷ ns) [] k m g h = absurd (omega arith)
leaf_is row (n ∷ ns) (s ∷ ss) zero m g h = let is : n ≡ m = cc in ap (λ m'. leaf_at row m' s) is
leaf_is row (n ∷ ns) (s ∷ ss) (suc k) m g h = leaf_is row ns ss k m g (omega arith)

got : {X : Type 0} (xs : List X) (k : ℕ) (x : X) → k < length xs → slice_get xs k ≡ Some (get_or xs k x)
got [] k x h = absurd (omega arith)
got (y ∷ ys) zero x h = refl
got (y ∷ ys) (suc k) x h = got ys k x (omega arith)

-- a node of one form, by its index
module _ (texts slots : List ℕ) (nodes : List Node) (row : List Value) (n : ℕ) (x m : Node) (tree : is_tree nodes ≡ true)
    (lt : n < length nodes) (is : get_or nodes n x ≡ m) where
  abbrev vs : List NodeValue
  vs = values_over texts slots nodes row

  here : slice_get nodes n ≡ Some m
  here = got nodes n x lt ∙ ap Some is

  pub value_is : value_of vs n ≡ as_value (node_value (value_at (leaves_at row nodes slots) n) texts m vs)
  value_is = ap as_value (node_is texts slots nodes row n m tree here)

  pub truth_is : truth_of vs n ≡ as_truth (node_value (value_at (leaves_at row nodes slots) n) texts m vs)
  truth_is = ap as_truth (node_is texts slots nodes row n m tree here)

  pub children_are : has_children_before n m ≡ true
  children_are = children nodes n m tree here

  pub text_is : list_all (text_fits texts) nodes ≡ true → text_fits texts m ≡ true
  text_is h = text_of texts nodes n m h here

  pub slot_is : n < length slots → value_at (leaves_at row nodes slots) n ≡ leaf_at row m (get_or slots n 0)
  slot_is h = leaf_is row nodes slots n m here h

-- behind the last node
pub value_behind : (texts slots : List ℕ) (nodes : List Node) (row : List Value) (n : ℕ) → length nodes ≤ n → get_or (values_over texts slots nodes row) n (Plain Null) ≡ Plain Null
unfolding values_over
value_behind texts slots nodes row n h =
    behind_end (values_from (leaves_at row nodes slots) texts nodes []) n (Plain Null)
    (omega (arith, values_length (leaves_at row nodes slots) texts nodes [], h))

pub both_false : (t : Truth) → both False t ≡ False
both_false True = refl
both_false False = refl
both_false Unknown = refl

pub either_true : (t : Truth) → either True t ≡ True
either_true True = refl
either_true False = refl
either_true Unknown = refl

-- a node of no other form is a condition, and one of no other form is a value
module _ (leaf : Value) (texts : List ℕ) (vs : List NodeValue) where
  pub no_value : (m : Node) → ((l : Literal) → m ≡ node.Lit l → ⊥) → ((c : ColRef) → m ≡ node.Col c → ⊥) → ((a : ℕ) → m ≡ node.Neg a → ⊥)
      → ((o : Op) (a b : ℕ) → m ≡ node.Arith o a b → ⊥) → ((f : Fold) (a : Option ℕ) → m ≡ node.Aggregate f a → ⊥)
      → as_value (node_value leaf texts m vs) ≡ Null
  no_value (node.Lit l) p q r s u = absurd (p l refl)
  no_value (node.Col c) p q r s u = absurd (q c refl)
  no_value (node.Neg a) p q r s u = absurd (r a refl)
  no_value (node.Arith o a b) p q r s u = absurd (s o a b refl)
  no_value (node.Compare o a b) p q r s u = refl
  no_value (node.Both a b) p q r s u = refl
  no_value (node.Either a b) p q r s u = refl
  no_value (node.Not a) p q r s u = refl
  no_value (node.IsNull a) p q r s u = refl
  no_value (node.NotNull a) p q r s u = refl
  no_value (node.Aggregate f a) p q r s u = absurd (u f a refl)

  pub no_truth : (m : Node) → ((o : Cmp) (a b : ℕ) → m ≡ node.Compare o a b → ⊥) → ((a b : ℕ) → m ≡ node.Both a b → ⊥)
      → ((a b : ℕ) → m ≡ node.Either a b → ⊥) → ((a : ℕ) → m ≡ node.Not a → ⊥) → ((a : ℕ) → m ≡ node.IsNull a → ⊥)
      → ((a : ℕ) → m ≡ node.NotNull a → ⊥) → as_truth (node_value leaf texts m vs) ≡ Unknown
  no_truth (node.Lit l) p q r s u w = refl
  no_truth (node.Col c) p q r s u w = refl
  no_truth (node.Neg a) p q r s u w = refl
  no_truth (node.Arith o a b) p q r s u w = refl
  no_truth (node.Compare o a b) p q r s u w = absurd (p o a b refl)
  no_truth (node.Both a b) p q r s u w = absurd (q a b refl)
  no_truth (node.Either a b) p q r s u w = absurd (r a b refl)
  no_truth (node.Not a) p q r s u w = absurd (s a refl)
  no_truth (node.IsNull a) p q r s u w = absurd (u a refl)
  no_truth (node.NotNull a) p q r s u w = absurd (w a refl)
  no_truth (node.Aggregate f a) p q r s u w = refl
