-- Over rows of small numbers each column and each aggregate has a value below its node's bound.
use Rattle.std.proofs.Common.{◌≡◌, ℕ, zero, suc, ◌+◌, ◌^◌, ◌<◌, ◌≤◌, refl, sym, ap, subst, ◌∙◌, arith, true, List, [], ◌∷◌, ◌++◌, length, map, length-append, Option, Some, None, add-zero}
use Rattle.std.specs.Prelude.{nat_abs, nat_lt}
use Rattle.std.specs.List.{list_all, AllByRecursion}
use Rattle.std.specs.Cmp.{first_so, second_so}
use Rattle.std.proofs.lemmas.List.{get_or_append_left}
use borrow.Author.Tests.{ltb-true}
use Rattle.hg_model.proofs.Folds.{EachBelow, OperandsBelow, aggregate_below}
use Rattle.hg_model.proofs.Widths.{Zipped, LeafBelow, LeavesBelow, values_below, zipped_at, narrow_next}
use Rattle.hg_model.specs.Laws.{RowValuesLieBelow, GroupValuesLieBelow}
use Rattle.hg_model.specs.Evaluation.{value_at, value_of}
use Rattle.hg_model.specs.SelectMeaning.{Setting, leaves_of, row_leaf, row_values, group_leaf, group_values, operands, first_row}
use Rattle.hg_model.specs.Types.{bound_of, bounds_from, bounds_of, bound_at, is_narrow}
use Rattle.hg_model.specs.Width.{IsBelow, AllBelow, LeafFits, IsSound, is_small, is_small_row, is_tree_from, has_children_before, stands_before_place}
use Rattle.hg_model.specs.declared.values.Value.{Value}
use Rattle.hg_model.specs.declared.values.Value.TheVariants.{Null, Int, Text}
use Rattle.hg_model.specs.declared.trees.Node.{Node}
use Rattle.hg_model.specs.declared.trees.Node.TheVariants as node

-- NULL lies below every bound
leaf_null : (n : Node) (b : ℕ) → LeafBelow n b Null
leaf_null (node.Lit l) b = tt
leaf_null (node.Col c) b = tt
leaf_null (node.Neg a) b = tt
leaf_null (node.Arith o a c) b = tt
leaf_null (node.Compare o a c) b = tt
leaf_null (node.Both a c) b = tt
leaf_null (node.Either a c) b = tt
leaf_null (node.Not a) b = tt
leaf_null (node.IsNull a) b = tt
leaf_null (node.NotNull a) b = tt
leaf_null (node.Aggregate f a) b = tt

leaves_none : (leaf : Node → ℕ → Value) (ns : List Node) → leaves_of leaf ns [] ≡ []
leaves_none leaf [] = refl
leaves_none leaf (n ∷ ns) = refl

module _ (all : List ℕ) (leaf : Node → ℕ → Value)
    (each : (n : Node) (ns : List Node) (bs : List ℕ) (p : ℕ) → bounds_from (n ∷ ns) bs ≡ all → has_children_before (length bs) n ≡ true
    → is_narrow (bound_of n bs) ≡ true → LeafBelow n (bound_of n bs) (leaf n p)) where
  pub leaves_below : (ns : List Node) (ps bs : List ℕ) (leaves : List Value)
      → ((k : ℕ) → value_at leaves (length bs + k) ≡ value_at (leaves_of leaf ns ps) k) → bounds_from ns bs ≡ all
      → is_tree_from (length bs) ns ≡ true → list_all is_narrow (bounds_from ns bs) ≡ true → LeavesBelow leaves ns bs
  leaves_below [] ps bs leaves same is tree narrow = tt
  leaves_below (n ∷ ns) [] bs leaves same is tree narrow =
      let here : value_at leaves (length bs) ≡ Null = ap (value_at leaves) (sym (add-zero (length bs))) ∙ same 0 in
      let P : Value → Type 0 = LeafBelow n (bound_of n bs) in
      let longer : length (bs ++ bound_of n bs ∷ []) ≡ suc (length bs) = omega (arith, length-append bs (bound_of n bs ∷ [])) in
      let Q : ℕ → Type 0 = λ m. is_tree_from m ns ≡ true in (
        subst P (sym here) (leaf_null n (bound_of n bs)),
        leaves_below ns [] (bs ++ bound_of n bs ∷ []) leaves
            (λ k. let place : length (bs ++ bound_of n bs ∷ []) + k ≡ length bs + suc k = omega arith in
            ap (value_at leaves) place ∙ same (suc k) ∙ ap (λ l. value_at l k) (sym (leaves_none leaf ns)))
            is (subst Q (sym longer) (second_so (has_children_before (length bs) n) (is_tree_from (suc (length bs)) ns) tree)) narrow,
      )
  leaves_below (n ∷ ns) (p ∷ ps) bs leaves same is tree narrow =
      let here : value_at leaves (length bs) ≡ leaf n p = ap (value_at leaves) (sym (add-zero (length bs))) ∙ same 0 in
      let P : Value → Type 0 = LeafBelow n (bound_of n bs) in
      let longer : length (bs ++ bound_of n bs ∷ []) ≡ suc (length bs) = omega (arith, length-append bs (bound_of n bs ∷ [])) in
      let Q : ℕ → Type 0 = λ m. is_tree_from m ns ≡ true in (
        subst P (sym here) (each n ns bs p is (first_so (has_children_before (length bs) n) (is_tree_from (suc (length bs)) ns) tree) (narrow_next n ns bs narrow)),
        leaves_below ns ps (bs ++ bound_of n bs ∷ []) leaves
            (λ k. let place : length (bs ++ bound_of n bs ∷ []) + k ≡ length bs + suc k = omega arith in ap (value_at leaves) place ∙ same (suc k))
            is (subst Q (sym longer) (second_so (has_children_before (length bs) n) (is_tree_from (suc (length bs)) ns) tree)) narrow,
      )

module _ (all : List ℕ) (Q : Node → Type 0)
    (each : (n : Node) (ns : List Node) (bs : List ℕ) → bounds_from (n ∷ ns) bs ≡ all → has_children_before (length bs) n ≡ true
    → is_narrow (bound_of n bs) ≡ true → Q n) where
  pub each_node : (ns : List Node) (bs : List ℕ) → bounds_from ns bs ≡ all → is_tree_from (length bs) ns ≡ true
      → list_all is_narrow (bounds_from ns bs) ≡ true → AllByRecursion Q ns
  each_node [] bs is tree narrow = tt
  each_node (n ∷ ns) bs is tree narrow =
      let longer : length (bs ++ bound_of n bs ∷ []) ≡ suc (length bs) = omega (arith, length-append bs (bound_of n bs ∷ [])) in
      let R : ℕ → Type 0 = λ m. is_tree_from m ns ≡ true in (
        each n ns bs is (first_so (has_children_before (length bs) n) (is_tree_from (suc (length bs)) ns) tree) (narrow_next n ns bs narrow),
        each_node ns (bs ++ bound_of n bs ∷ []) is (subst R (sym longer) (second_so (has_children_before (length bs) n) (is_tree_from (suc (length bs)) ns) tree)) narrow,
      )

-- later nodes leave the bounds of the earlier ones
pub bound_kept : (ns : List Node) (bs : List ℕ) (k : ℕ) → k < length bs → bound_at (bounds_from ns bs) k ≡ bound_at bs k
bound_kept [] bs k h = refl
bound_kept (n ∷ ns) bs k h =
    bound_kept ns (bs ++ bound_of n bs ∷ []) k (omega (arith, length-append bs (bound_of n bs ∷ [])))
    ∙ get_or_append_left bs (bound_of n bs ∷ []) 0 k h

-- a row of small numbers has a small number at each place
pub small_at : (row : List Value) (p : ℕ) → is_small_row row ≡ true → IsBelow 32 (value_at row p)
small_at [] p h = tt
small_at (Null ∷ row) zero h = tt
small_at (Int x ∷ row) zero h = ltb-true (nat_abs x) (2 ^ 32) (first_so (nat_lt (nat_abs x) (2 ^ 32)) (is_small_row row) h)
small_at (Text t ∷ row) zero h = tt
small_at (v ∷ row) (suc p) h = small_at row p (second_so (is_small v) (is_small_row row) h)

row_leaf_below : (row : List Value) → is_small_row row ≡ true → (n : Node) (bs : List ℕ) (p : ℕ) → LeafBelow n (bound_of n bs) (row_leaf row n p)
row_leaf_below row small (node.Lit l) bs p = tt
row_leaf_below row small (node.Col c) bs p = small_at row p small
row_leaf_below row small (node.Neg a) bs p = tt
row_leaf_below row small (node.Arith o a c) bs p = tt
row_leaf_below row small (node.Compare o a c) bs p = tt
row_leaf_below row small (node.Both a c) bs p = tt
row_leaf_below row small (node.Either a c) bs p = tt
row_leaf_below row small (node.Not a) bs p = tt
row_leaf_below row small (node.IsNull a) bs p = tt
row_leaf_below row small (node.NotNull a) bs p = tt
row_leaf_below row small (node.Aggregate f a) bs p = tt

nothing_done : (leaves : List Value) (k : ℕ) → value_at leaves (length {A = ℕ} [] + k) ≡ value_at leaves k
nothing_done leaves k = let same : length {A = ℕ} [] + k ≡ k = omega arith in ap (value_at leaves) same

pub row_below : (s : Setting) (row : List Value) → IsSound s.texts s.query.nodes → is_small_row row ≡ true
    → AllBelow (leaves_of (row_leaf row) s.query.nodes s.positions) s.texts s.query.nodes [] × Zipped (bounds_of s.query.nodes) (row_values s row)
unfolding row_values
row_below s row sound small =
    values_below (leaves_of (row_leaf row) s.query.nodes s.positions) s.texts s.query.nodes [] [] tt
    (leaves_below (bounds_of s.query.nodes) (row_leaf row) (λ n ns bs p is before narrow. row_leaf_below row small n bs p)
    s.query.nodes s.positions [] (leaves_of (row_leaf row) s.query.nodes s.positions)
    (nothing_done (leaves_of (row_leaf row) s.query.nodes s.positions)) refl sound.tree sound.narrow)
    sound.narrow

nulls_below : (b : ℕ) (rows : List (List Value)) → EachBelow b (map (λ row. Null) rows)
nulls_below b [] = tt
nulls_below b (row ∷ rows) = (tt, nulls_below b rows)

operand_values_below : (s : Setting) (a : ℕ) (rows : List (List Value)) → IsSound s.texts s.query.nodes → list_all is_small_row rows ≡ true
    → EachBelow (bound_at (bounds_of s.query.nodes) a) (map (λ row. value_of (row_values s row) a) rows)
operand_values_below s a [] sound small = tt
operand_values_below s a (row ∷ rows) sound small = (
  zipped_at (bounds_of s.query.nodes) (row_values s row) a (row_below s row sound (first_so (is_small_row row) (list_all is_small_row rows) small)).1,
  operand_values_below s a rows sound (second_so (is_small_row row) (list_all is_small_row rows) small),
)

operands_below : (s : Setting) (a : Option ℕ) (rows : List (List Value)) (ns : List Node) (bs : List ℕ) → IsSound s.texts s.query.nodes
    → list_all is_small_row rows ≡ true → bounds_from ns bs ≡ bounds_of s.query.nodes → stands_before_place a (length bs) ≡ true
    → OperandsBelow bs a (operands s a rows)
operands_below s None rows ns bs sound small is before = λ b. nulls_below b rows
operands_below s (Some a) rows ns bs sound small is before =
    let same : bound_at (bounds_of s.query.nodes) a ≡ bound_at bs a = ap (λ l. bound_at l a) (sym is) ∙ bound_kept ns bs a (ltb-true a (length bs) before) in
    let P : ℕ → Type 0 = λ b. EachBelow b (operands s (Some a) rows) in
    subst P same (operand_values_below s a rows sound small)

operands_length : (s : Setting) (a : Option ℕ) (rows : List (List Value)) → length (operands s a rows) ≡ length rows
operands_length s None [] = refl
operands_length s None (row ∷ rows) = ap suc (operands_length s None rows)
operands_length s (Some a) [] = refl
operands_length s (Some a) (row ∷ rows) = ap suc (operands_length s (Some a) rows)

small_first : (rows : List (List Value)) → list_all is_small_row rows ≡ true → is_small_row (first_row rows) ≡ true
small_first [] h = refl
small_first (row ∷ rows) h = first_so (is_small_row row) (list_all is_small_row rows) h

module _ (s : Setting) (rows : List (List Value)) (sound : IsSound s.texts s.query.nodes) (small : list_all is_small_row rows ≡ true) (few : length rows ≤ 2 ^ 30) where
  fold_below : (n : Node) (ns : List Node) (bs : List ℕ) (p : ℕ) → bounds_from (n ∷ ns) bs ≡ bounds_of s.query.nodes → has_children_before (length bs) n ≡ true
      → is_narrow (bound_of n bs) ≡ true → LeafFits s rows n × LeafBelow n (bound_of n bs) (group_leaf s rows n p)
  fold_below (node.Lit l) ns bs p is before narrow = (tt, tt)
  fold_below (node.Col c) ns bs p is before narrow = (tt, small_at (first_row rows) p (small_first rows small))
  fold_below (node.Neg a) ns bs p is before narrow = (tt, tt)
  fold_below (node.Arith o a c) ns bs p is before narrow = (tt, tt)
  fold_below (node.Compare o a c) ns bs p is before narrow = (tt, tt)
  fold_below (node.Both a c) ns bs p is before narrow = (tt, tt)
  fold_below (node.Either a c) ns bs p is before narrow = (tt, tt)
  fold_below (node.Not a) ns bs p is before narrow = (tt, tt)
  fold_below (node.IsNull a) ns bs p is before narrow = (tt, tt)
  fold_below (node.NotNull a) ns bs p is before narrow = (tt, tt)
  fold_below (node.Aggregate f a) ns bs p is before narrow =
      aggregate_below f bs a (operands s a rows) (operands_below s a rows (node.Aggregate f a ∷ ns) bs sound small is before)
      (omega (arith, operands_length s a rows)) narrow

  pub group_fits : AllByRecursion (LeafFits s rows) s.query.nodes
  group_fits = each_node (bounds_of s.query.nodes) (LeafFits s rows) (λ n ns bs is before narrow. (fold_below n ns bs 0 is before narrow).0) s.query.nodes [] refl sound.tree sound.narrow

  both_below : AllBelow (leaves_of (group_leaf s rows) s.query.nodes s.positions) s.texts s.query.nodes [] × Zipped (bounds_of s.query.nodes) (group_values s rows)
  unfolding group_values
  both_below =
      values_below (leaves_of (group_leaf s rows) s.query.nodes s.positions) s.texts s.query.nodes [] [] tt
      (leaves_below (bounds_of s.query.nodes) (group_leaf s rows) (λ n ns bs p is before narrow. (fold_below n ns bs p is before narrow).1)
      s.query.nodes s.positions [] (leaves_of (group_leaf s rows) s.query.nodes s.positions)
      (nothing_done (leaves_of (group_leaf s rows) s.query.nodes s.positions)) refl sound.tree sound.narrow)
      sound.narrow

  pub group_below : AllBelow (leaves_of (group_leaf s rows) s.query.nodes s.positions) s.texts s.query.nodes []
  group_below = both_below.0

  pub group_zipped : Zipped (bounds_of s.query.nodes) (group_values s rows)
  group_zipped = both_below.1

pub row_values_lie_below : RowValuesLieBelow
row_values_lie_below s row sound small k = zipped_at (bounds_of s.query.nodes) (row_values s row) k (row_below s row sound small).1

pub group_values_lie_below : GroupValuesLieBelow
group_values_lie_below s rows sound small few k = zipped_at (bounds_of s.query.nodes) (group_values s rows) k (group_zipped s rows sound small few)
