-- The tables so far tell the values of the nodes whose columns are all there.
use Rattle.std.proofs.Common.{◌≡◌, ℕ, zero, suc, ◌+◌, ◌*◌, ◌<◌, ◌≤◌, Bool, true, false, List, [], ◌∷◌, ◌++◌, length, take, get_or, refl, sym, ap, ◌∙◌, subst, arith, length-append, length-take, Some}
use Rattle.std.specs.Prelude.{slice_get, not, nat_le, nat_eq, ◌==◌, ◌||◌, if◌then◌else◌}
use Rattle.std.specs.Cmp.{first_so, second_so}
use Rattle.std.specs.List.{list_all, flat_map}
use Rattle.std.proofs.lemmas.Bool.Decides.{nat_tests}
use Rattle.std.proofs.lemmas.List.{get_or_past, get_or-take}
use Rattle.std.proofs.lemmas.List.Folds.{list_all-append}
use borrow.Author.Tests.{ltb-true, leb-true}
use Rattle.hg_model.specs.Binding.{free_columns, free_from, columns_at}
use Rattle.hg_model.specs.Conditions.{are_there, table_at}
use Rattle.hg_model.specs.Evaluation.{value_at, as_value, as_truth, value_of, truth_of, node_value, values_from, values_of, negative, arithmetic}
use Rattle.hg_model.specs.NullLogic.{both, either, opposite, known, compare, is_null}
use Rattle.hg_model.specs.SelectMeaning.{leaves_of, row_leaf, node_values}
use Rattle.hg_model.specs.declared.tables.FromColumn.{FromColumn}
use Rattle.hg_model.specs.declared.values.Value.{Value}
use Rattle.hg_model.specs.declared.values.Value.TheVariants.{Null}
use Rattle.hg_model.specs.declared.values.NodeValue.{NodeValue}
use Rattle.hg_model.specs.declared.values.NodeValue.TheVariants.{Plain, Condition}
use Rattle.hg_model.specs.declared.trees.Node.{Node}
use Rattle.hg_model.specs.declared.trees.Node.TheVariants as node
use Rattle.hg_expr.proofs.Holding.{stands_at, held_short}
use Rattle.hg_expr.specs.Laws.{IsOnePlace, AreOnePlaces, TablesSoFarTell, held}
use Rattle.hg_expr.specs.Over.{leaf_at, leaves_at, values_over}
use Rattle.hg_expr.specs.Slots.{key_of, names_key, is_named, number_of, slot_at, slots_from, slots_of}

-- ---- values agree where columns are there

module _ (scope : List FromColumn) (k : ℕ) where
  abbrev Agree : List (List ℕ) → List NodeValue → List NodeValue → Type 0
  Agree frees a b = (j : ℕ) → are_there scope (columns_at frees j) k ≡ true → get_or a j (Plain Null) ≡ get_or b j (Plain Null)

  agree_push : (frees : List (List ℕ)) (a b : List NodeValue) (f : List ℕ) (x y : NodeValue) → length a ≡ length frees → length b ≡ length frees
      → Agree frees a b → (are_there scope f k ≡ true → x ≡ y) → Agree (frees ++ f ∷ []) (a ++ x ∷ []) (b ++ y ∷ [])
  agree_push [] [] [] f x y la lb same now zero h = now h
  agree_push [] [] [] f x y la lb same now (suc j) h = refl
  agree_push [] [] (v ∷ vs) f x y la lb same now j h = absurd (omega arith)
  agree_push [] (u ∷ us) b f x y la lb same now j h = absurd (omega arith)
  agree_push (g ∷ gs) [] b f x y la lb same now j h = absurd (omega arith)
  agree_push (g ∷ gs) (u ∷ us) [] f x y la lb same now j h = absurd (omega arith)
  agree_push (g ∷ gs) (u ∷ us) (v ∷ vs) f x y la lb same now zero h = same zero h
  agree_push (g ∷ gs) (u ∷ us) (v ∷ vs) f x y la lb same now (suc j) h =
      agree_push gs us vs f x y (omega arith) (omega arith) (λ i. same (suc i)) now j h

  -- what the leaves give at a node, of a column only where it is there
  abbrev LeafAgrees : Node → ℕ → Value → Value → Type 0
  LeafAgrees (node.Col c) p v w = are_there scope (p ∷ []) k ≡ true → v ≡ w
  LeafAgrees (node.Aggregate f a) p v w = v ≡ w
  LeafAgrees (node.Lit l) p v w = Unit {0}
  LeafAgrees (node.Neg a) p v w = Unit {0}
  LeafAgrees (node.Arith o a b) p v w = Unit {0}
  LeafAgrees (node.Compare o a b) p v w = Unit {0}
  LeafAgrees (node.Both a b) p v w = Unit {0}
  LeafAgrees (node.Either a b) p v w = Unit {0}
  LeafAgrees (node.Not a) p v w = Unit {0}
  LeafAgrees (node.IsNull a) p v w = Unit {0}
  LeafAgrees (node.NotNull a) p v w = Unit {0}

  module _ (texts : List ℕ) (frees : List (List ℕ)) (a b : List NodeValue) (same : Agree frees a b) where
    left : (x y : ℕ) → are_there scope (columns_at frees x ++ columns_at frees y) k ≡ true → get_or a x (Plain Null) ≡ get_or b x (Plain Null)
    left x y h =
        let test : ℕ → Bool = λ p. nat_le (table_at scope p) k in
        same x (first_so (list_all test (columns_at frees x)) (list_all test (columns_at frees y))
        (sym (list_all-append test (columns_at frees x) (columns_at frees y)) ∙ h))

    right : (x y : ℕ) → are_there scope (columns_at frees x ++ columns_at frees y) k ≡ true → get_or a y (Plain Null) ≡ get_or b y (Plain Null)
    right x y h =
        let test : ℕ → Bool = λ p. nat_le (table_at scope p) k in
        same y (second_so (list_all test (columns_at frees x)) (list_all test (columns_at frees y))
        (sym (list_all-append test (columns_at frees x) (columns_at frees y)) ∙ h))

    node_agrees : (m : Node) (p : ℕ) (v w : Value) → LeafAgrees m p v w → are_there scope (free_columns p m frees) k ≡ true
        → node_value v texts m a ≡ node_value w texts m b
    node_agrees (node.Lit l) p v w leaf h = refl
    node_agrees (node.Col c) p v w leaf h = ap Plain (leaf h)
    node_agrees (node.Neg x) p v w leaf h = ap (λ u. Plain (negative (as_value u))) (same x h)
    node_agrees (node.Arith o x y) p v w leaf h = λ i. Plain (arithmetic o (as_value (left x y h i)) (as_value (right x y h i)))
    node_agrees (node.Compare o x y) p v w leaf h = λ i. Condition (compare o (as_value (left x y h i)) (as_value (right x y h i)))
    node_agrees (node.Both x y) p v w leaf h = λ i. Condition (both (as_truth (left x y h i)) (as_truth (right x y h i)))
    node_agrees (node.Either x y) p v w leaf h = λ i. Condition (either (as_truth (left x y h i)) (as_truth (right x y h i)))
    node_agrees (node.Not x) p v w leaf h = ap (λ u. Condition (opposite (as_truth u))) (same x h)
    node_agrees (node.IsNull x) p v w leaf h = ap (λ u. Condition (known (is_null (as_value u)))) (same x h)
    node_agrees (node.NotNull x) p v w leaf h = ap (λ u. Condition (known (not (is_null (as_value u))))) (same x h)
    node_agrees (node.Aggregate f x) p v w leaf h = ap Plain leaf

  values_agree : (texts : List ℕ) (vs ws : List Value) (positions : List ℕ) (ns : List Node) (frees : List (List ℕ)) (a b : List NodeValue)
      → length a ≡ length frees → length b ≡ length frees
      → ((j i : ℕ) (m : Node) → i ≡ length frees + j → slice_get ns j ≡ Some m → LeafAgrees m (get_or positions i 0) (value_at vs i) (value_at ws i))
      → Agree frees a b → Agree (free_from positions ns frees) (values_from vs texts ns a) (values_from ws texts ns b)
  values_agree texts vs ws positions [] frees a b la lb leaf same = same
  values_agree texts vs ws positions (n ∷ ns) frees a b la lb leaf same =
      let f : List ℕ = free_columns (get_or positions (length frees) 0) n frees in
      let x : NodeValue = node_value (value_at vs (length a)) texts n a in
      let y : NodeValue = node_value (value_at ws (length b)) texts n b in
      let first : LeafAgrees n (get_or positions (length frees) 0) (value_at vs (length a)) (value_at ws (length b)) =
      subst (λ l. LeafAgrees n (get_or positions (length frees) 0) (value_at vs l) (value_at ws (length b))) (sym la)
      (subst (λ l. LeafAgrees n (get_or positions (length frees) 0) (value_at vs (length frees)) (value_at ws l)) (sym lb)
      (leaf 0 (length frees) n (omega arith) refl)) in
      values_agree texts vs ws positions ns (frees ++ f ∷ []) (a ++ x ∷ []) (b ++ y ∷ [])
      (omega (arith, length-append a (x ∷ []), length-append frees (f ∷ []), la))
      (omega (arith, length-append b (y ∷ []), length-append frees (f ∷ []), lb))
      (λ j i m e g. leaf (suc j) i m (omega (arith, length-append frees (f ∷ []), e)) g)
      (agree_push frees a b f x y la lb same (node_agrees texts frees a b same n (get_or positions (length frees) 0) (value_at vs (length a)) (value_at ws (length b)) first))

-- ---- what the leaves are

pub record Leaf (scope : List FromColumn) (rows : List (List Value)) (row full : List Value) (all : List Node) (all_places : List (ℕ × ℕ))
    (ns : List Node) (ps : List ℕ) (qs : List (ℕ × ℕ)) (j : ℕ) (m : Node) : Type 0 where
  pub place : ℕ × ℕ
  pub first : value_at (leaves_of (leaf_at row) ns (slots_from all all_places ns qs)) j ≡ leaf_at row m (slot_at all all_places m place)
  pub second : value_at (leaves_of (row_leaf full) ns ps) j ≡ row_leaf full m (get_or ps j 0)
  pub one : IsOnePlace scope rows m (get_or ps j 0) place
  pub named : (key : ℕ) → names_key key m place ≡ true → is_named ns qs key ≡ true

or_right : (a b : Bool) → b ≡ true → a || b ≡ true
or_right true b h = refl
or_right false b h = h

or_left : (a b : Bool) → a ≡ true → a || b ≡ true
or_left true b h = refl
or_left false b h = absurd cc

module _ (scope : List FromColumn) (rows : List (List Value)) (row full : List Value) (all : List Node) (all_places : List (ℕ × ℕ)) where
  leaf_of : (ns : List Node) (ps : List ℕ) (qs : List (ℕ × ℕ)) (j : ℕ) (m : Node) → AreOnePlaces scope rows ns ps qs → slice_get ns j ≡ Some m
      → Leaf scope rows row full all all_places ns ps qs j m
  leaf_of [] ps qs j m h g = absurd cc
  leaf_of (n ∷ ns) [] qs j m h g = absurd h
  leaf_of (n ∷ ns) (p ∷ ps) [] j m h g = absurd h
  leaf_of (n ∷ ns) (p ∷ ps) (q ∷ qs) zero m h g =
      let is : n ≡ m = cc in
      subst (Leaf scope rows row full all all_places (n ∷ ns) (p ∷ ps) (q ∷ qs) zero) is (record {
        place = q;
        first = refl;
        second = refl;
        one = h.0;
        named = λ key e. or_left (names_key key n q) (is_named ns qs key) e;
      })
  leaf_of (n ∷ ns) (p ∷ ps) (q ∷ qs) (suc j) m h g =
      let r = leaf_of ns ps qs j m h.1 g in
      record {
        place = r.place;
        first = r.first;
        second = r.second;
        one = r.one;
        named = λ key e. or_right (names_key key n q) (is_named ns qs key) (r.named key e);
      }

module _ (scope : List FromColumn) (k : ℕ) (rows : List (List Value)) (nodes : List Node) (positions : List ℕ) (places : List (ℕ × ℕ))
    (few : length rows ≤ 4) (here : k < length rows) where
  abbrev row : List Value
  row = held nodes places (take (suc k) rows)

  abbrev full : List Value
  full = flat_map (λ r. r) rows

  short : length row ≤ 64
  short = omega (arith, held_short nodes places (take (suc k) rows) 0, length-take (suc k) rows)

  no_table : (t : ℕ) → t < 4 → (t == 255) ≡ false
  no_table t h = grind (arith, nat_tests)

  reflexive : (t : ℕ) → nat_eq t t ≡ true
  reflexive t = grind (arith, nat_tests)

  agrees : (j : ℕ) (m : Node) → Leaf scope rows row full nodes places nodes positions places j m
      → LeafAgrees scope k m (get_or positions j 0) (value_at (leaves_at row nodes (slots_from nodes places nodes places)) j) (value_at (leaves_of (row_leaf full) nodes positions) j)
  agrees j (node.Col c) r = λ h.
      let t : ℕ = r.place.0 in
      let test = first_so (nat_le (table_at scope (get_or positions j 0)) k) true h in
      let low : t ≤ k = omega (arith, r.one.same_table, leb-true (table_at scope (get_or positions j 0)) k test) in
      let e : ℕ = number_of nodes places (key_of r.place) in
      let slot : slot_at nodes places (node.Col c) r.place ≡ e = ap (λ b. if b then r.place.1 else e) (no_table t r.one.table) in
      let key : 16 * (0 + t) + r.place.1 ≡ key_of r.place = omega arith in
      let named : is_named nodes places (key_of r.place) ≡ true = r.named (key_of r.place) (reflexive (key_of r.place)) in
      let at : value_at row e ≡ value_at (get_or (take (suc k) rows) t []) r.place.1 =
      stands_at nodes places (take (suc k) rows) 0 t r.place.1 e (omega (arith, length-take (suc k) rows, low, here)) r.one.column
      (ap (is_named nodes places) key ∙ named) (omega (arith, ap (number_of nodes places) key)) in
      r.first ∙ ap (value_at row) slot ∙ at
      ∙ ap (λ l. value_at l r.place.1) (get_or-take (suc k) rows t [] (omega (arith, low)))
      ∙ sym r.one.same_value ∙ sym r.second
  agrees j (node.Aggregate f a) r =
      let behind : 64 ≤ slot_at nodes places (node.Aggregate f a) r.place = by (r.place.0 == 255) refl r.one in
      r.first ∙ get_or_past row (slot_at nodes places (node.Aggregate f a) r.place) Null (omega (arith, short, behind)) ∙ sym r.second
    where
      by : (b : Bool) → (r.place.0 == 255) ≡ b → (r.place.0 ≡ 255 → 64 ≤ r.place.1) → 64 ≤ (if r.place.0 == 255 then r.place.1 else 255)
      by true e h = let is : r.place.0 ≡ 255 = grind (arith, nat_tests) in subst (λ b. 64 ≤ (if b then r.place.1 else 255)) (sym e) (h is)
      by false e h = let far : 64 ≤ 255 = omega arith in subst (λ b. 64 ≤ (if b then r.place.1 else 255)) (sym e) far
  agrees j (node.Lit l) r = tt
  agrees j (node.Neg a) r = tt
  agrees j (node.Arith o a b) r = tt
  agrees j (node.Compare o a b) r = tt
  agrees j (node.Both a b) r = tt
  agrees j (node.Either a b) r = tt
  agrees j (node.Not a) r = tt
  agrees j (node.IsNull a) r = tt
  agrees j (node.NotNull a) r = tt

  whole : (texts : List ℕ) (n : ℕ) → AreOnePlaces scope rows nodes positions places → are_there scope (columns_at (free_from positions nodes []) n) k ≡ true
      → get_or (values_over texts (slots_of nodes places) nodes row) n (Plain Null) ≡ get_or (node_values texts positions nodes full) n (Plain Null)
  unfolding values_over slots_of
  whole texts n one h =
      values_agree scope k texts (leaves_at row nodes (slots_from nodes places nodes places)) (leaves_of (row_leaf full) nodes positions) positions nodes [] [] [] refl refl
      (λ j i m e g. let is : j ≡ i = omega (arith, e) in
      subst (λ l. LeafAgrees scope k m (get_or positions l 0) (value_at (leaves_at row nodes (slots_from nodes places nodes places)) l) (value_at (leaves_of (row_leaf full) nodes positions) l)) is
      (agrees j m (leaf_of scope rows row full nodes places nodes positions places j m one g)))
      (λ j h'. refl) n h

pub tables_so_far_tell : TablesSoFarTell
tables_so_far_tell scope texts nodes positions places rows k n few one here there =
    let same = whole scope k rows nodes positions places few here texts n one there in
    (ap as_value same, ap as_truth same)
