-- The column that a name means among those of one table.
use Rattle.std.proofs.Common.{◌≡◌, ℕ, suc, ◌+◌, Bool, true, false, List, [], ◌∷◌, None, map, refl, sym, ap, ◌∙◌, ◌++◌, ◌<◌, length, cond, not, ◌||◌, ◌&&◌, get_or, take}
use Rattle.std.specs.List.{count_by, list_any, position_or_len}
use Rattle.std.specs.Cmp.Lexicographic.{nat_list_eq_equiv}
use Rattle.std.proofs.lemmas.List.Sums.{sum_by-cons}
use Rattle.std.proofs.lemmas.List.{take_more, map-append}
use Rattle.hg_catalog.specs.Contents.{are_different_names}
use Rattle.hg_model.specs.ChangeBinding.{column_number, place_of_node, change_positions, node_name_cause}
use Rattle.hg_model.specs.Scope.{columns_from, is_named, is_of_table}
use Rattle.hg_model.specs.Tables.{same_name}
use Rattle.hg_model.specs.declared.tables.FromColumn.{FromColumn}
use Rattle.hg_model.specs.declared.trees.Column.{Column}
use Rattle.hg_model.specs.declared.trees.ColRef.{ColRef}
use Rattle.hg_model.specs.declared.trees.Node.{Node}
use Rattle.hg_model.specs.declared.trees.Node.TheVariants as node
use Rattle.hg_bind.specs.Bound.{row_places}

count_step : {X : Type 0} (p : X → Bool) (x : X) (xs : List X) → count_by p (x ∷ xs) ≡ cond (p x) 1 0 + count_by p xs
count_step p x xs = sum_by-cons (λ y. cond (p y) 1 0) x xs

module _ (c : ColRef) (t : ℕ) (alias : List ℕ) where
  abbrev has : Column → Bool
  has col = same_name col.name c.name

  turned : (col : Column) → same_name c.name col.name ≡ has col
  turned col = nat_list_eq_equiv.symm c.name col.name

  -- a name with another table's alias
  pub other_table : is_of_table c.table alias ≡ false → (k : ℕ) (cs : List Column) → count_by (is_named c) (columns_from t alias k cs) ≡ 0
  other_table off k [] = refl
  other_table off k (x ∷ xs) =
      count_step (is_named c) (record { table = t; alias = alias; place = k; column = x }) (columns_from t alias (suc k) xs)
      ∙ ap (λ b. cond (b && same_name c.name x.name) 1 0 + count_by (is_named c) (columns_from t alias (suc k) xs)) off
      ∙ ap (λ n. 0 + n) (other_table off (suc k) xs)

  module _ (on : is_of_table c.table alias ≡ true) where
    here : (k : ℕ) (x : Column) → is_named c (record { table = t; alias = alias; place = k; column = x }) ≡ has x
    here k x = ap (λ b. b && same_name c.name x.name) on ∙ turned x

    pub same_place : (k : ℕ) (cs : List Column) → position_or_len (is_named c) (columns_from t alias k cs) ≡ column_number cs c.name
    same_place k [] = refl
    same_place k (x ∷ xs) =
        ap (λ b. cond (not b) (1 + position_or_len (is_named c) (columns_from t alias (suc k) xs)) 0) (here k x)
        ∙ ap (λ n. cond (not (has x)) (1 + n) 0) (same_place (suc k) xs)

    pub same_count : (k : ℕ) (cs : List Column) → count_by (is_named c) (columns_from t alias k cs) ≡ count_by has cs
    same_count k [] = refl
    same_count k (x ∷ xs) =
        count_step (is_named c) (record { table = t; alias = alias; place = k; column = x }) (columns_from t alias (suc k) xs)
        ∙ ap (λ b. cond b 1 0 + count_by (is_named c) (columns_from t alias (suc k) xs)) (here k x)
        ∙ ap (λ n. cond (has x) 1 0 + n) (same_count (suc k) xs)
        ∙ sym (count_step has x xs)

-- among different names at most one is this one
module _ (name : List ℕ) where
  abbrev named : Column → Bool
  named col = same_name col.name name

  pub none_counted : (cs : List Column) → list_any named cs ≡ false → count_by named cs ≡ 0
  none_counted [] h = refl
  none_counted (x ∷ xs) h = count_step named x xs ∙ by (named x) (λ e. none_counted xs e) h
    where
      by : (b : Bool) → (list_any named xs ≡ false → count_by named xs ≡ 0) → (b || list_any named xs) ≡ false → cond b 1 0 + count_by named xs ≡ 0
      by true rest e = absurd cc
      by false rest e = ap (λ n. 0 + n) (rest e)

  others : (x : Column) (xs : List Column) → named x ≡ true → list_any (same_name x.name) (map (λ (c : Column). c.name) xs) ≡ list_any named xs
  others x [] h = refl
  others x (y ∷ ys) h =
      ap (λ b. b || list_any (same_name x.name) (map (λ (c : Column). c.name) ys)) (nat_list_eq_equiv.congr x.name name y.name h ∙ nat_list_eq_equiv.symm name y.name)
      ∙ ap (λ b. named y || b) (others x ys h)

  pub one_counted : (cs : List Column) → are_different_names (map (λ (c : Column). c.name) cs) ≡ true → list_any named cs ≡ true → count_by named cs ≡ 1
  one_counted [] d h = absurd cc
  one_counted (x ∷ xs) d h = count_step named x xs ∙ by (named x) refl (λ e. one_counted xs (rest _ _ d) e) h
    where
      fresh : (a b : Bool) → (not a && b) ≡ true → a ≡ false
      fresh true b e = absurd cc
      fresh false b e = refl

      rest : (a b : Bool) → (not a && b) ≡ true → b ≡ true
      rest true b e = absurd cc
      rest false b e = e

      by : (b : Bool) → named x ≡ b → (list_any named xs ≡ true → count_by named xs ≡ 1) → (b || list_any named xs) ≡ true → cond b 1 0 + count_by named xs ≡ 1
      by true is more e = ap (λ n. 1 + n) (none_counted xs (sym (others x xs is) ∙ fresh _ _ d))
      by false is more e = ap (λ n. 0 + n) (more e)

-- a node that is no column
pub no_column : (scope : List FromColumn) (n : Node) → ((c : ColRef) → n ≡ node.Col c → ⊥) → (place_of_node scope n ≡ length scope) × (node_name_cause scope n ≡ None)
no_column scope (node.Lit l) h = (refl, refl)
no_column scope (node.Col c) h = absurd (h c refl)
no_column scope (node.Neg a) h = (refl, refl)
no_column scope (node.Arith o a b) h = (refl, refl)
no_column scope (node.Compare o a b) h = (refl, refl)
no_column scope (node.Both a b) h = (refl, refl)
no_column scope (node.Either a b) h = (refl, refl)
no_column scope (node.Not a) h = (refl, refl)
no_column scope (node.IsNull a) h = (refl, refl)
no_column scope (node.NotNull a) h = (refl, refl)
no_column scope (node.Aggregate f a) h = (refl, refl)

pub scope_length : (t : ℕ) (alias : List ℕ) (k : ℕ) (cs : List Column) → length (columns_from t alias k cs) ≡ length cs
scope_length t alias k [] = refl
scope_length t alias k (x ∷ xs) = ap suc (scope_length t alias (suc k) xs)

-- the places of one node more
pub places_more : (scope : List FromColumn) (nodes : List Node) (i : ℕ) (n : Node) (k : ℕ) (places : List (ℕ × ℕ)) → i < length nodes → n ≡ get_or nodes i n
    → places ≡ row_places (change_positions scope (take i nodes)) → k ≡ place_of_node scope n
    → places ++ (255, k) ∷ [] ≡ row_places (change_positions scope (take (i + 1) nodes))
places_more scope nodes i n k places h is so_far here =
    let more : take (i + 1) nodes ≡ take i nodes ++ n ∷ [] = take_more nodes i n h ∙ ap (λ m. take i nodes ++ m ∷ []) (sym is) in
    let placed : change_positions scope (take (i + 1) nodes) ≡ change_positions scope (take i nodes) ++ place_of_node scope n ∷ [] =
    ap (change_positions scope) more ∙ map-append (place_of_node scope) (take i nodes) (n ∷ []) in
    ap (λ l. l ++ (255, k) ∷ []) so_far ∙ ap (λ m. row_places (change_positions scope (take i nodes)) ++ (255, m) ∷ []) here
    ∙ sym (ap row_places placed ∙ map-append (λ m. (255, m)) (change_positions scope (take i nodes)) (place_of_node scope n ∷ []))
