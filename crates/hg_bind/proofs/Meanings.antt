-- A bound SELECT gives for each row, and each group, what the statement gives.
use Rattle.std.proofs.Common.{◌≡◌, ◌<◌, ◌≤◌, ℕ, zero, suc, ◌+◌, Bool, true, false, List, [], ◌∷◌, ◌++◌, Option, Some, None, map, refl, sym, ap, subst, ◌∙◌, length, get_or, cond, not, ◌&&◌, ◌||◌, if◌then◌else◌, arith}
use Rattle.std.specs.Prelude.{is_some, nat_lt, slice_get}
use Rattle.std.specs.List.{AllByRecursion, filter, flat_map, list_all, list_any}
use Rattle.std.specs.Option.{option_to_list}
use Rattle.std.specs.Cmp.{first_so, second_so}
use Rattle.std.proofs.Math.Path.{fun_ext}
use Rattle.std.proofs.lemmas.Bool.Decides.{nat_tests}
use Rattle.hg_model.specs.Aggregates.{aggregate}
use Rattle.hg_model.specs.Binding.{is_order_key, is_output_target}
use Rattle.hg_model.specs.Evaluation.{as_truth, as_value, truth_of, value_at, value_of, values_of}
use Rattle.hg_model.specs.Groups.{groups_by}
use Rattle.hg_model.specs.NullLogic.{is_true}
use Rattle.hg_model.specs.Order.{Pair}
use Rattle.hg_model.specs.Query.{Query}
use Rattle.hg_model.specs.Scope.{name_target, output_count, output_found, output_or_node, positions_of, target_of}
use Rattle.hg_model.specs.SelectMeaning.{Setting, conditions, first_row, group_key, group_leaf, group_pair, group_values, groups_of, is_aggregate, is_grouped, keeps_group, keeps_row, leaves_of, operands, output_row, pair_of, pairs_of, row_leaf, row_pair, row_values, sort_key, target_value, targets_of}
use Rattle.hg_model.specs.declared.tables.FromColumn.{FromColumn}
use Rattle.hg_model.specs.declared.tables.SortKey.{SortKey}
use Rattle.hg_model.specs.declared.tables.Target.{Target}
use Rattle.hg_model.specs.declared.tables.Target.TheVariants.{ToOutput, ToNode}
use Rattle.hg_model.specs.declared.trees.Node.{Node}
use Rattle.hg_model.specs.declared.trees.Node.TheVariants as node
use Rattle.hg_model.specs.declared.trees.OrderBy.{OrderBy}
use Rattle.hg_model.specs.declared.trees.OrderBy.TheVariants.{Position, Column as ByColumn}
use Rattle.hg_model.specs.declared.trees.OrderKey.{OrderKey}
use Rattle.hg_model.specs.declared.trees.Output.{Output}
use Rattle.hg_model.specs.declared.values.NodeValue.{NodeValue}
use Rattle.hg_model.specs.declared.values.Value.{Value}
use Rattle.hg_model.specs.declared.values.Value.TheVariants.{Null}
use Rattle.hg_bind.specs.BoundMeaning.{KeysStandApart, children, is_apart, is_within, key_target}
use Rattle.hg_bind.specs.BoundSelect.{column_node, outputs_written, place_of_found, places_written, settled, settled_node, star_nodes, star_outputs, written_out}
use Rattle.hg_bind.specs.Selecting.{named_from}
use Rattle.hg_bind.proofs.Positions.{keys_back}
use Rattle.hg_bind.proofs.Replacing.{apart_lives, apart_there, back_all, front_all, named_nodes, replaced, star_row, star_value, values_agree}

-- lists whose items are treated alike
alike_all : (p : ℕ → Bool) (f g : ℕ → Bool) (ns : List ℕ) → list_all p ns ≡ true → ((n : ℕ) → p n ≡ true → f n ≡ g n) → list_all f ns ≡ list_all g ns
alike_all p f g [] h e = refl
alike_all p f g (n ∷ ns) h e =
    ap (λ b. b && list_all f ns) (e n (first_so (p n) (list_all p ns) h))
    ∙ ap (λ b. g n && b) (alike_all p f g ns (second_so (p n) (list_all p ns) h) e)

alike_map : {X : Type 0} (p : ℕ → Bool) (f g : ℕ → X) (ns : List ℕ) → list_all p ns ≡ true → ((n : ℕ) → p n ≡ true → f n ≡ g n) → map f ns ≡ map g ns
alike_map p f g [] h e = refl
alike_map p f g (n ∷ ns) h e =
    ap (λ x. x ∷ map f ns) (e n (first_so (p n) (list_all p ns) h)) ∙ ap (λ l. g n ∷ l) (alike_map p f g ns (second_so (p n) (list_all p ns) h) e)

alike_outputs : {X : Type 0} (p : ℕ → Bool) (f g : ℕ → X) (os : List Output) → list_all p (map (λ (o : Output). o.node) os) ≡ true → ((n : ℕ) → p n ≡ true → f n ≡ g n)
    → map (λ (o : Output). f o.node) os ≡ map (λ (o : Output). g o.node) os
alike_outputs p f g [] h e = refl
alike_outputs p f g (o ∷ os) h e =
    ap (λ x. x ∷ map (λ (o : Output). f o.node) os) (e o.node (first_so (p o.node) (list_all p (map (λ (o : Output). o.node) os)) h))
    ∙ ap (λ l. g o.node ∷ l) (alike_outputs p f g os (second_so (p o.node) (list_all p (map (λ (o : Output). o.node) os)) h) e)

-- a key of ORDER BY that is no output is its own node
own_or_output : (found outputs n : ℕ) → (b : Bool) → is_output_target (if b then ToOutput found else ToNode n) ≡ false → (if b then ToOutput found else ToNode n) ≡ ToNode n
own_or_output found outputs n true h = absurd cc
own_or_output found outputs n false h = refl

own_node : (scope : List FromColumn) (positions : List ℕ) (q : Query) (n : ℕ) (o : Option Node) → is_output_target (name_target scope positions q n o) ≡ false
    → name_target scope positions q n o ≡ ToNode n
own_node scope positions q n None h = refl
own_node scope positions q n (Some (node.Col c)) h =
    own_or_output (output_found scope positions q c) (output_count scope q) n (nat_lt (output_found scope positions q c) (output_count scope q)) h
own_node scope positions q n (Some (node.Lit l)) h = refl
own_node scope positions q n (Some (node.Neg a)) h = refl
own_node scope positions q n (Some (node.Arith o a b)) h = refl
own_node scope positions q n (Some (node.Compare c a b)) h = refl
own_node scope positions q n (Some (node.Both a b)) h = refl
own_node scope positions q n (Some (node.Either a b)) h = refl
own_node scope positions q n (Some (node.Not a)) h = refl
own_node scope positions q n (Some (node.IsNull a)) h = refl
own_node scope positions q n (Some (node.NotNull a)) h = refl
own_node scope positions q n (Some (node.Aggregate f a)) h = refl

output_alike : (vs vs' : List NodeValue) (out : List Value) (t : Target) → is_output_target t ≡ true → target_value vs' out t ≡ target_value vs out t
output_alike vs vs' out (ToOutput k) h = refl
output_alike vs vs' out (ToNode n) h = absurd cc

and_right : (b c : Bool) → c ≡ false → (b && c) ≡ false
and_right true c h = h
and_right false c h = refl

-- no aggregate comes or goes
settled_folds : (n : Node) (o : Option ℕ) → is_aggregate (settled_node n o) ≡ is_aggregate n
settled_folds (node.Col c) None = refl
settled_folds (node.Col c) (Some p) = refl
settled_folds (node.Lit l) o = refl
settled_folds (node.Neg a) o = refl
settled_folds (node.Arith x a b) o = refl
settled_folds (node.Compare x a b) o = refl
settled_folds (node.Both a b) o = refl
settled_folds (node.Either a b) o = refl
settled_folds (node.Not a) o = refl
settled_folds (node.IsNull a) o = refl
settled_folds (node.NotNull a) o = refl
settled_folds (node.Aggregate f a) o = refl

columns_fold : (cs : List FromColumn) → list_any is_aggregate (map column_node cs) ≡ false
columns_fold [] = refl
columns_fold (c ∷ cs) = columns_fold cs

star_folds : (b : Bool) (cs : List FromColumn) → list_any is_aggregate (star_nodes b cs) ≡ false
star_folds true cs = columns_fold cs
star_folds false cs = refl

none_more : (ns more : List Node) → list_any is_aggregate more ≡ false → list_any is_aggregate (ns ++ more) ≡ list_any is_aggregate ns
none_more [] more h = h
none_more (n ∷ ns) more h = ap (λ b. is_aggregate n || b) (none_more ns more h)

all_folds : (ns : List Node) (os : List (Option ℕ)) (more : List Node) → list_any is_aggregate more ≡ false → list_any is_aggregate (settled ns os ++ more) ≡ list_any is_aggregate ns
all_folds [] os more h = h
all_folds (n ∷ ns) [] more h = none_more (n ∷ ns) more h
all_folds (n ∷ ns) (o ∷ os) more h = ap (λ b. b || list_any is_aggregate (settled ns os ++ more)) (settled_folds n o) ∙ ap (λ b. is_aggregate n || b) (all_folds ns os more h)

pub bound_groups : (scope : List FromColumn) (positions : List ℕ) (q : Query) → is_grouped (written_out scope positions q) ≡ is_grouped q
bound_groups scope positions q =
    ap (λ b. nat_lt 0 (length q.group) || (is_some q.having || b))
    (all_folds q.nodes (named_from scope positions q 0 q.nodes) (star_nodes q.star scope) (star_folds q.star scope))

-- the settings of the statement and of its bound form
abbrev pub plain_of : List FromColumn → Query → List ℕ → Setting
plain_of scope q texts = record { query = q; texts = texts; positions = positions_of scope q; targets = targets_of scope (positions_of scope q) q }

abbrev pub placed_of : List FromColumn → Query → List ℕ → (ℕ × ℕ → ℕ) → Setting
placed_of scope q texts at = record {
  query = written_out scope (positions_of scope q) q;
  texts = texts;
  positions = map at (places_written scope (positions_of scope q) q);
  targets = map key_target (written_out scope (positions_of scope q) q).order;
}

-- a star gives the whole row
abbrev pub Fits : List FromColumn → Query → List Value → Type 0
Fits scope q row = q.star ≡ true → length row ≡ length scope

module _ (scope : List FromColumn) (q : Query) (texts : List ℕ) (at : ℕ × ℕ → ℕ) (at_is : (p : ℕ) → p ≤ length scope → at (place_of_found (slice_get scope p)) ≡ p)
    (apart : KeysStandApart q) where
  abbrev bound : Query
  bound = written_out scope (positions_of scope q) q

  abbrev plain_setting : Setting
  plain_setting = plain_of scope q texts

  abbrev placed_setting : Setting
  placed_setting = placed_of scope q texts at

  behind_outputs : list_all (is_apart q) (conditions q ++ (q.group ++ (option_to_list q.having ++ flat_map children q.nodes))) ≡ true
  behind_outputs = back_all (is_apart q) (map (λ (o : Output). o.node) q.outputs) (conditions q ++ (q.group ++ (option_to_list q.having ++ flat_map children q.nodes))) apart.others

  behind_conditions : list_all (is_apart q) (q.group ++ (option_to_list q.having ++ flat_map children q.nodes)) ≡ true
  behind_conditions = back_all (is_apart q) (conditions q) (q.group ++ (option_to_list q.having ++ flat_map children q.nodes)) behind_outputs

  behind_groups : list_all (is_apart q) (option_to_list q.having ++ flat_map children q.nodes) ≡ true
  behind_groups = back_all (is_apart q) q.group (option_to_list q.having ++ flat_map children q.nodes) behind_conditions

  each : list_all (is_apart q) (flat_map children q.nodes) ≡ true
  each = back_all (is_apart q) (option_to_list q.having) (flat_map children q.nodes) behind_groups

  -- what the values of nodes are, over a row or a group
  module _ (leaf leaf' : Node → ℕ → Value) (same : (n : Node) (p : ℕ) → list_all (is_apart q) (children n) ≡ true → leaf' n p ≡ leaf n p) where
    abbrev values : List NodeValue
    values = values_of (leaves_of leaf q.nodes (positions_of scope q)) texts q.nodes

    abbrev values' : List NodeValue
    values' = values_of (leaves_of leaf' bound.nodes (map at (places_written scope (positions_of scope q) q))) texts bound.nodes

    value_same : (n : ℕ) → is_apart q n ≡ true → value_of values' n ≡ value_of values n
    value_same n h = ap as_value (values_agree scope q at at_is leaf leaf' same texts each n (apart_there q n h) (apart_lives scope q n h))

    truth_same : (n : ℕ) → is_apart q n ≡ true → truth_of values' n ≡ truth_of values n
    truth_same n h = ap as_truth (values_agree scope q at at_is leaf leaf' same texts each n (apart_there q n h) (apart_lives scope q n h))

    module _ (row : List Value) (col : (c : FromColumn) (p : ℕ) → leaf' (column_node c) p ≡ value_at row p) (wide : q.star ≡ true → length row ≡ length scope) where
      out_by : (b : Bool) → q.star ≡ b → map (λ (o : Output). value_of values' o.node) (if b then star_outputs (length q.nodes) scope else q.outputs)
          ≡ (if b then row else map (λ (o : Output). value_of values o.node) q.outputs)
      out_by true star = star_row values' scope (length q.nodes) row (wide star) (λ i below. star_value scope q at at_is leaf leaf' same texts each row star col i below)
      out_by false star =
          alike_outputs (is_apart q) (value_of values') (value_of values) q.outputs
          (front_all (is_apart q) (map (λ (o : Output). o.node) q.outputs) (conditions q ++ (q.group ++ (option_to_list q.having ++ flat_map children q.nodes))) apart.others) value_same

      out_same : output_row placed_setting values' row ≡ output_row plain_setting values row
      out_same = out_by q.star refl

      key_by : (out : List Value) (n : ℕ) → n < length q.nodes → (b : Bool) → is_output_target (target_of scope (positions_of scope q) q (ByColumn n)) ≡ b
          → target_value values' out (target_of scope (positions_of scope q) q (ByColumn n)) ≡ target_value values out (target_of scope (positions_of scope q) q (ByColumn n))
      key_by out n below true h = output_alike values values' out (target_of scope (positions_of scope q) q (ByColumn n)) h
      key_by out n below false h =
          let own : target_of scope (positions_of scope q) q (ByColumn n) ≡ ToNode n = own_node scope (positions_of scope q) q n (slice_get q.nodes n) h in
          ap (target_value values' out) own
          ∙ ap as_value (values_agree scope q at at_is leaf leaf' same texts each n below
          (and_right (is_order_key q n) (is_output_target (target_of scope (positions_of scope q) q (ByColumn n))) h))
          ∙ ap (target_value values out) (sym own)

      key_same : (out : List Value) (k : OrderBy) → is_within (length q.nodes) k ≡ true
          → target_value values' out (target_of scope (positions_of scope q) q k) ≡ target_value values out (target_of scope (positions_of scope q) q k)
      key_same out (Position k) h = refl
      key_same out (ByColumn n) h = key_by out n (grind (arith, nat_tests)) (is_output_target (target_of scope (positions_of scope q) q (ByColumn n))) refl

      abbrev pair : OrderKey → Bool × Target
      pair k = (k.descending, target_of scope (positions_of scope q) q k.by)

      keys_same : (out : List Value) (ks : List OrderKey) → list_all (λ (k : OrderKey). is_within (length q.nodes) k.by) ks ≡ true
          → map (sort_key values' out) (map pair ks) ≡ map (sort_key values out) (map pair ks)
      keys_same out [] h = refl
      keys_same out (k ∷ ks) h =
          let here = first_so (is_within (length q.nodes) k.by) (list_all (λ (k : OrderKey). is_within (length q.nodes) k.by) ks) h in
          let others = second_so (is_within (length q.nodes) k.by) (list_all (λ (k : OrderKey). is_within (length q.nodes) k.by) ks) h in
          ap (λ v. record { descending = k.descending; value = v } ∷ map (sort_key values' out) (map pair ks)) (key_same out k.by here)
          ∙ ap (λ l. sort_key values out (pair k) ∷ l) (keys_same out ks others)

      pub pair_same : pair_of placed_setting values' row ≡ pair_of plain_setting values row
      unfolding pair_of
      pair_same =
          let out = output_row plain_setting values row in
          ap (λ o. record { row = o; keys = map (sort_key values' o) (map key_target bound.order) }) out_same
          ∙ ap (λ l. record { row = out; keys = map (sort_key values' out) l }) (keys_back scope (positions_of scope q) q q.order)
          ∙ ap (λ l. record { row = out; keys = l }) (keys_same out q.order apart.keys)

  -- over a row
  same_leaf : (row : List Value) (n : Node) (p : ℕ) → list_all (is_apart q) (children n) ≡ true → row_leaf row n p ≡ row_leaf row n p
  same_leaf row n p h = refl

  row_value_same : (row : List Value) (n : ℕ) → is_apart q n ≡ true → value_of (row_values placed_setting row) n ≡ value_of (row_values plain_setting row) n
  unfolding row_values
  row_value_same row n h = value_same (row_leaf row) (row_leaf row) (same_leaf row) n h

  row_truth_same : (row : List Value) (n : ℕ) → is_apart q n ≡ true → truth_of (row_values placed_setting row) n ≡ truth_of (row_values plain_setting row) n
  unfolding row_values
  row_truth_same row n h = truth_same (row_leaf row) (row_leaf row) (same_leaf row) n h

  keeps_row_same : (row : List Value) → keeps_row placed_setting row ≡ keeps_row plain_setting row
  unfolding keeps_row
  keeps_row_same row =
      alike_all (is_apart q) (λ n. is_true (truth_of (row_values placed_setting row) n)) (λ n. is_true (truth_of (row_values plain_setting row) n)) (conditions q)
      (front_all (is_apart q) (conditions q) (q.group ++ (option_to_list q.having ++ flat_map children q.nodes)) behind_outputs)
      (λ n h. ap is_true (row_truth_same row n h))

  pub keeps_alike : keeps_row placed_setting ≡ keeps_row plain_setting
  keeps_alike = fun_ext keeps_row_same

  row_pair_same : (row : List Value) → (q.star ≡ true → length row ≡ length scope) → row_pair placed_setting row ≡ row_pair plain_setting row
  unfolding row_pair row_values
  row_pair_same row wide = pair_same (row_leaf row) (row_leaf row) (same_leaf row) row (λ c p. refl) wide

  -- over a group
  group_key_same : (row : List Value) → group_key placed_setting row ≡ group_key plain_setting row
  unfolding group_key
  group_key_same row =
      alike_map (is_apart q) (value_of (row_values placed_setting row)) (value_of (row_values plain_setting row)) q.group
      (front_all (is_apart q) q.group (option_to_list q.having ++ flat_map children q.nodes) behind_conditions) (row_value_same row)

  groups_alike : (rows : List (List Value)) → groups_of placed_setting rows ≡ groups_of plain_setting rows
  groups_alike rows = ap (λ k. if nat_lt 0 (length q.group) then groups_by k rows else rows ∷ []) (fun_ext group_key_same)

  operand_values : (a : ℕ) (rows : List (List Value)) → is_apart q a ≡ true → map (λ row. value_of (row_values placed_setting row) a) rows ≡ map (λ row. value_of (row_values plain_setting row) a) rows
  operand_values a rows h = ap (λ f. map f rows) (fun_ext (λ row. row_value_same row a h))

  operands_same : (a : Option ℕ) (rows : List (List Value)) → list_all (is_apart q) (option_to_list a) ≡ true → operands placed_setting a rows ≡ operands plain_setting a rows
  operands_same None rows h = refl
  operands_same (Some a) rows h = operand_values a rows (first_so (is_apart q a) true h)

  group_leaf_same : (rows : List (List Value)) (n : Node) (p : ℕ) → list_all (is_apart q) (children n) ≡ true → group_leaf placed_setting rows n p ≡ group_leaf plain_setting rows n p
  group_leaf_same rows (node.Aggregate f a) p h = ap (aggregate f) (operands_same a rows h)
  group_leaf_same rows (node.Col c) p h = refl
  group_leaf_same rows (node.Lit l) p h = refl
  group_leaf_same rows (node.Neg a) p h = refl
  group_leaf_same rows (node.Arith o a b) p h = refl
  group_leaf_same rows (node.Compare c a b) p h = refl
  group_leaf_same rows (node.Both a b) p h = refl
  group_leaf_same rows (node.Either a b) p h = refl
  group_leaf_same rows (node.Not a) p h = refl
  group_leaf_same rows (node.IsNull a) p h = refl
  group_leaf_same rows (node.NotNull a) p h = refl

  group_truth_same : (rows : List (List Value)) (n : ℕ) → is_apart q n ≡ true → truth_of (group_values placed_setting rows) n ≡ truth_of (group_values plain_setting rows) n
  unfolding group_values
  group_truth_same rows n h = truth_same (group_leaf plain_setting rows) (group_leaf placed_setting rows) (group_leaf_same rows) n h

  keeps_group_same : (rows : List (List Value)) → keeps_group placed_setting rows ≡ keeps_group plain_setting rows
  unfolding keeps_group
  keeps_group_same rows =
      alike_all (is_apart q) (λ n. is_true (truth_of (group_values placed_setting rows) n)) (λ n. is_true (truth_of (group_values plain_setting rows) n)) (option_to_list q.having)
      (front_all (is_apart q) (option_to_list q.having) (flat_map children q.nodes) behind_groups)
      (λ n h. ap is_true (group_truth_same rows n h))

  group_pair_same : (rows : List (List Value)) → (q.star ≡ true → length (first_row rows) ≡ length scope) → group_pair placed_setting rows ≡ group_pair plain_setting rows
  unfolding group_pair group_values
  group_pair_same rows wide =
      pair_same (group_leaf plain_setting rows) (group_leaf placed_setting rows) (group_leaf_same rows) (first_row rows) (λ c p. refl) wide

  map_rows : (rows : List (List Value)) → AllByRecursion (Fits scope q) rows → map (row_pair placed_setting) rows ≡ map (row_pair plain_setting) rows
  map_rows [] a = refl
  map_rows (row ∷ rows) a = ap (λ x. x ∷ map (row_pair placed_setting) rows) (row_pair_same row a.0) ∙ ap (λ l. row_pair plain_setting row ∷ l) (map_rows rows a.1)

  map_groups : (gs : List (List (List Value))) → AllByRecursion (λ g. Fits scope q (first_row g)) gs → map (group_pair placed_setting) gs ≡ map (group_pair plain_setting) gs
  map_groups [] a = refl
  map_groups (g ∷ gs) a = ap (λ x. x ∷ map (group_pair placed_setting) gs) (group_pair_same g a.0) ∙ ap (λ l. group_pair plain_setting g ∷ l) (map_groups gs a.1)

  pub pairs_alike : (rows : List (List Value)) → AllByRecursion (Fits scope q) rows
      → (is_grouped q ≡ true → AllByRecursion (λ g. Fits scope q (first_row g)) (filter (keeps_group plain_setting) (groups_of plain_setting rows)))
      → pairs_of placed_setting rows ≡ pairs_of plain_setting rows
  unfolding pairs_of
  pairs_alike rows all groups =
      ap (λ b. if b then map (group_pair placed_setting) (filter (keeps_group placed_setting) (groups_of placed_setting rows)) else map (row_pair placed_setting) rows)
      (bound_groups scope (positions_of scope q) q)
      ∙ by (is_grouped q) refl
    where
      by : (b : Bool) → is_grouped q ≡ b → (if b then map (group_pair placed_setting) (filter (keeps_group placed_setting) (groups_of placed_setting rows)) else map (row_pair placed_setting) rows)
          ≡ (if b then map (group_pair plain_setting) (filter (keeps_group plain_setting) (groups_of plain_setting rows)) else map (row_pair plain_setting) rows)
      by true e =
          ap (λ gs. map (group_pair placed_setting) (filter (keeps_group placed_setting) gs)) (groups_alike rows)
          ∙ ap (λ k. map (group_pair placed_setting) (filter k (groups_of plain_setting rows))) (fun_ext keeps_group_same)
          ∙ map_groups (filter (keeps_group plain_setting) (groups_of plain_setting rows)) (groups e)
      by false e = map_rows rows all
