-- A SELECT that was bound may be planned: its columns have places, and its conditions stand among its nodes.
use Rattle.std.proofs.Common.{◌≡◌, ℕ, zero, suc, ◌≤◌, ◌&&◌, Bool, true, false, List, [], ◌∷◌, ◌++◌, length, length-append, map, refl, sym, ap, subst, ◌∙◌, arith}
use Rattle.std.specs.Prelude.{Option, Some, None, nat_le, nat_lt, not, slice_get, slice_index, if◌then◌else◌}
use Rattle.std.specs.Cmp.{first_so, second_so}
use Rattle.std.specs.List.{flat_map, list_all}
use Rattle.std.specs.Option.{option_to_list}
use Rattle.std.proofs.lemmas.Bool.Decides.{nat_tests}
use Rattle.std.proofs.lemmas.List.{length-map}
use Rattle.std.proofs.lemmas.List.Folds.{list_all-append}
use Rattle.hg_bind.specs.Bound.{table_of, tables_of}
use Rattle.hg_bind.specs.BoundMeaning.{KeysStandApart, children, is_apart}
use Rattle.hg_model.specs.Binding.{is_order_key}
use Rattle.hg_bind.specs.BoundSelect.{column_node, settled, settled_node, star_nodes, widths_of, written_out}
use Rattle.hg_bind.specs.Laws.{ColumnsHavePlaces, HasColumn, HaveColumns}
use Rattle.hg_bind.specs.Selecting.{named_from}
use Rattle.hg_catalog.specs.Contents.{CatalogTable, are_different_names, is_new_table}
use Rattle.hg_expr.specs.Slots.{ArePlaced, HasPlace, OfTable}
use Rattle.hg_model.specs.Query.{Query}
use Rattle.hg_model.specs.Scope.{columns_of, positions_of, scope_of}
use Rattle.hg_model.specs.SelectMeaning.{conditions}
use Rattle.hg_model.specs.Tables.{Table, same_name, table_named}
use Rattle.hg_model.specs.Width.{has_children_before, is_tree_from}
use Rattle.hg_model.specs.declared.tables.FromColumn.{FromColumn}
use Rattle.hg_model.specs.declared.trees.Column.{Column}
use Rattle.hg_model.specs.declared.trees.FromTable.{FromTable}
use Rattle.hg_model.specs.declared.trees.Node.{Node}
use Rattle.hg_model.specs.declared.trees.Node.TheVariants as node
use Rattle.hg_model.specs.declared.trees.Output.{Output}
use Rattle.hg_plan.specs.PlanLaws.{BoundMayBePlanned, MayBePlanned}
use Rattle.hg_plan.proofs.Lists.{all_below}

-- ---- each column has a place of one of four tables of at most 16 columns

is_short : (t : CatalogTable) → is_new_table t ≡ true → length t.columns ≤ 16
is_short t h =
    let short = first_so (nat_le (length t.columns) 16) (are_different_names (map (λ (c : Column). c.name) t.columns))
    (second_so (nat_lt 0 (length t.columns)) (nat_le (length t.columns) 16 && are_different_names (map (λ (c : Column). c.name) t.columns)) h) in
    grind (arith, nat_tests)

table_short : (ts : List CatalogTable) (name : List ℕ) → list_all is_new_table ts ≡ true → length (columns_of (table_named (map table_of ts) name)) ≤ 16
table_short [] name h = omega arith
table_short (t ∷ ts) name h =
    by (same_name t.name name) (is_short t (first_so (is_new_table t) (list_all is_new_table ts) h)) (table_short ts name (second_so (is_new_table t) (list_all is_new_table ts) h))
  where
    by : (b : Bool) → length t.columns ≤ 16 → length (columns_of (table_named (map table_of ts) name)) ≤ 16
        → length (columns_of (if b then Some (table_of t) else table_named (map table_of ts) name)) ≤ 16
    by true here later = here
    by false here later = later

widths_short : (ts : List CatalogTable) (froms : List FromTable) (k : ℕ) → list_all is_new_table ts ≡ true → slice_index (widths_of (map table_of ts) froms) k ≤ 16
widths_short ts [] k h = omega arith
widths_short ts (f ∷ fs) zero h = table_short ts f.table h
widths_short ts (f ∷ fs) (suc k) h = widths_short ts fs k h

node_placed : (widths : List ℕ) (n : Node) (p : ℕ × ℕ) → length widths ≤ 4 → ((k : ℕ) → slice_index widths k ≤ 16) → HasColumn widths n p → HasPlace n p
node_placed widths (node.Col c) p few short h = let most = short p.0 in OfTable (omega (arith, h.0, few)) (omega (arith, h.1, most))
node_placed widths (node.Lit l) p few short h = tt
node_placed widths (node.Neg a) p few short h = tt
node_placed widths (node.Arith o a b) p few short h = tt
node_placed widths (node.Compare c a b) p few short h = tt
node_placed widths (node.Both a b) p few short h = tt
node_placed widths (node.Either a b) p few short h = tt
node_placed widths (node.Not a) p few short h = tt
node_placed widths (node.IsNull a) p few short h = tt
node_placed widths (node.NotNull a) p few short h = tt
node_placed widths (node.Aggregate f a) p few short h = tt

all_placed : (widths : List ℕ) (ns : List Node) (ps : List (ℕ × ℕ)) → length widths ≤ 4 → ((k : ℕ) → slice_index widths k ≤ 16) → HaveColumns widths ns ps → ArePlaced ns ps
all_placed widths [] [] few short h = tt
all_placed widths [] (p ∷ ps) few short h = h
all_placed widths (n ∷ ns) [] few short h = h
all_placed widths (n ∷ ns) (p ∷ ps) few short h = (node_placed widths n p few short h.0, all_placed widths ns ps few short h.1)

-- ---- a name that is replaced has no children, nor has a column of a star

both_so : (s t : Bool) → s ≡ true → t ≡ true → (s && t) ≡ true
both_so true t h k = k
both_so false t h k = h

before_still : (k : ℕ) (n : Node) (o : Option ℕ) → has_children_before k (settled_node n o) ≡ has_children_before k n
before_still k (node.Col c) None = refl
before_still k (node.Col c) (Some p) = refl
before_still k (node.Lit l) o = refl
before_still k (node.Neg a) o = refl
before_still k (node.Arith x a b) o = refl
before_still k (node.Compare x a b) o = refl
before_still k (node.Both a b) o = refl
before_still k (node.Either a b) o = refl
before_still k (node.Not a) o = refl
before_still k (node.IsNull a) o = refl
before_still k (node.NotNull a) o = refl
before_still k (node.Aggregate f a) o = refl

columns_tree : (k : ℕ) (cs : List FromColumn) → is_tree_from k (map column_node cs) ≡ true
columns_tree k [] = refl
columns_tree k (c ∷ cs) = columns_tree (suc k) cs

star_tree : (k : ℕ) (b : Bool) (cs : List FromColumn) → is_tree_from k (star_nodes b cs) ≡ true
star_tree k true cs = columns_tree k cs
star_tree k false cs = refl

tree_with : (k : ℕ) (ns more : List Node) → is_tree_from k ns ≡ true → ((j : ℕ) → is_tree_from j more ≡ true) → is_tree_from k (ns ++ more) ≡ true
tree_with k [] more h later = later k
tree_with k (n ∷ ns) more h later =
    both_so (has_children_before k n) (is_tree_from (suc k) (ns ++ more)) (first_so (has_children_before k n) (is_tree_from (suc k) ns) h)
    (tree_with (suc k) ns more (second_so (has_children_before k n) (is_tree_from (suc k) ns) h) later)

settled_tree : (k : ℕ) (ns : List Node) (os : List (Option ℕ)) → is_tree_from k ns ≡ true → is_tree_from k (settled ns os) ≡ true
settled_tree k [] os h = refl
settled_tree k (n ∷ ns) [] h = h
settled_tree k (n ∷ ns) (o ∷ os) h =
    both_so (has_children_before k (settled_node n o)) (is_tree_from (suc k) (settled ns os))
    (before_still k n o ∙ first_so (has_children_before k n) (is_tree_from (suc k) ns) h)
    (settled_tree (suc k) ns os (second_so (has_children_before k n) (is_tree_from (suc k) ns) h))

-- ---- conditions are nodes of the line, and these stand first

settled_length : (ns : List Node) (os : List (Option ℕ)) → length (settled ns os) ≡ length ns
settled_length [] os = refl
settled_length (n ∷ ns) [] = refl
settled_length (n ∷ ns) (o ∷ os) = ap suc (settled_length ns os)

all_first : (f g : ℕ → Bool) (ns : List ℕ) → list_all (λ n. f n && g n) ns ≡ true → list_all f ns ≡ true
all_first f g [] h = refl
all_first f g (n ∷ ns) h =
    both_so (f n) (list_all f ns) (first_so (f n) (g n) (first_so (f n && g n) (list_all (λ m. f m && g m) ns) h))
    (all_first f g ns (second_so (f n && g n) (list_all (λ m. f m && g m) ns) h))

conditions_inside : (q : Query) → KeysStandApart q → list_all (λ n. nat_lt n (length q.nodes)) (conditions q) ≡ true
conditions_inside q apart =
    let outputs = map (λ (o : Output). o.node) q.outputs in
    let others = q.group ++ (option_to_list q.having ++ flat_map children q.nodes) in
    let all = sym (list_all-append (is_apart q) outputs (conditions q ++ others)) ∙ apart.others in
    let later = second_so (list_all (is_apart q) outputs) (list_all (is_apart q) (conditions q ++ others)) all in
    let split = sym (list_all-append (is_apart q) (conditions q) others) ∙ later in
    all_first (λ n. nat_lt n (length q.nodes)) (λ n. not (is_order_key q n)) (conditions q) (first_so (list_all (is_apart q) (conditions q)) (list_all (is_apart q) others) split)

pub bound_may_be_planned : ColumnsHavePlaces → BoundMayBePlanned
bound_may_be_planned columns c q bound numbers places sound b apart tree few =
    let tables = tables_of c in
    let scope = scope_of tables q in
    let positions = positions_of scope q in
    let named = named_from scope positions q 0 q.nodes in
    let written = written_out scope positions q in
    let width : FromTable → ℕ = λ (f : FromTable). length (columns_of (table_named tables f.table)) in
    let few_widths : length (widths_of tables q.tables) ≤ 4 = omega (arith, length-map q.tables width, few) in
    let placed : ArePlaced bound.nodes places =
    all_placed (widths_of tables q.tables) bound.nodes places few_widths (λ k. widths_short c.tables q.tables k sound.tables_fit) (columns tables q bound numbers places b apart) in
    let long : length q.nodes ≤ length written.nodes =
    omega (arith, length-append (settled q.nodes named) (star_nodes q.star scope), settled_length q.nodes named) in
    let P : Query → Type 0 = λ x. ArePlaced x.nodes places → MayBePlanned x numbers places in
    subst P (sym b.bound_is)
    (λ p. record {
      each = sym (length-map numbers (slice_get tables)) ∙ ap (λ (l : List (Option Table)). length l) b.tables_are ∙ length-map q.tables (λ (f : FromTable). table_named tables f.table);
      placed = p;
      tree = tree_with 0 (settled q.nodes named) (star_nodes q.star scope) (settled_tree 0 q.nodes named tree) (λ j. star_tree j q.star scope);
      inside = all_below (conditions q) (length q.nodes) (length written.nodes) long (conditions_inside q apart);
    }) placed
