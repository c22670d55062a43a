-- The output row has room: the declared length of an output bounds that of its value.
use Rattle.std.proofs.Common.{◌≡◌, ◌<◌, ◌≤◌, ℕ, zero, suc, ◌+◌, Bool, true, false, List, [], ◌∷◌, ◌++◌, Option, Some, None, map, refl, sym, ap, subst, ◌∙◌, length, get_or, not, ◌&&◌, ◌||◌, if◌then◌else◌, arith}
use Rattle.std.specs.Prelude.{nat_lt, slice_get, slice_index}
use Rattle.std.specs.Cmp.{first_so, second_so}
use Rattle.std.specs.List.{AllByRecursion, list_all, list_any, sum_by}
use Rattle.std.proofs.lemmas.Bool.Decides.{nat_tests}
use Rattle.std.proofs.lemmas.List.{length-map}
use Rattle.std.proofs.lemmas.List.Sums.{sum_by-cons}
use Rattle.std.proofs.lemmas.Option.{slice_get-get_or, slice_get_within}
use Rattle.hg_bind.specs.BoundMeaning.{is_apart}
use Rattle.hg_bind.specs.BoundSelect.{column_node, place_if_named, place_of_column, place_of_found, places_written, position_at, settled, settled_node, star_nodes, star_outputs, star_places, sum_before, widths_of, written_out}
use Rattle.hg_bind.specs.Laws.{HasColumn, HaveColumns}
use Rattle.hg_bind.specs.Selecting.{named_from, named_place, named_unless}
use Rattle.hg_expr.specs.Laws.{TablesSoFarTell, held}
use Rattle.hg_expr.specs.Over.{leaves_at, values_over}
use Rattle.hg_expr.specs.Slots.{slots_of}
use Rattle.hg_model.specs.Binding.{column_lengths, is_key_of, is_order_key, is_output_target, leaf_kinds, select_kinds, type_at}
use Rattle.hg_model.specs.Changes.{row_length, value_length}
use Rattle.hg_model.specs.Evaluation.{as_value, node_value, value_at, value_of}
use Rattle.hg_model.specs.Query.{Query}
use Rattle.hg_model.specs.Scope.{columns_of, positions_from, positions_of, scope_of, target_of}
use Rattle.hg_model.specs.SelectMeaning.{is_aggregate}
use Rattle.hg_model.specs.Tables.{Table, table_named}
use Rattle.hg_model.specs.Types.{Kind, Nothing, is_value, kind_at, kind_of, length_of, lengths_from, type_length}
use Rattle.hg_model.specs.declared.tables.FromColumn.{FromColumn}
use Rattle.hg_model.specs.declared.trees.ColRef.{ColRef}
use Rattle.hg_model.specs.declared.trees.Column.{Column}
use Rattle.hg_model.specs.declared.trees.FromTable.{FromTable}
use Rattle.hg_model.specs.declared.trees.Literal.TheVariants as literal
use Rattle.hg_model.specs.declared.trees.Node.{Node}
use Rattle.hg_model.specs.declared.trees.Node.TheVariants as node
use Rattle.hg_model.specs.declared.trees.OrderBy.TheVariants.{Column as ByColumn}
use Rattle.hg_model.specs.declared.trees.OrderKey.{OrderKey}
use Rattle.hg_model.specs.declared.trees.Output.{Output}
use Rattle.hg_model.specs.declared.values.NodeValue.{NodeValue}
use Rattle.hg_model.specs.declared.values.NodeValue.TheVariants.{Plain}
use Rattle.hg_model.specs.declared.values.Value.{Value}
use Rattle.hg_model.specs.declared.values.Value.TheVariants.{Null}
use Rattle.hg_exec.proofs.ReadyLeaves.{at_place, below_table, got_mapped, have_at, leaf_is, over_value, position_is}
use Rattle.hg_exec.proofs.ReadyRoom.{behind_at, front_at}
use Rattle.hg_exec.proofs.ReadyTables.{FitFroms}
use Rattle.hg_exec.proofs.ReadyValues.{IsShortLeaf, built_at, kinds_built, lengths_built, value_short, values_built}

-- ---- sums over outputs

abbrev outputs_over : List NodeValue → List Output → List Value
outputs_over vs os = map (λ (o : Output). value_of vs o.node) os

outputs_short : (vs : List NodeValue) (lengths : List ℕ) (os : List Output) → AllByRecursion (λ (o : Output). value_length (value_of vs o.node) ≤ slice_index lengths o.node) os
    → row_length (outputs_over vs os) ≤ sum_by (λ (o : Output). slice_index lengths o.node) os
outputs_short vs lengths [] h = omega arith
outputs_short vs lengths (o ∷ os) h =
    let more = outputs_short vs lengths os h.1 in
    let here = h.0 in
    let first = sum_by-cons value_length (value_of vs o.node) (outputs_over vs os) in
    let second = sum_by-cons (λ (o : Output). slice_index lengths o.node) o os in
    omega (arith, more, here, first, second)

star_short : (vs : List NodeValue) (n : ℕ) (cs : List FromColumn)
    → ((i : ℕ) (x : FromColumn) → slice_get cs i ≡ Some x → value_length (value_of vs (n + i)) ≤ type_length x.column.ty)
    → row_length (outputs_over vs (star_outputs n cs)) ≤ column_lengths cs
star_short vs n [] h = omega arith
star_short vs n (c ∷ cs) h =
    let z : n + 0 ≡ n = omega arith in
    let here : value_length (value_of vs n) ≤ type_length c.column.ty = subst (λ k. value_length (value_of vs k) ≤ type_length c.column.ty) z (h 0 c refl) in
    let more =
    star_short vs (suc n) cs (λ i x at. let s : n + suc i ≡ suc n + i = omega arith in subst (λ k. value_length (value_of vs k) ≤ type_length x.column.ty) s (h (suc i) x at)) in
    let first = sum_by-cons value_length (value_of vs n) (outputs_over vs (star_outputs (suc n) cs)) in
    let second = sum_by-cons (λ (x : FromColumn). type_length x.column.ty) c cs in
    omega (arith, more, here, first, second)

pub star_count : (n : ℕ) (cs : List FromColumn) → length (star_outputs n cs) ≡ length cs
star_count n [] = refl
star_count n (c ∷ cs) = ap suc (star_count (suc n) cs)

-- ---- lists

mapped_at : (f : ℕ → ℕ) (xs : List ℕ) (i : ℕ) → i < length xs → slice_index (map f xs) i ≡ f (slice_index xs i)
mapped_at f [] i h = absurd (omega (arith, h))
mapped_at f (x ∷ xs) zero h = refl
mapped_at f (x ∷ xs) (suc i) h = mapped_at f xs i (omega (arith, h))

type_there : (scope : List FromColumn) (k : ℕ) (x : FromColumn) → slice_get scope k ≡ Some x → type_at (λ (c : Column). type_length c.ty) 0 scope k ≡ type_length x.column.ty
type_there [] k x h = absurd cc
type_there (y ∷ scope) zero x h = let same : y ≡ x = cc in ap (λ (z : FromColumn). type_length z.column.ty) same
type_there (y ∷ scope) (suc k) x h = type_there scope k x h

plain_at : (ns : List Node) (i : ℕ) (n : Node) → list_any is_aggregate ns ≡ false → slice_get ns i ≡ Some n → is_aggregate n ≡ false
plain_at [] i n h at = absurd cc
plain_at (m ∷ ns) i n h at = by (is_aggregate m) refl h i at (λ j. plain_at ns j n)
  where
    by : (b : Bool) → is_aggregate m ≡ b → (b || list_any is_aggregate ns) ≡ false → (i : ℕ) → slice_get (m ∷ ns) i ≡ Some n
        → ((j : ℕ) → list_any is_aggregate ns ≡ false → slice_get ns j ≡ Some n → is_aggregate n ≡ false) → is_aggregate n ≡ false
    by true e h i at more = absurd cc
    by false e h zero at more = let same : m ≡ n = cc in ap is_aggregate (sym same) ∙ e
    by false e h (suc i) at more = more i h at

-- ---- nodes of the bound form

module _ (scope : List FromColumn) (positions : List ℕ) (q : Query) (unordered : q.order ≡ []) where
  no_key : (k : ℕ) → is_order_key q k ≡ false
  no_key k = ap (λ ks. list_any (λ (o : OrderKey). is_key_of k o.by) ks) unordered

  node_stays : (k : ℕ) (n : Node) → settled_node n (named_place scope positions q k n) ≡ n
  node_stays k (node.Col c) =
      ap (λ b. settled_node (node.Col c) (named_unless (b && is_output_target (target_of scope positions q (ByColumn k))) (slice_index positions k))) (no_key k)
  node_stays k (node.Lit l) = refl
  node_stays k (node.Neg a) = refl
  node_stays k (node.Arith o a b) = refl
  node_stays k (node.Compare o a b) = refl
  node_stays k (node.Both a b) = refl
  node_stays k (node.Either a b) = refl
  node_stays k (node.Not a) = refl
  node_stays k (node.IsNull a) = refl
  node_stays k (node.NotNull a) = refl
  node_stays k (node.Aggregate f a) = refl

  place_stays : (k : ℕ) (c : ColRef) → place_if_named scope (named_place scope positions q k (node.Col c)) ≡ place_of_found (slice_get scope (slice_index positions k))
  place_stays k c = ap (λ b. place_if_named scope (named_unless (b && is_output_target (target_of scope positions q (ByColumn k))) (slice_index positions k))) (no_key k)

  nodes_stay : (k : ℕ) (ns : List Node) → settled ns (named_from scope positions q k ns) ≡ ns
  nodes_stay k [] = refl
  nodes_stay k (n ∷ ns) = ap (λ m. m ∷ settled ns (named_from scope positions q (suc k) ns)) (node_stays k n) ∙ ap (λ l. n ∷ l) (nodes_stay (suc k) ns)

  named_count : (k : ℕ) (ns : List Node) → length (map (place_if_named scope) (named_from scope positions q k ns)) ≡ length ns
  named_count k [] = refl
  named_count k (n ∷ ns) = ap suc (named_count (suc k) ns)

  places_stay : (k : ℕ) (ns : List Node) (i : ℕ) (c : ColRef) → slice_get ns i ≡ Some (node.Col c)
      → slice_get (map (place_if_named scope) (named_from scope positions q k ns)) i ≡ Some (place_of_found (slice_get scope (slice_index positions (k + i))))
  places_stay k [] i c h = absurd cc
  places_stay k (n ∷ ns) zero c h =
      let same : n ≡ node.Col c = cc in
      let z : k ≡ k + 0 = omega arith in
      ap (λ m. Some (place_if_named scope (named_place scope positions q k m))) same ∙ ap Some (place_stays k c)
      ∙ ap (λ j. Some (place_of_found (slice_get scope (slice_index positions j)))) z
  places_stay k (n ∷ ns) (suc i) c h =
      let s : suc k + i ≡ k + suc i = omega arith in
      places_stay (suc k) ns i c h ∙ ap (λ j. Some (place_of_found (slice_get scope (slice_index positions j)))) s

  node_at : (i : ℕ) (n : Node) → slice_get q.nodes i ≡ Some n → slice_get (written_out scope positions q).nodes i ≡ Some n
  node_at i n h =
      ap (λ l. slice_get (l ++ star_nodes q.star scope) i) (nodes_stay 0 q.nodes)
      ∙ front_at q.nodes (star_nodes q.star scope) i (slice_get_within q.nodes i n h) ∙ h

  place_at : (i : ℕ) (c : ColRef) → slice_get q.nodes i ≡ Some (node.Col c)
      → slice_get (places_written scope positions q) i ≡ Some (place_of_found (slice_get scope (slice_index positions i)))
  place_at i c h =
      let count = named_count 0 q.nodes in
      let inside = slice_get_within q.nodes i (node.Col c) h in
      let z : 0 + i ≡ i = omega arith in
      front_at (map (place_if_named scope) (named_from scope positions q 0 q.nodes)) (star_places q.star scope) i (omega (arith, count, inside))
      ∙ places_stay 0 q.nodes i c h ∙ ap (λ j. Some (place_of_found (slice_get scope (slice_index positions j)))) z

  star_node_at : (i : ℕ) (x : FromColumn) → q.star ≡ true → slice_get scope i ≡ Some x → slice_get (written_out scope positions q).nodes (length q.nodes + i) ≡ Some (column_node x)
  star_node_at i x star at =
      ap (λ l. slice_get (l ++ star_nodes q.star scope) (length q.nodes + i)) (nodes_stay 0 q.nodes)
      ∙ behind_at q.nodes (star_nodes q.star scope) i
      ∙ ap (λ b. slice_get (star_nodes b scope) i) star ∙ got_mapped column_node scope i x at

  star_place_at : (i : ℕ) (x : FromColumn) → q.star ≡ true → slice_get scope i ≡ Some x → slice_get (places_written scope positions q) (length q.nodes + i) ≡ Some (x.table, x.place)
  star_place_at i x star at =
      let front : List (ℕ × ℕ) = map (place_if_named scope) (named_from scope positions q 0 q.nodes) in
      ap (λ n. slice_get (front ++ star_places q.star scope) (n + i)) (sym (named_count 0 q.nodes))
      ∙ behind_at front (star_places q.star scope) i
      ∙ ap (λ b. slice_get (star_places b scope) i) star ∙ got_mapped place_of_column scope i x at

positions_count : (scope : List FromColumn) (q : Query) (k : ℕ) (ns : List Node) → length (positions_from scope q k ns) ≡ length ns
positions_count scope q k [] = refl
positions_count scope q k (n ∷ ns) = ap suc (positions_count scope q (suc k) ns)

-- ---- values of nodes

module _ (tables : List Table) (q : Query) (rows : List (List Value)) (fit : FitFroms tables q.tables rows) (all : length rows ≡ length q.tables) (few : length q.tables ≤ 4)
    (narrow : (t : ℕ) → slice_index (widths_of tables q.tables) t ≤ 16) (tell : TablesSoFarTell) (texts : List ℕ) (unordered : q.order ≡ [])
    (at_is : (p : ℕ) → p ≤ length (scope_of tables q) → position_at (widths_of tables q.tables) (place_of_found (slice_get (scope_of tables q) p)) ≡ p)
    (have : HaveColumns (widths_of tables q.tables) (written_out (scope_of tables q) (positions_of (scope_of tables q) q) q).nodes (places_written (scope_of tables q) (positions_of (scope_of tables q) q) q)) where
  abbrev scope : List FromColumn
  scope = scope_of tables q

  abbrev positions : List ℕ
  positions = positions_of scope q

  abbrev widths : List ℕ
  widths = widths_of tables q.tables

  abbrev ns : List Node
  ns = (written_out scope positions q).nodes

  abbrev ps : List (ℕ × ℕ)
  ps = places_written scope positions q

  abbrev row : List Value
  row = held ns ps rows

  abbrev slots : List ℕ
  slots = slots_of ns ps

  abbrev vs : List NodeValue
  vs = values_over texts slots ns row

  abbrev leaves : List Value
  leaves = leaves_at row ns slots

  column_short : (place : ℕ) (x : FromColumn) → slice_get scope place ≡ Some x → x.table < length widths → x.place < slice_index widths x.table
      → value_length (value_at (get_or rows x.table []) x.place) ≤ type_length x.column.ty
  column_short place x at table column =
      let r = at_place tables 0 q.tables rows x.table x.place fit (below_table tables q.tables rows fit all few narrow x.table table) column in
      let inside = slice_get_within scope place x at in
      let same_place : sum_before widths x.table + x.place ≡ place =
      sym (position_is tables q.tables rows fit all few narrow (x.table, x.place) table) ∙ ap (λ o. position_at widths (place_of_found o)) (sym at) ∙ at_is place (omega (arith, inside)) in
      let both : Some r.column ≡ Some x = sym r.there ∙ ap (slice_get scope) same_place ∙ at in
      let same : r.column ≡ x = cc in
      subst (λ (y : FromColumn). value_length (value_at (get_or rows x.table []) x.place) ≤ type_length y.column.ty) same r.fits

  found_short : (place : ℕ) (c : ColRef) (o : Option FromColumn) → slice_get scope place ≡ o → HasColumn widths (node.Col c) (place_of_found o)
      → value_length (value_at (get_or rows (place_of_found o).0 []) (place_of_found o).1) ≤ type_at (λ (c : Column). type_length c.ty) 0 scope place
  found_short place c None at h =
      let outside = h.0 in
      let count = length-map q.tables (λ (f : FromTable). length (columns_of (table_named tables f.table))) in
      absurd (omega (arith, outside, count, few))
  found_short place c (Some x) at h = subst (λ n. value_length (value_at (get_or rows x.table []) x.place) ≤ n) (sym (type_there scope place x at)) (column_short place x at h.0 h.1)

  leaf_short : (n : ℕ) (c : ColRef) → slice_get q.nodes n ≡ Some (node.Col c)
      → value_length (value_at leaves n) ≤ type_at (λ (c : Column). type_length c.ty) 0 scope (slice_index positions n)
  leaf_short n c is =
      let place : ℕ = slice_index positions n in
      let here = node_at scope positions q unordered n (node.Col c) is in
      let at = place_at scope positions q unordered n c is in
      subst (λ v. value_length v ≤ type_at (λ (c : Column). type_length c.ty) 0 scope place)
      (sym (leaf_is tables q.tables rows fit all few narrow tell texts ns ps have n c (place_of_found (slice_get scope place)) here at))
      (found_short place c (slice_get scope place) refl (have_at widths ns ps n (node.Col c) (place_of_found (slice_get scope place)) have here at))

  abbrev kinds : List Kind
  kinds = select_kinds scope positions q

  abbrev column_types : List ℕ
  column_types = map (type_at (λ (c : Column). type_length c.ty) 0 scope) positions

  abbrev lengths : List ℕ
  lengths = lengths_from kinds column_types q.nodes []

  short_leaf : (n : ℕ) (m : Node) → slice_get q.nodes n ≡ Some m → IsShortLeaf m (value_at leaves n) (slice_index column_types n)
  short_leaf n (node.Col c) is =
      let inside = slice_get_within q.nodes n (node.Col c) is in
      let count = positions_count scope q 0 q.nodes in
      subst (λ l. value_length (value_at leaves n) ≤ l) (sym (mapped_at (type_at (λ (c : Column). type_length c.ty) 0 scope) positions n (omega (arith, inside, count)))) (leaf_short n c is)
  short_leaf n (node.Lit l) is = tt
  short_leaf n (node.Neg a) is = tt
  short_leaf n (node.Arith o a b) is = tt
  short_leaf n (node.Compare o a b) is = tt
  short_leaf n (node.Both a b) is = tt
  short_leaf n (node.Either a b) is = tt
  short_leaf n (node.Not a) is = tt
  short_leaf n (node.IsNull a) is = tt
  short_leaf n (node.NotNull a) is = tt
  short_leaf n (node.Aggregate f a) is = tt

  module _ (plain : list_any is_aggregate q.nodes ≡ false) where
    node_short : (n : ℕ) → n < length q.nodes → is_value (kind_at kinds n) ≡ true → value_length (value_of vs n) ≤ slice_index lengths n
    unfolding values_over
    node_short n inside value =
        let m : Node = get_or q.nodes n (node.Lit literal.Null) in
        let here : slice_get q.nodes n ≡ Some m = slice_get-get_or q.nodes n (node.Lit literal.Null) inside in
        let z : n ≡ 0 + n = omega arith in
        let v = built_at (λ k m ds. node_value (value_at leaves k) texts m ds) ns [] (Plain Null) n n m z (node_at scope positions q unordered n m here) in
        let k = built_at (λ k m ds. kind_of (kind_at (leaf_kinds scope positions) k) m ds) q.nodes [] Nothing n n m z here in
        let l = built_at (λ k m ds. length_of kinds (slice_index column_types k) m ds) q.nodes [] 0 n n m z here in
        let value_is : value_of vs n ≡ as_value (node_value (value_at leaves n) texts m v.before) =
        ap (λ (l : List NodeValue). as_value (get_or l n (Plain Null))) (values_built leaves texts ns []) ∙ ap as_value v.is in
        let kind_is : kind_at kinds n ≡ kind_of (kind_at (leaf_kinds scope positions) n) m k.before =
        ap (λ l. get_or l n Nothing) (kinds_built (leaf_kinds scope positions) q.nodes []) ∙ k.is in
        let length_is : slice_index lengths n ≡ length_of kinds (slice_index column_types n) m l.before =
        ap (λ l. get_or l n 0) (lengths_built kinds column_types q.nodes []) ∙ l.is in
        let short : value_length (as_value (node_value (value_at leaves n) texts m v.before)) ≤ length_of kinds (slice_index column_types n) m l.before =
        value_short (value_at leaves n) texts m v.before (kind_at (leaf_kinds scope positions) n) k.before kinds (slice_index column_types n) l.before
        (plain_at q.nodes n m plain here) (ap is_value (sym kind_is) ∙ value) (short_leaf n m here) in
        subst (λ w. value_length w ≤ slice_index lengths n) (sym value_is)
        (subst (λ b. value_length (as_value (node_value (value_at leaves n) texts m v.before)) ≤ b) (sym length_is) short)

    each_short : (os : List Output) → list_all (is_apart q) (map (λ (o : Output). o.node) os) ≡ true → list_all (λ (o : Output). is_value (kind_at kinds o.node)) os ≡ true
        → AllByRecursion (λ (o : Output). value_length (value_of vs o.node) ≤ slice_index lengths o.node) os
    each_short [] h g = tt
    each_short (o ∷ os) h g =
        let apart : is_apart q o.node ≡ true = first_so (is_apart q o.node) (list_all (is_apart q) (map (λ (o : Output). o.node) os)) h in
        let test : nat_lt o.node (length q.nodes) ≡ true = first_so (nat_lt o.node (length q.nodes)) (not (is_order_key q o.node)) apart in
        let inside : o.node < length q.nodes = grind (arith, nat_tests) in (
          node_short o.node inside (first_so (is_value (kind_at kinds o.node)) (list_all (λ (o : Output). is_value (kind_at kinds o.node)) os) g),
          each_short os (second_so (is_apart q o.node) (list_all (is_apart q) (map (λ (o : Output). o.node) os)) h)
              (second_so (is_value (kind_at kinds o.node)) (list_all (λ (o : Output). is_value (kind_at kinds o.node)) os) g),
        )

    star_node_short : q.star ≡ true → (i : ℕ) (x : FromColumn) → slice_get scope i ≡ Some x → value_length (value_of vs (length q.nodes + i)) ≤ type_length x.column.ty
    star_node_short star i x is =
        let c : ColRef = record { table = Some x.alias; name = x.column.name } in
        let n : ℕ = length q.nodes + i in
        let here : slice_get ns n ≡ Some (node.Col c) = star_node_at scope positions q unordered i x star is in
        let at : slice_get ps n ≡ Some (x.table, x.place) = star_place_at scope positions q unordered i x star is in
        let h : HasColumn widths (node.Col c) (x.table, x.place) = have_at widths ns ps n (node.Col c) (x.table, x.place) have here at in
        let same : value_of vs n ≡ value_at (get_or rows x.table []) x.place =
        over_value tables q.tables rows fit all few narrow tell texts ns ps have n c here
        ∙ leaf_is tables q.tables rows fit all few narrow tell texts ns ps have n c (x.table, x.place) here at in
        subst (λ v. value_length v ≤ type_length x.column.ty) (sym same) (column_short i x is h.0 h.1)

    -- the output row is no longer than its declared length
    pub output_short : list_all (is_apart q) (map (λ (o : Output). o.node) q.outputs) ≡ true → list_all (λ (o : Output). is_value (kind_at kinds o.node)) q.outputs ≡ true
        → row_length (outputs_over vs (written_out scope positions q).outputs) ≤ (if q.star then column_lengths scope else sum_by (λ (o : Output). slice_index lengths o.node) q.outputs)
    output_short apart value = by q.star refl
      where
        by : (b : Bool) → q.star ≡ b
            → row_length (outputs_over vs (if b then star_outputs (length q.nodes) scope else q.outputs)) ≤ (if b then column_lengths scope else sum_by (λ (o : Output). slice_index lengths o.node) q.outputs)
        by true star = star_short vs (length q.nodes) scope (star_node_short star)
        by false star = outputs_short vs lengths q.outputs (each_short q.outputs apart value)
