-- Over rows of the tables of FROM a column of a bound SELECT has its own value, which fits its type.
use Rattle.std.proofs.Common.{◌≡◌, ◌<◌, ◌≤◌, ℕ, zero, suc, ◌+◌, ◌-◌, true, List, [], ◌∷◌, ◌++◌, Some, map, option_map, sym, ap, subst, ◌∙◌, length, take, get_or, ◌&&◌, nat_le, if◌then◌else◌, arith}
use Rattle.std.specs.Prelude.{nat_lt, slice_get, slice_index}
use Rattle.std.specs.List.{flat_map}
use Rattle.std.proofs.lemmas.Bool.Decides.{nat_tests}
use Rattle.std.proofs.lemmas.List.{get_or_append_left, get_or-append-add, length-map, take_all}
use Rattle.std.proofs.lemmas.Option.{get_or_from_slice_get, slice_get-map}
use Rattle.hg_bind.specs.BoundSelect.{position_at, sum_before, widths_of}
use Rattle.hg_bind.specs.Laws.{HasColumn, HaveColumns}
use Rattle.hg_expr.specs.Laws.{AreOnePlaces, IsOnePlace, TablesSoFarTell, held}
use Rattle.hg_expr.specs.Over.{leaves_at, values_over}
use Rattle.hg_expr.specs.Slots.{slots_of}
use Rattle.hg_model.specs.Binding.{columns_at, free_columns, free_from}
use Rattle.hg_model.specs.Changes.{value_length}
use Rattle.hg_model.specs.Conditions.{are_there, table_at}
use Rattle.hg_model.specs.Evaluation.{as_value, node_value, value_at, value_of, values_of}
use Rattle.hg_model.specs.SelectMeaning.{leaves_of, node_values, row_leaf}
use Rattle.hg_model.specs.Scope.{columns_from, columns_of, scope_from}
use Rattle.hg_model.specs.Tables.{Table, table_named}
use Rattle.hg_model.specs.Types.{type_length}
use Rattle.hg_model.specs.declared.tables.FromColumn.{FromColumn}
use Rattle.hg_model.specs.declared.trees.ColRef.{ColRef}
use Rattle.hg_model.specs.declared.trees.Column.{Column}
use Rattle.hg_model.specs.declared.trees.FromTable.{FromTable}
use Rattle.hg_model.specs.declared.trees.Node.{Node}
use Rattle.hg_model.specs.declared.trees.Node.TheVariants as node
use Rattle.hg_model.specs.declared.values.NodeValue.{NodeValue}
use Rattle.hg_model.specs.declared.values.NodeValue.TheVariants.{Plain}
use Rattle.hg_model.specs.declared.values.Value.{Value}
use Rattle.hg_model.specs.declared.values.Value.TheVariants.{Null}
use Rattle.hg_exec.proofs.ReadyPlaces.{names_none}
use Rattle.hg_exec.proofs.ReadyRoom.{behind_at, column_at, columns_count, front_at, row_count, row_fits}
use Rattle.hg_exec.proofs.ReadyTables.{FitFroms}
use Rattle.hg_exec.proofs.ReadyValues.{built_at, free_built, values_built}

-- ---- lists

pub got_mapped : {X Y : Type 0} (f : X → Y) (xs : List X) (i : ℕ) (x : X) → slice_get xs i ≡ Some x → slice_get (map f xs) i ≡ Some (f x)
got_mapped f xs i x h = slice_get-map f xs i ∙ ap (option_map f) h

leaf_there : (leaf : Node → ℕ → Value) (ns : List Node) (ks : List ℕ) (i : ℕ) (n : Node) (k : ℕ) → slice_get ns i ≡ Some n → slice_get ks i ≡ Some k
    → value_at (leaves_of leaf ns ks) i ≡ leaf n k
leaf_there leaf [] ks i n k h g = absurd cc
leaf_there leaf (m ∷ ns) [] i n k h g = absurd cc
leaf_there leaf (m ∷ ns) (j ∷ ks) zero n k h g = let a : m ≡ n = cc in let b : j ≡ k = cc in ap (λ x. leaf x j) a ∙ ap (leaf n) b
leaf_there leaf (m ∷ ns) (j ∷ ks) (suc i) n k h g = leaf_there leaf ns ks i n k h g

table_there : (scope : List FromColumn) (k : ℕ) (x : FromColumn) → slice_get scope k ≡ Some x → table_at scope k ≡ x.table
table_there [] k x h = absurd cc
table_there (y ∷ scope) zero x h = let same : y ≡ x = cc in ap (λ (z : FromColumn). z.table) same
table_there (y ∷ scope) (suc k) x h = table_there scope k x h

pub have_at : (widths : List ℕ) (ns : List Node) (ps : List (ℕ × ℕ)) (i : ℕ) (n : Node) (p : ℕ × ℕ) → HaveColumns widths ns ps → slice_get ns i ≡ Some n → slice_get ps i ≡ Some p
    → HasColumn widths n p
have_at widths [] ps i n p h at is = absurd cc
have_at widths (m ∷ ns) [] i n p h at is = absurd h
have_at widths (m ∷ ns) (o ∷ ps) zero n p h at is = let a : m ≡ n = cc in let b : o ≡ p = cc in subst (λ x. HasColumn widths n x) b (subst (λ x. HasColumn widths x o) a h.0)
have_at widths (m ∷ ns) (o ∷ ps) (suc i) n p h at is = have_at widths ns ps i n p h.1 at is

-- ---- a column of a table, in a row of the cross product

module _ (tables : List Table) where
  pub record IsAtPlace (k : ℕ) (froms : List FromTable) (rows : List (List Value)) (t i : ℕ) : Type 0 where
    pub column : FromColumn
    pub there : slice_get (scope_from tables k froms) (sum_before (widths_of tables froms) t + i) ≡ Some column
    pub table_is : column.table ≡ k + t
    pub value_is : value_at (flat_map (λ row. row) rows) (sum_before (widths_of tables froms) t + i) ≡ value_at (get_or rows t []) i
    pub fits : value_length (value_at (get_or rows t []) i) ≤ type_length column.column.ty

  pub at_place : (k : ℕ) (froms : List FromTable) (rows : List (List Value)) (t i : ℕ) → FitFroms tables froms rows → t < length rows → i < slice_index (widths_of tables froms) t
      → IsAtPlace k froms rows t i
  at_place k froms [] t i fit here below = absurd (omega (arith, here))
  at_place k [] (row ∷ rows) t i fit here below = absurd fit
  at_place k (f ∷ fs) (row ∷ rows) zero i fit here below =
      let cs : List Column = columns_of (table_named tables f.table) in
      let own : List FromColumn = columns_from k f.alias 0 cs in
      let count : length own ≡ length cs = columns_count k f.alias 0 cs in
      let even : length row ≡ length cs = row_count cs row fit.0 in
      let r = column_at k f.alias 0 cs i below in
      let z : 0 + i ≡ i = omega arith in record {
        column = r.column;
        there = ap (slice_get (own ++ scope_from tables (suc k) fs)) z ∙ front_at own (scope_from tables (suc k) fs) i (omega (arith, count, below)) ∙ r.there;
        table_is = r.table_is ∙ omega arith;
        value_is = ap (value_at (row ++ flat_map (λ row. row) rows)) z ∙ get_or_append_left row (flat_map (λ row. row) rows) Null i (omega (arith, even, below));
        fits = row_fits cs row fit.0 i r.column.column r.own;
      }
  at_place k (f ∷ fs) (row ∷ rows) (suc t) i fit here below =
      let cs : List Column = columns_of (table_named tables f.table) in
      let own : List FromColumn = columns_from k f.alias 0 cs in
      let count : length own ≡ length cs = columns_count k f.alias 0 cs in
      let even : length row ≡ length cs = row_count cs row fit.0 in
      let before : ℕ = sum_before (widths_of tables fs) t in
      let r = at_place (suc k) fs rows t i fit.1 (omega (arith, here)) below in
      let s : length cs + before + i ≡ length own + (before + i) = omega (arith, count) in
      let w : length cs + before + i ≡ length row + (before + i) = omega (arith, even) in record {
        column = r.column;
        there = ap (slice_get (own ++ scope_from tables (suc k) fs)) s ∙ behind_at own (scope_from tables (suc k) fs) (before + i) ∙ r.there;
        table_is = r.table_is ∙ omega arith;
        value_is = ap (value_at (row ++ flat_map (λ row. row) rows)) w ∙ get_or-append-add row (flat_map (λ row. row) rows) (before + i) Null ∙ r.value_is;
        fits = r.fits;
      }

  module _ (froms : List FromTable) (rows : List (List Value)) (fit : FitFroms tables froms rows) (all : length rows ≡ length froms) (few : length froms ≤ 4)
      (narrow : (t : ℕ) → slice_index (widths_of tables froms) t ≤ 16) where
    abbrev widths : List ℕ
    widths = widths_of tables froms

    abbrev scope : List FromColumn
    scope = scope_from tables 0 froms

    pub below_table : (t : ℕ) → t < length widths → t < length rows
    below_table t h = let count = length-map froms (λ (f : FromTable). length (columns_of (table_named tables f.table))) in omega (arith, h, count, all)

    is_below : (t n : ℕ) → t < n → nat_lt t n ≡ true
    is_below t n h = grind (arith, nat_tests)

    pub position_is : (p : ℕ × ℕ) → p.0 < length widths → position_at widths p ≡ sum_before widths p.0 + p.1
    position_is p h = ap (λ b. if b then sum_before widths p.0 + p.1 else sum_before widths (length widths)) (is_below p.0 (length widths) h)

    one_place : (n : Node) (p : ℕ × ℕ) → HasColumn widths n p → IsOnePlace scope rows n (position_at widths p) p
    one_place (node.Col c) p h =
        let below = h.0 in
        let inside = h.1 in
        let wide = narrow p.0 in
        let r = at_place 0 froms rows p.0 p.1 fit (below_table p.0 h.0) h.1 in
        let is = position_is p h.0 in
        let count = below_table p.0 h.0 in record {
          table = omega (arith, count, all, few);
          column = omega (arith, inside, wide);
          same_table = ap (table_at scope) is ∙ table_there scope (sum_before widths p.0 + p.1) r.column r.there ∙ r.table_is ∙ omega arith;
          same_value = ap (value_at (flat_map (λ row. row) rows)) is ∙ r.value_is;
        }
    one_place (node.Aggregate f a) p h = names_none widths (node.Aggregate f a) p h
    one_place (node.Lit l) p h = tt
    one_place (node.Neg a) p h = tt
    one_place (node.Arith o a b) p h = tt
    one_place (node.Compare o a b) p h = tt
    one_place (node.Both a b) p h = tt
    one_place (node.Either a b) p h = tt
    one_place (node.Not a) p h = tt
    one_place (node.IsNull a) p h = tt
    one_place (node.NotNull a) p h = tt

    one_places : (ns : List Node) (ps : List (ℕ × ℕ)) → HaveColumns widths ns ps → AreOnePlaces scope rows ns (map (position_at widths) ps) ps
    one_places [] [] h = tt
    one_places [] (p ∷ ps) h = absurd h
    one_places (n ∷ ns) [] h = absurd h
    one_places (n ∷ ns) (p ∷ ps) h = (one_place n p h.0, one_places ns ps h.1)

    -- the value of a column node is that of its column
    module _ (tell : TablesSoFarTell) (texts : List ℕ) (ns : List Node) (ps : List (ℕ × ℕ)) (have : HaveColumns widths ns ps) where
      abbrev slots : List ℕ
      slots = slots_of ns ps

      abbrev row : List Value
      row = held ns ps rows

      abbrev places : List ℕ
      places = map (position_at widths) ps

      abbrev full : List Value
      full = flat_map (λ r. r) rows

      column_value : (leaves : List Value) (n : ℕ) (c : ColRef) → slice_get ns n ≡ Some (node.Col c) → value_of (values_of leaves texts ns) n ≡ value_at leaves n
      column_value leaves n c at =
          let z : n ≡ 0 + n = omega arith in
          let r = built_at (λ k m ds. node_value (value_at leaves k) texts m ds) ns [] (Plain Null) n n (node.Col c) z at in
          ap (λ (vs : List NodeValue). as_value (get_or vs n (Plain Null))) (values_built leaves texts ns []) ∙ ap as_value r.is

      pub over_value : (n : ℕ) (c : ColRef) → slice_get ns n ≡ Some (node.Col c) → value_of (values_over texts slots ns row) n ≡ value_at (leaves_at row ns slots) n
      unfolding values_over
      over_value n c at = column_value (leaves_at row ns slots) n c at

      told : (n : ℕ) (c : ColRef) (p : ℕ × ℕ) → slice_get ns n ≡ Some (node.Col c) → slice_get ps n ≡ Some p
          → value_of (values_over texts slots ns row) n ≡ value_of (node_values texts places ns full) n
      told n c p at is =
          let h = have_at widths ns ps n (node.Col c) p have at is in
          let below = below_table p.0 h.0 in
          let k : ℕ = length rows - 1 in
          let z : n ≡ 0 + n = omega arith in
          let r = built_at (λ j m ds. free_columns (slice_index places j) m ds) ns [] [] n n (node.Col c) z at in
          let free : columns_at (free_from places ns []) n ≡ position_at widths p ∷ [] =
          ap (λ l. get_or l n []) (free_built places ns []) ∙ r.is ∙ ap (λ j. j ∷ []) (get_or_from_slice_get places n (position_at widths p) 0 (got_mapped (position_at widths) ps n p is)) in
          let one = one_place (node.Col c) p h in
          let table = one.same_table in
          let test : nat_le (table_at scope (position_at widths p)) k ≡ true = (let low : table_at scope (position_at widths p) ≤ k = omega (arith, table, below) in grind (arith, nat_tests)) in
          let there : are_there scope (columns_at (free_from places ns []) n) k ≡ true = ap (λ l. are_there scope l k) free ∙ ap (λ b. b && true) test in
          let whole : take (suc k) rows ≡ rows = take_all (suc k) rows (omega arith) in
          ap (λ rs. value_of (values_over texts slots ns (held ns ps rs)) n) (sym whole)
          ∙ (tell scope texts ns places ps rows k n (omega (arith, all, few)) (one_places ns ps have) (omega (arith, below)) there).0

      pub leaf_is : (n : ℕ) (c : ColRef) (p : ℕ × ℕ) → slice_get ns n ≡ Some (node.Col c) → slice_get ps n ≡ Some p
          → value_at (leaves_at row ns slots) n ≡ value_at (get_or rows p.0 []) p.1
      leaf_is n c p at is =
          let h = have_at widths ns ps n (node.Col c) p have at is in
          let one = one_place (node.Col c) p h in
          sym (over_value n c at) ∙ told n c p at is
          ∙ column_value (leaves_of (row_leaf full) ns places) n c at
          ∙ leaf_there (row_leaf full) ns places n (node.Col c) (position_at widths p) at (got_mapped (position_at widths) ps n p is)
          ∙ one.same_value
