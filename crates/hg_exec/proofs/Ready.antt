-- Loops may run over a planned SELECT.
use Rattle.std.proofs.Common.{◌≡◌, ◌<◌, ◌≤◌, ℕ, zero, suc, ◌+◌, ◌*◌, Bool, true, false, List, [], ◌∷◌, map, sym, ap, subst, ◌∙◌, length, ◌++◌, is_some, ◌&&◌, ◌||◌, if◌then◌else◌, arith}
use Rattle.std.specs.Prelude.{Some, nat_le, nat_lt, slice_get, slice_index}
use Rattle.std.specs.Cmp.{first_so, second_so}
use Rattle.std.specs.List.{flat_map, list_all, list_any, sum_by}
use Rattle.std.specs.Option.{option_to_list}
use Rattle.std.proofs.lemmas.Bool.Decides.{nat_tests}
use Rattle.std.proofs.lemmas.List.{length-map}
use Rattle.std.proofs.lemmas.List.Folds.{list_all-append}
use Rattle.hg_bind.specs.Bound.{table_of}
use Rattle.hg_bind.specs.BoundMeaning.{children, is_apart, nodes_used}
use Rattle.hg_bind.specs.BoundSelect.{place_of_found, places_written, position_at, star_outputs, widths_of, written_out}
use Rattle.hg_bind.specs.Laws.{BoundIsSound, ColumnsHavePlaces, HaveColumns, PlacesArePositions}
use Rattle.hg_catalog.specs.Contents.{Contents, IsSound}
use Rattle.hg_expr.specs.Laws.{TablesSoFarTell, held}
use Rattle.hg_expr.specs.Over.{values_over}
use Rattle.hg_expr.specs.Slots.{is_named, slots_of}
use Rattle.hg_model.specs.Binding.{column_lengths, lengths_fit, named_length, select_kinds, select_types_fit, some_names, sums_of_lengths, target_length, type_at}
use Rattle.hg_model.specs.Changes.{row_length}
use Rattle.hg_model.specs.Evaluation.{value_of}
use Rattle.hg_model.specs.Query.{Query}
use Rattle.hg_model.specs.Scope.{columns_of, positions_of, scope_of, target_of}
use Rattle.hg_model.specs.SelectMeaning.{conditions, is_aggregate}
use Rattle.hg_model.specs.Tables.{Table, table_named}
use Rattle.hg_model.specs.Types.{Kind, all_well_typed, is_condition, is_value, kind_at, lengths_from, type_length}
use Rattle.hg_model.specs.declared.tables.FromColumn.{FromColumn}
use Rattle.hg_model.specs.declared.trees.Column.{Column}
use Rattle.hg_model.specs.declared.trees.FromTable.{FromTable}
use Rattle.hg_model.specs.declared.trees.OrderKey.{OrderKey}
use Rattle.hg_model.specs.declared.trees.Output.{Output}
use Rattle.hg_model.specs.declared.values.Value.{Value}
use Rattle.hg_plan.specs.declared.plan.Plan.{Plan}
use Rattle.hg_value.specs.Laws.{RowsAreAsLong}
use Rattle.hg_exec.specs.Joins.{output_of}
use Rattle.hg_exec.specs.Planned.{IsReady, MayRun, ReadyMayRun, form_with}
use Rattle.hg_exec.specs.Standing.{AreRowsOf, HasRoom, IsForm}
use Rattle.hg_exec.proofs.ReadyCauses.{IsUnrefused, unrefused}
use Rattle.hg_exec.proofs.ReadyTables.{AreOver, FitFroms, are_over, few_widths, loops_over, over_count, rows_few, rows_fit_froms}
use Rattle.hg_exec.proofs.ReadyPlaces.{have_places, name_none, named_inside}
use Rattle.hg_exec.proofs.ReadyRoom.{held_short, room_from}
use Rattle.hg_exec.proofs.ReadyNames.{all_within, marked}
use Rattle.hg_exec.proofs.ReadyOutputs.{output_short, star_count}

-- no sum is too long
each_short : (sums : List ℕ) (i : ℕ) → list_all (λ n. nat_le n 3900) sums ≡ true → slice_index sums i ≤ 3900
each_short [] i h = omega arith
each_short (n ∷ ns) zero h = let first : nat_le n 3900 ≡ true = first_so (nat_le n 3900) (list_all (λ n. nat_le n 3900) ns) h in grind (arith, nat_tests)
each_short (n ∷ ns) (suc i) h = each_short ns i (second_so (nat_le n 3900) (list_all (λ n. nat_le n 3900) ns) h)

named_short : (scope : List FromColumn) (positions : List ℕ) (q : Query) → lengths_fit scope positions q ≡ true → named_length scope positions q 0 scope ≤ 3900
named_short scope positions q h = each_short (sums_of_lengths scope positions q) 0 h

-- the third sum, without the order keys
left_part : (a b n : ℕ) → a + b ≤ n → a ≤ n
left_part a b n h = omega (arith, h)

abbrev column_types : List FromColumn → List ℕ → List ℕ
column_types scope positions = map (type_at (λ (c : Column). type_length c.ty) 0 scope) positions

abbrev node_lengths : List FromColumn → List ℕ → Query → List ℕ
node_lengths scope positions q = lengths_from (select_kinds scope positions q) (column_types scope positions) q.nodes []

outputs_short : (scope : List FromColumn) (positions : List ℕ) (q : Query) → lengths_fit scope positions q ≡ true
    → (if q.star then column_lengths scope else sum_by (λ (o : Output). slice_index (node_lengths scope positions q) o.node) q.outputs) ≤ 3900
outputs_short scope positions q h =
    left_part (if q.star then column_lengths scope else sum_by (λ (o : Output). slice_index (node_lengths scope positions q) o.node) q.outputs)
    (sum_by (λ (k : OrderKey). target_length (node_lengths scope positions q) (target_of scope positions q k.by)) q.order) 3900
    (each_short (sums_of_lengths scope positions q) 2 h)

few_outputs : (b : Bool) (scope : List FromColumn) (n : ℕ) (os : List Output) → (b && nat_lt 16 (length scope)) ≡ false → length os ≤ 16
    → length (if b then star_outputs n scope else os) ≤ 16
few_outputs true scope n os h few = let count = star_count n scope in let low : length scope ≤ 16 = grind (arith, nat_tests) in omega (arith, count, low)
few_outputs false scope n os h few = few

no_third : (a b c : Bool) → (a || (b || c)) ≡ false → c ≡ false
no_third true b c h = absurd cc
no_third false true c h = absurd cc
no_third false false c h = h

values_typed : (q : Query) (kinds : List Kind) → select_types_fit q kinds ≡ true → list_all (λ (o : Output). is_value (kind_at kinds o.node)) q.outputs ≡ true
values_typed q kinds h =
    first_so (list_all (λ (o : Output). is_value (kind_at kinds o.node)) q.outputs) (list_all (λ n. is_condition (kind_at kinds n)) (conditions q ++ option_to_list q.having))
    (second_so (all_well_typed q.nodes kinds)
    (list_all (λ (o : Output). is_value (kind_at kinds o.node)) q.outputs && list_all (λ n. is_condition (kind_at kinds n)) (conditions q ++ option_to_list q.having)) h)

outputs_apart : (q : Query) → list_all (is_apart q) (nodes_used q) ≡ true → list_all (is_apart q) (map (λ (o : Output). o.node) q.outputs) ≡ true
outputs_apart q h =
    let outs : List ℕ = map (λ (o : Output). o.node) q.outputs in
    let others : List ℕ = conditions q ++ (q.group ++ (option_to_list q.having ++ flat_map children q.nodes)) in
    first_so (list_all (is_apart q) outs) (list_all (is_apart q) others) (sym (list_all-append (is_apart q) outs others) ∙ h)

module _ (sound : BoundIsSound) (positions_law : PlacesArePositions) (columns_law : ColumnsHavePlaces) (tell : TablesSoFarTell) (long : RowsAreAsLong)
    (c : Contents) (q bound : Query) (texts numbers : List ℕ) (places : List (ℕ × ℕ)) (p : Plan) (catalog : IsSound c) (r : IsReady c q bound texts numbers places p) where
  abbrev tables : List Table
  tables = map table_of c.tables

  abbrev scope : List FromColumn
  scope = scope_of tables q

  abbrev positions : List ℕ
  positions = positions_of scope q

  abbrev widths : List ℕ
  widths = widths_of tables q.tables

  fine : IsUnrefused tables q
  fine = unrefused tables q r.bound_is.unrefused

  over : AreOver c.tables q.tables p.loops.items
  over = are_over c.tables q.tables p.loops.items (ap (map (slice_get tables)) r.plan_is.tables_are ∙ r.bound_is.tables_are)

  have : HaveColumns widths bound.nodes places
  have = columns_law tables q bound numbers places r.bound_is r.apart

  narrow : (t : ℕ) → slice_index widths t ≤ 16
  narrow t = few_widths c.tables q.tables p.loops.items t over catalog.tables_fit

  widths_count : length widths ≡ length q.tables
  widths_count = length-map q.tables (λ (f : FromTable). length (columns_of (table_named tables f.table)))

  four : length widths ≤ 4
  four = let same = widths_count in let few = r.few in omega (arith, same, few)

  count : length p.loops.items ≡ length q.tables
  count = over_count c.tables q.tables p.loops.items over

  inside : (k j i : ℕ) → k ≡ j → i < 16 → is_named bound.nodes places (16 * k + i) ≡ true → i < slice_index widths j
  inside k j i e below is = named_inside widths narrow bound.nodes places have j i below (ap (λ m. is_named bound.nodes places (16 * m + i)) (sym e) ∙ is)

  have_written : HaveColumns widths (written_out scope positions q).nodes (places_written scope positions q)
  have_written =
      subst (HaveColumns widths (written_out scope positions q).nodes) r.bound_is.places_are (subst (λ (y : Query). HaveColumns widths y.nodes places) r.bound_is.bound_is have)

  at_is : (place : ℕ) → place ≤ length scope → position_at widths (place_of_found (slice_get scope place)) ≡ place
  at_is place low = positions_law tables q place r.few low

  -- a column that the bound form names is one that the statement names
  names : (place : ℕ) (x : FromColumn) → slice_get scope place ≡ Some x → x.place < 16 → is_named bound.nodes places (16 * x.table + x.place) ≡ true
      → (q.star || some_names scope positions q place 0 q.nodes) ≡ true
  names place x at low is =
      let named : is_named (written_out scope positions q).nodes (places_written scope positions q) (16 * x.table + x.place) ≡ true =
      subst (λ ps. is_named (written_out scope positions q).nodes ps (16 * x.table + x.place) ≡ true) r.bound_is.places_are
      (subst (λ (y : Query). is_named y.nodes places (16 * x.table + x.place) ≡ true) r.bound_is.bound_is is) in
      marked scope positions q widths (all_within scope q) narrow at_is have_written place x at low named

  room_of : (rows : List (List Value)) → AreRowsOf c.tables p.loops.items rows → HasRoom (held bound.nodes places rows)
  room_of rows are =
      let fit : FitFroms tables q.tables rows = rows_fit_froms c.tables q.tables p.loops.items rows over are in
      let few = rows_few tables q.tables rows fit in
      let at_most = r.few in
      let short = held_short bound.nodes places 0 rows in
      let sum : row_length (held bound.nodes places rows) ≤ named_length scope positions q 0 scope =
      room_from scope positions q tables bound.nodes places names 0 0 q.tables rows fit
      (λ i x at. let z : 0 + i ≡ i = omega arith in ap (slice_get scope) z ∙ at)
      (λ j i below is. inside (0 + j) j i (omega arith) below is) narrow in
      let bytes = long (held bound.nodes places rows) in
      let fits = named_short scope positions q fine.lengths in record {
        places = omega (arith, few, at_most, short);
        bytes = omega (arith, sum, bytes, fits);
      }

  abbrev output_over : Query → List (ℕ × ℕ) → List ℕ → List (List Value) → List Value
  output_over y ps slots rows = map (λ (o : Output). value_of (values_over texts slots y.nodes (held y.nodes ps rows)) o.node) y.outputs

  out_of : (rows : List (List Value)) → AreRowsOf c.tables p.loops.items rows → length rows ≡ length p.loops.items → HasRoom (output_of (form_with bound texts p) (held bound.nodes places rows))
  out_of rows are every =
      let fit : FitFroms tables q.tables rows = rows_fit_froms c.tables q.tables p.loops.items rows over are in
      let output : List Value = output_over (written_out scope positions q) (places_written scope positions q) (slots_of (written_out scope positions q).nodes (places_written scope positions q)) rows in
      let same : output_of (form_with bound texts p) (held bound.nodes places rows) ≡ output =
      ap (λ slots. output_over bound places slots rows) r.plan_is.slots
      ∙ ap (λ (y : Query). output_over y places (slots_of y.nodes places) rows) r.bound_is.bound_is
      ∙ ap (λ ps. output_over (written_out scope positions q) ps (slots_of (written_out scope positions q).nodes ps) rows) r.bound_is.places_are in
      let sum =
      output_short tables q rows fit (every ∙ count) r.few narrow tell texts r.unordered at_is have_written
      (no_third (nat_lt 0 (length q.group)) (is_some q.having) (list_any is_aggregate q.nodes) r.ungrouped)
      (outputs_apart q r.apart.others) (values_typed q (select_kinds scope positions q) fine.typed) in
      let fits = outputs_short scope positions q fine.lengths in
      let bytes = long output in
      let number = length-map (written_out scope positions q).outputs
      (λ (o : Output). value_of (values_over texts (slots_of (written_out scope positions q).nodes (places_written scope positions q)) (written_out scope positions q).nodes
      (held (written_out scope positions q).nodes (places_written scope positions q) rows)) o.node) in
      let few = few_outputs q.star scope (length q.nodes) q.outputs fine.few_starred r.few_outputs in
      subst HasRoom (sym same) (record { places = omega (arith, number, few); bytes = omega (arith, sum, fits, bytes) })

  form_of : IsForm c.tables (form_with bound texts p) p.loops.items
  form_of = record {
    places = places;
    sound = sound tables q bound texts numbers places r.bound_is (record { tree = r.tree; narrow = fine.narrow; texts_fit = r.texts_fit });
    placed = have_places widths narrow four bound.nodes places have;
    aggregates = name_none widths bound.nodes places have;
    slots = r.plan_is.slots;
    few = let same = count in let few = r.few in omega (arith, same, few);
    named = r.plan_is.named;
    room = room_of;
    out = out_of;
  }

  may_run : MayRun c.tables (form_with bound texts p) p.loops.items
  may_run = record {
    form = form_of;
    over = loops_over bound.nodes places c.tables 0 q.tables p.loops.items over fine.known r.plan_is.named
        (λ j i below is. inside (0 + j) j i (omega arith) below is);
    some = let same = count in let some = r.some in omega (arith, same, some);
  }

pub planned_may_run : BoundIsSound → PlacesArePositions → ColumnsHavePlaces → TablesSoFarTell → RowsAreAsLong → ReadyMayRun
planned_may_run sound positions_law columns_law tell long c q bound texts numbers places p catalog r =
    may_run sound positions_law columns_law tell long c q bound texts numbers places p catalog r
