-- The loops of a plan give what their SELECT means.
use Rattle.std.specs.Prelude.{◌≡◌, ℕ, ◌+◌, ◌-◌, ◌<◌, true, false, List, [], ◌∷◌, length, map, nat_lt, slice_index, if◌then◌else◌}
use Rattle.std.specs.List.{AllByRecursion, filter}
use Rattle.std.specs.List.Sorted.{IsPermutation}
use Rattle.std.proofs.Common.{sym, ◌∙◌, ap, subst, arith}
use Rattle.std.proofs.lemmas.Bool.Decides.{nat_tests}
use Rattle.std.proofs.lemmas.List.{length-map}
use Rattle.std.proofs.lemmas.List.Elements.{All-from_recursion}
use Rattle.std.proofs.lemmas.List.Sorted.{IsPermutation-map}
use Rattle.hg_bind.proofs.Meanings.{bound_groups}
use Rattle.hg_bind.proofs.Widths.{all_weaken}
use Rattle.hg_bind.specs.Bound.{tables_of}
use Rattle.hg_bind.specs.BoundMeaning.{BoundMeansTheSame, bound_meaning, bound_rows, bound_setting, key_target, rows_at, rows_beside, width_at}
use Rattle.hg_bind.specs.BoundSelect.{bound_key, position_at, sum_before, widths_of, written_out}
use Rattle.hg_bind.specs.Laws.{BoundIsSound, ColumnsHavePlaces, HaveColumns}
use Rattle.hg_catalog.specs.Contents.{Contents, IsSound}
use Rattle.hg_expr.specs.Laws.{AreOnePlaces}
use Rattle.hg_model.specs.Binding.{columns_at, free_from}
use Rattle.hg_model.specs.Conditions.{are_there, first_table, split_conditions, table_at}
use Rattle.hg_model.specs.Query.{Query}
use Rattle.hg_model.specs.Scope.{positions_of, scope_of}
use Rattle.hg_model.specs.SelectMeaning.{Setting, first_pairs_from, group_pair, groups_of, is_grouped, keeps_group, keeps_row, meaning, output_row, pair_of, pairs_of, row_pair, row_values, sort_key}
use Rattle.hg_model.specs.Tables.{Table, cross}
use Rattle.hg_model.specs.declared.tables.FromColumn.{FromColumn}
use Rattle.hg_model.specs.declared.trees.Output.{Output}
use Rattle.hg_model.specs.declared.values.Value.{Value}
use Rattle.hg_plan.specs.declared.plan.Plan.{Plan}
use Rattle.hg_plan.specs.declared.plan.TableLoop.{TableLoop}
use Rattle.hg_exec.specs.Joins.{TableRows, rows_from}
use Rattle.hg_exec.specs.Meaning.{IsPlanned, IsThereAtLast, LoopsMeanSelect, choices, rows_in}
use Rattle.hg_exec.specs.Planned.{HoldRows, IsReady, ReadyMeansTheSame, form_with, keyless}
use Rattle.hg_exec.proofs.Meaning.{map-map, map-same}
use Rattle.hg_exec.proofs.PlannedBags.{cross-moved, filter-moved}
use Rattle.hg_exec.proofs.PlannedPlaces.{choices-wide, first-within, of-tables, one-places, table-of, tables-below, there-at-last}
use Rattle.hg_exec.proofs.PlannedTables.{IsThere, all-moved, all-there, all-there-too, all-wide, are-tables, as-many, narrow-widths, nodes-narrow, widths-there, widths-too}

all-of : {X : Type 0} (P : X → Type 0) (xs : List X) → ((x : X) → P x) → AllByRecursion P xs
all-of P [] h = tt
all-of P (x ∷ xs) h = (h x, all-of P xs h)

position-is : (widths : List ℕ) (place : ℕ × ℕ) → place.0 < length widths → position_at widths place ≡ sum_before widths place.0 + place.1
position-is widths place lt =
    let inside : nat_lt place.0 (length widths) ≡ true = grind (arith, nat_tests) in
    ap (λ b. if b then sum_before widths place.0 + place.1 else sum_before widths (length widths)) inside

-- ---- a SELECT without groups, DISTINCT and ORDER BY

module _ (tables : List Table) (bound : Query) (texts numbers : List ℕ) (places : List (ℕ × ℕ)) (ungrouped : is_grouped bound ≡ false) (all-rows : bound.distinct ≡ false)
    (unordered : bound.order ≡ []) where
  abbrev s : Setting
  s = bound_setting tables bound texts numbers places

  abbrev outputs : List Value → List Value
  outputs row = output_row s (row_values s row) row

  one-pair : (row : List Value) → row_pair s row ≡ keyless (outputs row)
  unfolding row_pair pair_of
  one-pair row = ap (λ ks. record { row = outputs row; keys = map (sort_key (row_values s row) (outputs row)) (map key_target ks) }) unordered

  all-pairs : (rows : List (List Value)) → pairs_of s rows ≡ map (row_pair s) rows
  unfolding pairs_of
  all-pairs rows = ap (λ b. if b then map (group_pair s) (filter (keeps_group s) (groups_of s rows)) else map (row_pair s) rows) ungrouped

  pub plain-meaning : bound_meaning tables bound texts numbers places ≡ map keyless (map outputs (filter (keeps_row s) (rows_beside tables numbers)))
  unfolding bound_meaning bound_rows
  plain-meaning =
      let kept = filter (keeps_row s) (rows_beside tables numbers) in
      ap (λ b. if b then first_pairs_from [] (pairs_of s kept) else pairs_of s kept) all-rows
      ∙ all-pairs kept
      ∙ map-same (row_pair s) (λ row. keyless (outputs row)) kept one-pair
      ∙ sym (map-map keyless outputs kept)

-- ---- the plan of a SELECT

module _ (c : Contents) (q bound : Query) (texts numbers : List ℕ) (places : List (ℕ × ℕ)) (p : Plan) (stored : List Table) (rows : TableRows)
    (sound : IsSound c) (ready : IsReady c q bound texts numbers places p) (held : HoldRows (tables_of c) stored rows) where
  abbrev seen : List Table
  seen = tables_of c

  abbrev scope : List FromColumn
  scope = scope_of seen q

  abbrev setting : Setting
  setting = bound_setting stored bound texts numbers places

  abbrev widths : List ℕ
  widths = widths_of seen q.tables

  abbrev at : ℕ × ℕ → ℕ
  at = position_at (map (width_at stored) numbers)

  abbrev written : Query
  written = written_out scope (positions_of scope q) q

  bound-is : bound ≡ written
  bound-is = ready.bound_is.bound_is

  ungrouped : is_grouped bound ≡ false
  ungrouped = ap is_grouped bound-is ∙ bound_groups scope (positions_of scope q) q ∙ ready.ungrouped

  all-rows : bound.distinct ≡ false
  all-rows = ap (λ (b : Query). b.distinct) bound-is ∙ ready.all_rows

  unordered : bound.order ≡ []
  unordered = ap (λ (b : Query). b.order) bound-is ∙ ap (map (bound_key scope (positions_of scope q) q)) ready.unordered

  starless : bound.star ≡ false
  starless = ap (λ (b : Query). b.star) bound-is

  tables-are : bound.tables ≡ q.tables
  tables-are = ap (λ (b : Query). b.tables) bound-is

  widths-are : map (width_at stored) numbers ≡ widths
  widths-are = widths-too seen stored held.bare_are numbers ∙ widths-there seen q.tables numbers ready.bound_is.tables_are

  widths-many : length widths ≡ length q.tables
  widths-many = length-map q.tables _

  there : AllByRecursion (IsThere stored) numbers
  there = all-there-too seen stored held.bare_are numbers (all-there seen q numbers ready.bound_is.unrefused ready.bound_is.tables_are)

  loops-many : length p.loops.items ≡ length q.tables
  loops-many =
      sym (length-map p.loops.items (λ (l : TableLoop). l.table)) ∙ ap length ready.plan_is.tables_are ∙ as-many seen q.tables numbers ready.bound_is.tables_are

  rows-are : rows_in rows p.loops.items ≡ map rows numbers
  rows-are = sym (map-map rows (λ (l : TableLoop). l.table) p.loops.items) ∙ ap (map rows) ready.plan_is.tables_are

  -- a place is a position
  is-at : (place : ℕ × ℕ) → place.0 < length widths → place.1 < slice_index widths place.0 → at place ≡ sum_before widths place.0 + place.1
  is-at place lt inside = ap (λ ws. position_at ws place) widths-are ∙ position-is widths place lt

  table-is : (t k n : ℕ) → t < length widths → k < slice_index widths t → n ≡ sum_before widths t + k → table_at scope n ≡ t
  table-is t k n lt inside e = let same : 0 + t ≡ t = omega arith in table-of seen 0 q.tables t k n lt inside e ∙ same

  below : (n : ℕ) → table_at scope n < length q.tables
  below n = tables-below seen 0 (length q.tables) q.tables (let some = ready.some in omega arith) (omega arith) n

  last-there : (ps : List ℕ) → are_there scope ps (length q.tables - 1) ≡ true
  last-there = there-at-last scope (length q.tables) below

  module _ (have : ColumnsHavePlaces) where
    columns : HaveColumns widths bound.nodes places
    columns = have seen q bound numbers places ready.bound_is ready.apart

    one-chosen : (chosen : List (List Value)) → map length chosen ≡ widths → AreOnePlaces scope chosen bound.nodes (map at places) places
    one-chosen chosen wide =
        one-places scope widths at is-at table-is chosen wide (let most = ready.few in let many = widths-many in omega arith) (narrow-widths c.tables sound.tables_fit q.tables) bound.nodes places columns

    one : AllByRecursion (λ chosen. AreOnePlaces scope chosen bound.nodes (map at places) places) (choices (map rows numbers))
    one =
        all_weaken (λ chosen. map length chosen ≡ widths) (λ chosen. AreOnePlaces scope chosen bound.nodes (map at places) places) one-chosen (choices (map rows numbers))
        (subst (λ ws. AllByRecursion (λ chosen. map length chosen ≡ ws) (choices (map rows numbers))) widths-are
        (choices-wide (map rows numbers) (map (width_at stored) numbers) (all-wide c stored rows sound held numbers there)))

    tested-somewhere : (n : ℕ) → first_table scope setting.positions bound n < length bound.tables
    tested-somewhere n =
        let many : length bound.tables ≡ length q.tables = ap length tables-are in
        let some = ready.some in
        first-within (are_there scope (columns_at (free_from setting.positions bound.nodes []) n)) 0 (length bound.tables) (length q.tables - 1) (omega arith)
        (let same : 0 + (length q.tables - 1) ≡ length q.tables - 1 = omega arith in
        ap (are_there scope (columns_at (free_from setting.positions bound.nodes []) n)) same ∙ last-there (columns_at (free_from setting.positions bound.nodes []) n))

    output-there : (o : Output) → IsThereAtLast scope setting p.loops.items o.node
    output-there o =
        ap (λ n. are_there scope (columns_at (free_from setting.positions bound.nodes []) o.node) (n - 1)) loops-many
        ∙ last-there (columns_at (free_from setting.positions bound.nodes []) o.node)

    is-planned : BoundIsSound → IsPlanned scope setting places (form_with bound texts p) p.loops.items rows
    is-planned keeps = record {
      form = ap (λ slots. record { nodes = bound.nodes; texts = texts; slots = slots; outputs = bound.outputs }) ready.plan_is.slots;
      star = starless;
      tree = (keeps seen q bound texts numbers places ready.bound_is
          (record { tree = ready.tree; narrow = nodes-narrow seen q ready.bound_is.unrefused; texts_fit = ready.texts_fit })).tree;
      count = loops-many ∙ sym (ap length tables-are);
      some = let some = ready.some in let many = loops-many in omega arith;
      few = let few = ready.few in let many = loops-many in omega arith;
      named = ready.plan_is.named;
      tested = ready.plan_is.tested scope (map at places) (of-tables scope widths at is-at table-is bound.nodes places columns);
      tested_somewhere = All-from_recursion _ (split_conditions bound)
          (all-of (λ n. first_table scope setting.positions bound n < length bound.tables) (split_conditions bound) tested-somewhere);
      outputs_there = all-of (λ (o : Output). IsThereAtLast scope setting p.loops.items o.node) bound.outputs output-there;
      one = subst (λ tables. AllByRecursion (λ chosen. AreOnePlaces scope chosen bound.nodes (map at places) places) (choices tables)) (sym rows-are) one;
    }

  means : LoopsMeanSelect → BoundMeansTheSame → BoundIsSound → ColumnsHavePlaces
      → IsPermutation (meaning q texts stored) (map keyless (rows_from (form_with bound texts p) rows p.loops.items []))
  means loops same keeps have =
      let out : List Value → List Value = λ row. output_row setting (row_values setting row) row in
      let stood : meaning q texts stored ≡ map keyless (map out (filter (keeps_row setting) (rows_beside stored numbers))) =
      sym (same seen stored q bound texts numbers places ready.bound_is ready.apart ready.few (are-tables c stored rows sound held)).pairs
      ∙ plain-meaning stored bound texts numbers places ungrouped all-rows unordered in
      let gives : rows_from (form_with bound texts p) rows p.loops.items [] ≡ map out (filter (keeps_row setting) (cross (map rows numbers))) =
      loops scope setting places (form_with bound texts p) p.loops.items rows (is-planned have keeps)
      ∙ ap (λ tables. map out (filter (keeps_row setting) (cross tables))) rows-are in
      let moved : IsPermutation (rows_beside stored numbers) (cross (map rows numbers)) =
      cross-moved (rows_at stored) rows numbers (all-moved c stored rows sound held numbers there) in
      let kept = filter-moved (keeps_row setting) (rows_beside stored numbers) (cross (map rows numbers)) moved in
      subst (λ r. IsPermutation r (map keyless (rows_from (form_with bound texts p) rows p.loops.items []))) (sym stood)
      (subst (λ r. IsPermutation (map keyless (map out (filter (keeps_row setting) (rows_beside stored numbers)))) (map keyless r)) (sym gives)
      (IsPermutation-map keyless _ _ (IsPermutation-map out _ _ kept)))

pub ready_means_the_same : LoopsMeanSelect → BoundMeansTheSame → BoundIsSound → ColumnsHavePlaces → ReadyMeansTheSame
ready_means_the_same loops same keeps have c q bound texts numbers places p stored rows sound ready held =
    means c q bound texts numbers places p stored rows sound ready held loops same keeps have
