-- An UPDATE is a step of the plain machine.
use Rattle.std.specs.Prelude.{◌≡◌, ℕ, suc, ◌+◌, ◌-◌, ◌*◌, ◌^◌, ◌≤◌, ◌<◌, ◌⊎◌, Bool, true, false, List, [], ◌∷◌, length, map, Option, Some, None, is_some, not, nat_lt, ◌&&◌, slice_get, if◌then◌else◌}
use Rattle.std.specs.List.{filter, count_by, list_any}
use Rattle.std.specs.List.Sorted.{IsPermutation}
use Rattle.std.proofs.Common.{sym, ◌∙◌, ap, subst, refl, arith, inl, inr}
use Rattle.std.proofs.lemmas.List.Sorted.{IsPermutation-map, IsPermutation-trans, IsPermutation-sym, length_permutation, list_any-IsPermutation}
use Rattle.std.proofs.lemmas.List.Sums.{length-filter}
use Rattle.hg_base.specs.Space.{Space, key, key_in}
use Rattle.hg_base.specs.Lines.{has_page}
use Rattle.hg_base.specs.declared.File.{File}
use Rattle.hg_base.specs.declared.File.TheVariants.{Main, Temp}
use Rattle.hg_base.specs.declared.PageId.{PageId}
use Rattle.hg_base.specs.declared.Table.{Table as Ends}
use Rattle.hg_base.specs.declared.pages.PageFault.{PageFault}
use Rattle.hg_base.specs.declared.pages.PageFault.TheVariants as fault
use Rattle.hg_bind.specs.Bound.{table_of, tables_of}
use Rattle.hg_catalog.specs.Contents.{Contents, CatalogTable, table_number}
use Rattle.hg_dml.specs.Filtering.{IsFilter, row_passes}
use Rattle.hg_dml.specs.Putting.{Grows, table_mine}
use Rattle.hg_dml.specs.Rows.{rows_cause, Tells}
use Rattle.hg_table.specs.Seen.{seen_rows}
use Rattle.hg_table.specs.SeenLaws.{past-later}
use Rattle.hg_dml.specs.Updating.{row_set, Updates, UpdateFault, UpdateIsRefused, UpdatesTable, UpdatesTableSome, FindsUpdating}
use Rattle.hg_machine.specs.Plain.Changes.{refused_before, made, refused, failed}
use Rattle.hg_machine.specs.Plain.Licences.{device_failed, main_is_full, temp_is_full, temp_taken, Spends}
use Rattle.hg_machine.specs.Plain.Refused.{refusal_line}
use Rattle.hg_machine.specs.Plain.Replies.{ReplyLine, rows, device_fault, file_full}
use Rattle.hg_machine.specs.Plain.State.{State, TableState, tables_of as tables_seen, with_rows, has_rows}
use Rattle.hg_machine.specs.Plain.Update.{Updates as UpdatesRows, updating}
use Rattle.hg_model.specs.Binding.{cause_if}
use Rattle.hg_model.specs.ChangeBinding.{update_refusal, update_targets, node_name_cause, change_kinds, change_positions, columns_cause, sets_fit, filter_fits}
use Rattle.hg_model.specs.ChangeMeaning.{update_cause, update_meaning, update_positions, update_count, stamp_cause, change_of}
use Rattle.hg_model.specs.Changes.{Made, unless, update_change, update_passes, changed_row, first_column, row_length, null_cause, fit_cause, long_cause, double_cause}
use Rattle.hg_model.specs.CommandNeeds.{storing_need, index_count}
use Rattle.hg_model.specs.Creation.{uniques_of}
use Rattle.hg_model.specs.Evaluation.{value_at}
use Rattle.hg_model.specs.NullLogic.{is_null}
use Rattle.hg_model.specs.Refusal.{Refusal, StampsUsedUp, UnknownTable, TypeMismatch, TooWide, NotGrouped, NullNotAllowed, DoesNotFit, RowTooLong, first_cause}
use Rattle.hg_model.specs.Scope.{columns_of, columns_from, rows_of}
use Rattle.hg_model.specs.SelectMeaning.{is_aggregate}
use Rattle.hg_model.specs.Statements.{UpdateRows, UpdateTree}
use Rattle.hg_model.specs.Tables.{Table, table_named, same_name, fits_type}
use Rattle.hg_model.specs.Types.{all_well_typed, all_narrow}
use Rattle.hg_model.specs.declared.trees.Column.{Column}
use Rattle.hg_model.specs.declared.values.Value.{Value}
use Rattle.hg_plan.specs.ReadLaws.{IsReadUpdate, ReadUpdatesFit}
use Rattle.hg_reply.specs.Asked.{IsReadAs}
use Rattle.hg_reply.specs.Steps.{BeginsSo, TellOnlyFound}
use Rattle.hg_table.specs.Chains.{IsChain}
use Rattle.hg_table.specs.Marks.{last, committed, Draws, Commits}
use Rattle.hg_engine.specs.Standing.{TableStands, rowless}
use Rattle.hg_engine.specs.Stepping.{TablesAre, StepsTo, CountedIn, IsSameSpace, UpdateFinds, line_of}
use Rattle.hg_engine.specs.Steps.{MaySee}
use Rattle.hg_engine.specs.declared.tables.Tables.{Tables}
use Rattle.hg_engine.proofs.Lookups.{tables_in, columns-same, some-same, position-first, first-holds}
use Rattle.hg_engine.proofs.NewTables.{first-none, cause-off}
use Rattle.hg_engine.proofs.StandLaws.{FoundAt, found-at, some-one}
use Rattle.hg_engine.proofs.CreateLaws.{begins-same, begins-seen, begins-damaged-seen}
use Rattle.hg_engine.proofs.ChangeLaws.{ShowsNow, later-drawn, later-committed, one-more, one-more-committed, stamps-left, stamps-gone, same-ends, seen-before, chosen, chosen-some, shows-hidden, hidden-none, stands-with, there, seen, sees, named-seen, shape-seen, columns-there, after, stands-after, spent-made, spent-kept, unmoved, resting-here, not-off, length-mapped}
use Rattle.hg_engine.proofs.Saying.{same-space, update-counted, sound-line}
use Rattle.hg_engine.proofs.SelectLaws.{read-bytes}
use Rattle.hg_engine.proofs.Words.{told-same}

-- ---- what stands against an UPDATE

-- the refusal is that of the catalog's tables
pub refusal-same : (c : Contents) (tables : List TableState) (u : UpdateTree) → map rowless tables ≡ map table_of c.tables
    → update_refusal (tables_in tables) u ≡ update_refusal (tables_of c) u
unfolding update_refusal
refusal-same c tables u shape =
    let there : is_some (table_named (tables_in tables) u.table) ≡ is_some (table_named (tables_of c) u.table) = some-same c tables shape u.table in
    let cols : columns_of (table_named (tables_in tables) u.table) ≡ columns_of (table_named (tables_of c) u.table) = columns-same c tables shape u.table in
    λ j. first_cause
    (cause_if (not (there j)) (UnknownTable u.table)
    ∷ first_cause (columns_cause (cols j) [] (map (λ (s : List ℕ × ℕ). s.0) u.sets))
    ∷ first_cause (map (node_name_cause (columns_from 0 u.table 0 (cols j))) u.nodes)
    ∷ cause_if (not (all_well_typed u.nodes (change_kinds (columns_from 0 u.table 0 (cols j)) u.nodes)
    && (sets_fit (cols j) (change_kinds (columns_from 0 u.table 0 (cols j)) u.nodes) u.sets && filter_fits (change_kinds (columns_from 0 u.table 0 (cols j)) u.nodes) u.filter))) TypeMismatch
    ∷ cause_if (list_any is_aggregate u.nodes) NotGrouped
    ∷ cause_if (not (all_narrow u.nodes)) TooWide
    ∷ [])

pub positions-same : (c : Contents) (tables : List TableState) (u : UpdateTree) → map rowless tables ≡ map table_of c.tables
    → update_positions (tables_in tables) u ≡ update_positions (tables_of c) u
positions-same c tables u shape = ap (λ cs. change_positions (columns_from 0 u.table 0 cs) u.nodes) (columns-same c tables shape u.table)

cause-of-refusal : (given : ℕ) (tables : List Table) (u : UpdateTree) (r : Refusal) → update_refusal tables u ≡ Some r → update_cause given tables u ≡ Some r
unfolding first_cause
cause-of-refusal given tables u r e = ap (λ o. first_cause (o ∷ stamp_cause given ∷ [])) e

cause-of-stamps : (given : ℕ) (tables : List Table) (u : UpdateTree) → update_refusal tables u ≡ None → given ≡ 2 ^ 20 → update_cause given tables u ≡ Some StampsUsedUp
unfolding first_cause
cause-of-stamps given tables u e all = λ j. first_cause (e j ∷ stamps-gone given all j ∷ [])

cause-none : (given : ℕ) (tables : List Table) (u : UpdateTree) → update_refusal tables u ≡ None → given < 2 ^ 20 → update_cause given tables u ≡ None
unfolding first_cause
cause-none given tables u e few = λ j. first_cause (e j ∷ stamps-left given few j ∷ [])

-- ---- an UPDATE that was read and is not refused

pub read-update : ReadUpdatesFit → (max : ℕ) (u : UpdateTree) (texts : List ℕ) → IsReadAs max (UpdateRows u) texts → IsReadUpdate u texts
read-update law max u texts reads = let b = read-bytes max (UpdateRows u) texts reads in law max b.0 u texts b.1

-- its nodes may be evaluated over rows of its table
pub is-filter : (tables : List Table) (u : UpdateTree) (texts columns : List ℕ) → IsReadUpdate u texts → update_refusal tables u ≡ None → columns ≡ update_positions tables u
    → IsFilter texts columns u.nodes
unfolding update_refusal
is-filter tables u texts columns read none are =
    let one = first-none _ _ none in
    let two = first-none _ _ one.1 in
    let three = first-none _ _ two.1 in
    let four = first-none _ _ three.1 in
    let five = first-none _ _ four.1 in
    let six = first-none _ _ five.1 in
    record {
      sound = record { tree = read.tree; narrow = not-off (all_narrow u.nodes) (cause-off _ _ six.0); texts_fit = read.texts_fit };
      each = ap length are ∙ length-mapped _ u.nodes;
      no_aggregate = cause-off _ _ five.0;
    }

-- ---- causes against rows in another order

first-column-same : (p q : ℕ → Column → Bool) → ((k : ℕ) (c : Column) → p k c ≡ q k c) → (cause : List ℕ → Refusal) (k : ℕ) (cs : List Column)
    → first_column p cause k cs ≡ first_column q cause k cs
first-column-same p q h cause k [] = refl
first-column-same p q h cause k (c ∷ cs) = λ j. if h k c j then Some (cause c.name) else first-column-same p q h cause (suc k) cs j

pub cause-moved : (columns : List Column) (xs ys : List (List Value)) → IsPermutation xs ys → rows_cause columns xs ≡ rows_cause columns ys
cause-moved columns xs ys moved =
    let null_same : null_cause columns xs ≡ null_cause columns ys =
    first-column-same _ _ (λ k (c : Column). ap (λ b. c.not_null && b) (list_any-IsPermutation (λ row. is_null (value_at row k)) xs ys moved)) NullNotAllowed 0 columns in
    let fit_same : fit_cause columns xs ≡ fit_cause columns ys =
    first-column-same _ _ (λ k (c : Column). list_any-IsPermutation (λ row. not (fits_type c.ty (value_at row k))) xs ys moved) DoesNotFit 0 columns in
    let long_same : long_cause xs ≡ long_cause ys = ap (λ b. if b then Some RowTooLong else None) (list_any-IsPermutation (λ row. nat_lt 1000 (row_length row)) xs ys moved) in
    λ j. first_cause (null_same j ∷ fit_same j ∷ long_same j ∷ double_cause [] [] ∷ [])

-- ---- the change

module _ (state : State) (texts : List ℕ) (u : UpdateTree) (t : Table) (columns : List Column) (positions targets : List ℕ) (none : state.indexes ≡ []) (named : table_named (tables_seen state) u.table ≡ Some t)
    (at : update_positions (tables_seen state) u ≡ positions) (targets_at : update_targets t.columns u ≡ targets) (columns_at : t.columns ≡ columns) where
  abbrev keep : List Value → Bool
  keep = update_passes texts positions u

  abbrev change : List Value → List Value
  change = changed_row texts positions targets u

  abbrev made_rows : List (List Value)
  made_rows = map change (filter keep t.rows)

  abbrev after_rows : List (List Value)
  after_rows = map (λ row. if keep row then change row else row) t.rows

  change-is : update_cause state.stamps (tables_seen state) u ≡ None
      → (updating state texts u).change ≡ unless (rows_cause columns made_rows) (Made after_rows (length made_rows))
  unfolding updating update_meaning update_change
  change-is cause =
      (λ j. unless (cause j) (change_of (named j) (λ v. update_change texts v (uniques_of (none j) u.table) (at j) (update_targets v.columns u) u)))
      ∙ ap (λ l. update_change texts t [] positions l u) targets_at
      ∙ ap (λ cs. unless (rows_cause cs made_rows) (Made after_rows (length made_rows))) columns_at

  count-is : update_count (tables_seen state) texts u ≡ count_by keep t.rows
  count-is = λ j. count_by (update_passes texts (at j) u) (rows_of (named j))

  main-need : (updating state texts u).need.main ≡ count_by keep t.rows + 22 * count_by keep t.rows * 0
  unfolding updating
  main-need = λ j. (storing_need (count-is j) (index_count (none j) u.table)).main

  temp-need : (updating state texts u).need.temp ≡ 128 + 4 * count_by keep t.rows * 1
  unfolding updating
  temp-need = λ j. (storing_need (count-is j) (index_count (none j) u.table)).temp

  versions-are : (updating state texts u).versions ≡ count_by keep t.rows
  unfolding updating
  versions-are = count-is

  -- the ways of an UPDATE whose statement stands; it may spend so many pages and versions as it has rows
  module _ (few : state.stamps < 2 ^ 20) (stands : update_refusal (tables_seen state) u ≡ None) (new : State) where
    begun : update_cause state.stamps (tables_seen state) u ≡ None
    begun = cause-none state.stamps (tables_seen state) u stands few

    abbrev SpendsSo : State → Type 0
    SpendsSo from = (main temp versions : ℕ) → count_by keep t.rows ≤ main → count_by keep t.rows ≤ versions
        → Spends (record { main = main; temp = temp; versions = versions; stamps = 1; lowers = false }) u.table from new

    enough : count_by keep t.rows ≤ (updating state texts u).need.main
    enough = let e = main-need in omega (arith, e)

    enough_versions : count_by keep t.rows ≤ (updating state texts u).versions
    enough_versions = let e = versions-are in omega (arith, e)

    pub updates-made : rows_cause columns made_rows ≡ None → SpendsSo (with_rows state u.table after_rows) → UpdatesRows state texts u (rows (length made_rows) ∷ []) new
    unfolding updating
    updates-made none_against spent =
        made after_rows (length made_rows) begun (change-is begun ∙ ap (λ o. unless o (Made after_rows (length made_rows))) none_against) refl
        (spent (updating state texts u).need.main 0 (updating state texts u).versions enough enough_versions)

    pub updates-refused : (r : Refusal) → rows_cause columns made_rows ≡ Some r → SpendsSo state → UpdatesRows state texts u (refusal_line r ∷ []) new
    unfolding updating
    updates-refused r against spent =
        refused r begun (change-is begun ∙ ap (λ o. unless o (Made after_rows (length made_rows))) against) refl (spent (updating state texts u).need.main 0 (updating state texts u).versions enough enough_versions)

    pub updates-failed : (f : File) → SpendsSo state → UpdatesRows state texts u (device_fault f ∷ []) new
    unfolding updating
    updates-failed f spent =
        failed (device_fault f) begun (device_failed f refl) refl (spent (updating state texts u).need.main (updating state texts u).need.temp (updating state texts u).versions enough enough_versions)

    full-main : state.main_limit < state.used + (updating state texts u).need.main → SpendsSo state → UpdatesRows state texts u (file_full Main ∷ []) new
    unfolding updating
    full-main full spent =
        failed (file_full Main) begun (main_is_full refl full refl) refl (spent (updating state texts u).need.main (updating state texts u).need.temp (updating state texts u).versions enough enough_versions)

    pub updates-full : state.main_limit < state.used + count_by keep t.rows → SpendsSo state → UpdatesRows state texts u (file_full Main ∷ []) new
    updates-full full spent = full-main (let e = main-need in omega (arith, e, full)) spent

    full-temp : state.temp_limit < temp_taken state + (updating state texts u).need.temp → SpendsSo state → UpdatesRows state texts u (file_full Temp ∷ []) new
    unfolding updating
    full-temp full spent =
        failed (file_full Temp) begun (temp_is_full refl full refl) refl (spent (updating state texts u).need.main (updating state texts u).need.temp (updating state texts u).versions enough enough_versions)

    pub updates-over : state.temp_limit < state.over + count_by keep t.rows → SpendsSo state → UpdatesRows state texts u (file_full Temp ∷ []) new
    updates-over full spent = full-temp (let e = temp-need in omega (arith, e, full)) spent

-- an UPDATE that is refused before its stamp
pub updates-unmade : (state : State) (texts : List ℕ) (u : UpdateTree) (r : Refusal) → update_cause state.stamps (tables_seen state) u ≡ Some r
    → UpdatesRows state texts u (refusal_line r ∷ []) state
unfolding updating
updates-unmade state texts u r cause = refused_before r cause refl refl

-- ---- what the table shows

module _ (a b : Space) (old mid : List Bool) (c : CatalogTable) (t : TableState) (pages : List ℕ) (ends : Ends) (stamp : ℕ) (draws : Draws old mid stamp) (stands : TableStands a old c t pages)
    (goes : List Value → Bool) (change : List Value → List Value) where
  abbrev changed : List Value → List Value
  changed row = if goes row then change row else row

  -- once the stamp is committed: the rows that were made in the place of those that they were made of
  pub shows-updated : (new : List Bool) (n : ℕ) → Commits mid new stamp → (all : List (List Value)) → (a.told ≡ true → all ≡ t.table.rows)
      → (updates : Updates a b c.pages ends pages c.columns (committed mid) (stamp - 1) stamp goes change n) → b.told ≡ true
      → ShowsNow b new ends c.columns updates.now (map changed all) t.versions n
  shows-updated new n commits all itself updates told =
      let told_a : a.told ≡ true = sym updates.grows.steady.told ∙ told in
      let h = stands.rows told_a in
      let done = updates.updated h.versions h.table in
      let was : List (List Value) = seen_rows (committed mid) (stamp - 1) h.versions in
      let is : List (List Value) = seen_rows (committed new) (last new) done.0 in
      let before = past-later (last old) (stamp - 1) h.versions (let x = draws.next in omega arith) h.past in
      let shown = done.2.seen (committed new) (last new) (λ q few. commits.others q (λ e. let x = draws.next in absurd (omega arith))) commits.here (let x = draws.drawn in let y = commits.last in omega arith) before in
      let moved = IsPermutation-map changed t.table.rows was (seen-before a old mid c t pages stamp draws stands h) in
      let counted : count_by goes was ≡ n = sym (length-filter goes was) ∙ sym (ap length (updates.concerned.all h.versions h.table)) ∙ sym updates.many in
      record {
        versions = done.0;
        table = done.1;
        past = done.2.past (last new) (let x = draws.drawn in let y = commits.last in omega arith)
            (past-later (last old) (last new) h.versions (let x = draws.next in let y = draws.drawn in let z = commits.last in omega arith) h.past);
        seen = subst (λ l. IsPermutation (map changed l) is) (sym (itself told_a))
            (IsPermutation-trans (map changed t.table.rows) (map changed was) is moved (IsPermutation-sym is (map changed was) shown));
        more = let x = done.2.count in let y = h.count in omega arith;
        few = let x = done.2.count in let y = h.count in omega (arith, counted, x, y);
      }

-- ---- the step

module _ (a b : Space) (old new : Tables) (u : UpdateTree) (texts columns targets : List ℕ) (k stamp : ℕ) (mid : List Bool)
    (idle : old.is_open ≡ false) (still : new.is_open ≡ old.is_open) (max : new.max ≡ old.max) (mpl : new.mpl ≡ old.mpl)
    (number : table_number old.catalog u.table ≡ Some k) (inside : k < length old.catalog.tables)
    (unrefused : update_refusal (tables_of old.catalog) u ≡ None) (columns_are : columns ≡ update_positions (tables_of old.catalog) u)
    (targets_are : targets ≡ update_targets (columns_of (table_named (tables_of old.catalog) u.table)) u)
    (draws : Draws old.stamps mid stamp) (room : last old.stamps < 2 ^ 20) where
  abbrev passes : List Value → Bool
  passes = row_passes texts columns u.nodes u.filter

  abbrev sets : List Value → List Value
  sets = row_set texts columns u.nodes targets u.sets

  module _ (before : State) (st : TablesAre a old before) where
    abbrev e : FoundAt a old.stamps old.catalog.tables st.tables st.pages k
    e = there a b old new u.table k idle still max mpl number inside before st

    abbrev here : List (List Value) → State
    here all = seen a b old new u.table k idle still max mpl number inside before st all

    shape : (all : List (List Value)) → map rowless (here all).tables ≡ map table_of old.catalog.tables
    shape all = shape-seen a b old new u.table k idle still max mpl number inside before st all

    named : (all : List (List Value)) → table_named (tables_seen (here all)) u.table ≡ Some (has_rows all e.table).table
    named all = named-seen a b old new u.table k idle still max mpl number inside before st all

    at : (all : List (List Value)) → update_positions (tables_seen (here all)) u ≡ columns
    at all = positions-same old.catalog (here all).tables u (shape all) ∙ sym columns_are

    targets-at : (all : List (List Value)) → update_targets (has_rows all e.table).table.columns u ≡ targets
    targets-at all =
        ap (λ cs. update_targets cs u) (sym (ap columns_of (named all)) ∙ columns-same old.catalog (here all).tables (shape all) u.table) ∙ sym targets_are

    columns-at : e.table.table.columns ≡ e.entry.columns
    columns-at = sym (columns-there a b old new u.table k idle still max mpl number inside before st)

    stands : (all : List (List Value)) → update_refusal (tables_seen (here all)) u ≡ None
    stands all = refusal-same old.catalog (here all).tables u (shape all) ∙ unrefused

  -- all rows that go were changed
  pub update-done : (n : ℕ) → ((c : CatalogTable) → slice_get old.catalog.tables k ≡ Some c → (pages : List ℕ) → IsChain a c.pages pages
      → UpdatesTable a b old.catalog new.catalog k pages (committed mid) stamp passes sets n c)
      → Commits mid new.stamps stamp → StepsTo a b old new (BeginsSo a.told (UpdateRows u) texts) (rows n ∷ [])
  update-done n updates commits = record {
    to = λ before st.
        let f = e before st in
        let some = updates f.entry f.at_entry (st.pages k) f.stands.chain in
        let done = some.updates in
        let choice = chosen a old.stamps mid f.entry f.table (st.pages k) stamp draws f.stands passes done.gone done.concerned in
        let all = choice.0 in
        let changed : List Value → List Value = λ row. if passes row then sets row else row in
        let w = stands-with b new.stamps f.entry some.after f.table (map changed all) done.now n done.grows.chain
        (shows-updated a b old.stamps mid f.entry f.table (st.pages k) some.after stamp draws f.stands passes sets new.stamps n commits all choice.1.itself done) in
        let later = later-committed old.stamps mid new.stamps stamp draws commits in
        let one = one-more-committed old.stamps mid new.stamps stamp draws commits in
        let to : State = after a b old new u.table k idle still max mpl number inside before st some.after (map changed all) done.now new.stamps n n done.grows later one w some.moves.tables refl in
        let counted : count_by passes all ≡ n = sym (length-filter passes all) ∙ sym (length_permutation (filter passes all) done.gone choice.1.going) ∙ sym done.many in
        let made_count : length (map sets (filter passes all)) ≡ n = length-mapped sets (filter passes all) ∙ length-filter passes all ∙ counted in
        let cause = cause-moved f.entry.columns (map sets (filter passes all)) (map sets done.gone) (IsPermutation-map sets (filter passes all) done.gone choice.1.going) ∙ done.no_cause in
        let was = updates-made (here before st all) texts u (has_rows all f.table).table f.entry.columns columns targets refl (named before st all) (at before st all) (targets-at before st all) (columns-at before st)
        room (stands before st all) to cause
        (λ main temp versions em ev. spent-made a b old new u.table k idle still max mpl number inside before st some.after (map changed all) done.now new.stamps n n done.grows later one w some.moves.tables refl
        all main temp versions (omega (arith, counted, em)) (omega (arith, counted, ev))) in (
          to,
          stands-after a b old new u.table k idle still max mpl number inside before st some.after (map changed all) done.now new.stamps n n done.grows later one w some.moves.tables refl,
          begins-seen a.told (UpdateRows u) texts before (here before st all) to (rows n ∷ []) (sees a b old new u.table k idle still max mpl number inside before st all choice.1.itself)
              (subst (λ m. UpdatesRows (here before st all) texts u (rows m ∷ []) to) made_count was),
        );
  }

  -- something stands against the rows that would be made
  pub update-against : (code : ℕ) (column : Option ℕ) (line : ReplyLine) → new.catalog ≡ old.catalog → new.stamps ≡ mid
      → (refuses : (c : CatalogTable) → slice_get old.catalog.tables k ≡ Some c → (pages : List ℕ) → IsChain a c.pages pages
      → UpdateIsRefused a b c.pages pages c.columns (committed mid) (stamp - 1) stamp passes sets code column)
      → ((c : CatalogTable) (found : slice_get old.catalog.tables k ≡ Some c) (pages : List ℕ) (chain : IsChain a c.pages pages) → refusal_line (refuses c found pages chain).refusal ≡ line)
      → StepsTo a b old new (BeginsSo a.told (UpdateRows u) texts) (line ∷ [])
  update-against code column line catalog uncommitted refuses same = record {
    to = λ before st.
        let f = e before st in
        let is = refuses f.entry f.at_entry (st.pages k) f.stands.chain in
        let choice = chosen a old.stamps mid f.entry f.table (st.pages k) stamp draws f.stands passes is.gone is.concerned in
        let all = choice.0 in
        let w = stands-with b mid f.entry f.entry.pages f.table all (st.pages k) 0 is.grows.chain
        (shows-hidden a b old.stamps mid f.entry f.table (st.pages k) (st.pages k) f.entry.pages stamp 0 draws f.stands is.grows.steady.told
        (λ versions table. let h = is.hidden versions table in (h.0, h.1, hidden-none (committed mid) (stamp - 1) stamp versions h.0 h.2)) all choice.1.itself) in
        let later = later-drawn old.stamps mid stamp draws in
        let one = one-more old.stamps mid stamp draws in
        let moved = catalog ∙ sym (same-ends old.catalog k f.entry f.at_entry) in
        let to : State = after a b old new u.table k idle still max mpl number inside before st f.entry.pages all (st.pages k) mid 0 0 is.grows later one w moved uncommitted in
        let cause = cause-moved f.entry.columns (map sets (filter passes all)) (map sets is.gone) (IsPermutation-map sets (filter passes all) is.gone choice.1.going) ∙ is.first in
        let was = updates-refused (here before st all) texts u (has_rows all f.table).table f.entry.columns columns targets refl (named before st all) (at before st all) (targets-at before st all) (columns-at before st)
        room (stands before st all) to is.refusal cause
        (λ main temp versions em ev. spent-kept a b old new u.table k idle still max mpl number inside before st f.entry.pages all (st.pages k) mid 0 0 is.grows later one w moved uncommitted main temp versions (omega arith) (omega arith)) in (
          to,
          stands-after a b old new u.table k idle still max mpl number inside before st f.entry.pages all (st.pages k) mid 0 0 is.grows later one w moved uncommitted,
          subst (λ l. BeginsSo a.told (UpdateRows u) texts before (l ∷ []) to) (same f.entry f.at_entry (st.pages k) f.stands.chain)
              (begins-seen a.told (UpdateRows u) texts before (here before st all) to (refusal_line is.refusal ∷ []) (sees a b old new u.table k idle still max mpl number inside before st all choice.1.itself) was),
        );
  }

  -- so many pages and versions are spent at least
  abbrev Spent : State → State → ℕ → Type 0
  Spent from to n = (main temp versions : ℕ) → n ≤ main → n ≤ versions → Spends (record { main = main; temp = temp; versions = versions; stamps = 1; lowers = false }) u.table from to

  -- a fault came before all were changed
  pub update-faulted : (f : PageFault) → ((c : CatalogTable) → slice_get old.catalog.tables k ≡ Some c → (pages : List ℕ) → IsChain a c.pages pages
      → UpdatesTableSome a b old.catalog new.catalog k pages (committed mid) stamp passes f c)
      → new.stamps ≡ mid → StepsTo a b old new (BeginsSo a.told (UpdateRows u) texts) (line_of f ∷ [])
  update-faulted f updates uncommitted = record {
    to = λ before st.
        let x = e before st in
        let some = updates x.entry x.at_entry (st.pages k) x.stands.chain in
        let done = some.updates in
        let choice = chosen-some a old.stamps mid x.entry x.table (st.pages k) stamp draws x.stands passes done.gone done.each done.few in
        let all = choice.0 in
        let n = length done.gone in
        let few : n ≤ count_by passes all = choice.2 in
        let w = stands-with b mid x.entry some.after x.table all done.now n done.grows.chain
        (shows-hidden a b old.stamps mid x.entry x.table (st.pages k) done.now some.after stamp n draws x.stands done.grows.steady.told done.hidden all choice.1) in
        let later = later-drawn old.stamps mid stamp draws in
        let one = one-more old.stamps mid stamp draws in
        let to : State = after a b old new u.table k idle still max mpl number inside before st some.after all done.now mid n n done.grows later one w some.moves.tables uncommitted in (
          to,
          stands-after a b old new u.table k idle still max mpl number inside before st some.after all done.now mid n n done.grows later one w some.moves.tables uncommitted,
          by-cause f before st all to n few done.cause
              (λ main temp versions em ev. spent-kept a b old new u.table k idle still max mpl number inside before st some.after all done.now mid n n done.grows later one w some.moves.tables uncommitted
              main temp versions (omega (arith, few, em)) (omega (arith, few, ev)))
              (sees a b old new u.table k idle still max mpl number inside before st all choice.1),
        );
  }
    where
      by-cause : (f : PageFault) (before : State) (st : TablesAre a old before) (all : List (List Value)) (to : State) (n : ℕ) → n ≤ count_by passes all → UpdateFault a b n f
          → Spent (here before st all) to (count_by passes all) → MaySee a.told before (here before st all) → BeginsSo a.told (UpdateRows u) texts before (line_of f ∷ []) to
      by-cause fault.MainFault before st all to n few cause spent see =
          begins-seen a.told (UpdateRows u) texts before (here before st all) to (device_fault Main ∷ []) see
          (updates-failed (here before st all) texts u (has_rows all (e before st).table).table (e before st).entry.columns columns targets refl (named before st all) (at before st all) (targets-at before st all)
          (columns-at before st) room (stands before st all) to Main spent)
      by-cause fault.TempFault before st all to n few cause spent see =
          begins-seen a.told (UpdateRows u) texts before (here before st all) to (device_fault Temp ∷ []) see
          (updates-failed (here before st all) texts u (has_rows all (e before st).table).table (e before st).entry.columns columns targets refl (named before st all) (at before st all) (targets-at before st all)
          (columns-at before st) room (stands before st all) to Temp spent)
      by-cause fault.MainFull before st all to n few cause spent see =
          begins-seen a.told (UpdateRows u) texts before (here before st all) to (file_full Main ∷ []) see
          (updates-full (here before st all) texts u (has_rows all (e before st).table).table (e before st).entry.columns columns targets refl (named before st all) (at before st all) (targets-at before st all)
          (columns-at before st) room (stands before st all) to (let full = cause.0 in omega (arith, full, few)) spent)
      by-cause fault.TempFull before st all to n few cause spent see =
          begins-seen a.told (UpdateRows u) texts before (here before st all) to (file_full Temp ∷ []) see
          (updates-over (here before st all) texts u (has_rows all (e before st).table).table (e before st).entry.columns columns targets refl (named before st all) (at before st all) (targets-at before st all)
          (columns-at before st) room (stands before st all) to (let full = cause.0 in omega (arith, full, few)) spent)
      by-cause (fault.Damaged page check) before st all to n few cause spent see =
          begins-damaged-seen a.told (UpdateRows u) texts before (here before st all) to Main page check [] cause refl see
          (updates-failed (here before st all) texts u (has_rows all (e before st).table).table (e before st).entry.columns columns targets refl (named before st all) (at before st all) (targets-at before st all)
          (columns-at before st) room (stands before st all) to Main spent)

-- ---- an UPDATE that writes nothing

module _ (s : Space) (old new : Tables) (u : UpdateTree) (texts : List ℕ) (idle : old.is_open ≡ false) (still : new.is_open ≡ old.is_open) (max : new.max ≡ old.max) (mpl : new.mpl ≡ old.mpl)
    (catalog : new.catalog ≡ old.catalog) (stamps : new.stamps ≡ old.stamps) where
  unmade : (r : Refusal) → ((tables : List TableState) → map rowless tables ≡ map table_of old.catalog.tables → update_cause (last old.stamps) (tables_in tables) u ≡ Some r)
      → StepsTo s s old new (BeginsSo s.told (UpdateRows u) texts) (refusal_line r ∷ [])
  unmade r cause = record {
    to = λ before st. (
      before,
      unmoved s old new idle still max mpl catalog stamps before st,
      begins-same s.told (UpdateRows u) texts before before (refusal_line r ∷ [])
          (subst (λ b. UpdatesRows b texts u (refusal_line r ∷ []) b) (sym (resting-here s old idle before st)) (updates-unmade _ texts u r (cause st.tables st.stand.shape))),
    );
  }

  -- its statement was refused
  pub update-misfit : (r : Refusal) → update_refusal (tables_of old.catalog) u ≡ Some r → StepsTo s s old new (BeginsSo s.told (UpdateRows u) texts) (refusal_line r ∷ [])
  update-misfit r why = unmade r (λ tables shape. cause-of-refusal (last old.stamps) (tables_in tables) u r (refusal-same old.catalog tables u shape ∙ why))

  -- no stamp was left
  pub update-late : update_refusal (tables_of old.catalog) u ≡ None → last old.stamps ≡ 2 ^ 20
      → StepsTo s s old new (BeginsSo s.told (UpdateRows u) texts) (refusal_line StampsUsedUp ∷ [])
  update-late stands all = unmade StampsUsedUp (λ tables shape. cause-of-stamps (last old.stamps) (tables_in tables) u (refusal-same old.catalog tables u shape ∙ stands) all)

-- ---- what the call on the table leaves, and which damage it finds

module _ (a b : Space) (old : Tables) (u : UpdateTree) (goes : List Value → Bool) (marks : ℕ → Bool) (k stamp : ℕ) (state : State) (st : TablesAre a old state) (inside : k < length old.catalog.tables) where
  pub here-at : FoundAt a old.stamps old.catalog.tables st.tables st.pages k
  here-at = found-at a old.stamps old.catalog.tables st.tables st.pages k st.stand inside

  pub grown-same : (c : Ends) (now : List ℕ) (n : ℕ) → Grows a b c (st.pages k) now n → IsSameSpace a b
  grown-same c now n grows = same-space (table_mine a (st.pages k)) a b grows.steady

  pub updated-same : (now : Contents) (change : List Value → List Value) (n : ℕ) → ((c : CatalogTable) → slice_get old.catalog.tables k ≡ Some c → (pages : List ℕ) → IsChain a c.pages pages
      → UpdatesTable a b old.catalog now k pages marks stamp goes change n c) → IsSameSpace a b
  updated-same now change n updates = let some = updates here-at.entry here-at.at_entry (st.pages k) here-at.stands.chain in grown-same some.after some.updates.now n some.updates.grows

  pub refused-same : (change : List Value → List Value) (code : ℕ) (column : Option ℕ) → ((c : CatalogTable) → slice_get old.catalog.tables k ≡ Some c → (pages : List ℕ) → IsChain a c.pages pages
      → UpdateIsRefused a b c.pages pages c.columns marks (stamp - 1) stamp goes change code column) → IsSameSpace a b
  refused-same change code column refuses = grown-same here-at.entry.pages (st.pages k) 0 (refuses here-at.entry here-at.at_entry (st.pages k) here-at.stands.chain).grows

  -- the cause that is told
  pub refused-one : (change : List Value → List Value) (code : ℕ) (column : Option ℕ) → (refuses : (c : CatalogTable) → slice_get old.catalog.tables k ≡ Some c → (pages : List ℕ) → IsChain a c.pages pages
      → UpdateIsRefused a b c.pages pages c.columns marks (stamp - 1) stamp goes change code column)
      → (r : Refusal) × Tells here-at.entry.columns code column r
      × ((c : CatalogTable) (found : slice_get old.catalog.tables k ≡ Some c) (pages : List ℕ) (chain : IsChain a c.pages pages) → refusal_line (refuses c found pages chain).refusal ≡ refusal_line r)
  refused-one change code column refuses =
      let is = refuses here-at.entry here-at.at_entry (st.pages k) here-at.stands.chain in (
        is.refusal,
        is.told,
        λ c found pages chain. told-same c.columns code column (refuses c found pages chain).refusal is.refusal (refuses c found pages chain).told
            (subst (λ (w : CatalogTable). Tells w.columns code column is.refusal) (some-one here-at.entry c (sym here-at.at_entry ∙ found)) is.told),
      )

  module _ (now : Contents) (f : PageFault) (updates : (c : CatalogTable) → slice_get old.catalog.tables k ≡ Some c → (pages : List ℕ) → IsChain a c.pages pages
      → UpdatesTableSome a b old.catalog now k pages marks stamp goes f c) where
    pub some-same-space : IsSameSpace a b
    some-same-space = let some = updates here-at.entry here-at.at_entry (st.pages k) here-at.stands.chain in grown-same some.after some.updates.now (length some.updates.gone) some.updates.grows

    pub some-counted : CountedIn a b (line_of f ∷ [])
    some-counted = let some = updates here-at.entry here-at.at_entry (st.pages k) here-at.stands.chain in update-counted a b (length some.updates.gone) f some.updates.grows.steady.counts some.updates.cause

    pub some-found : table_number old.catalog u.table ≡ Some k → TellOnlyFound (UpdateFinds a old.catalog.tables u.table) (line_of f ∷ [])
    some-found number =
        let some = updates here-at.entry here-at.at_entry (st.pages k) here-at.stands.chain in
        let named : same_name here-at.entry.name u.table ≡ true =
        first-holds (λ (c : CatalogTable). same_name c.name u.table) old.catalog.tables k here-at.entry (position-first (λ (c : CatalogTable). same_name c.name u.table) old.catalog.tables k number) here-at.at_entry in
        finds f (length some.updates.gone) named some.updates.now some.updates.grows.from some.updates.cause some.updates.found
      where
        where-found : (page : PageId) (here : List ℕ) → ((x : ℕ) → has_page here x ≡ true → (has_page (st.pages k) x ≡ true) ⊎ (a.taken (key_in Main x) ≡ false))
            → ((page.file ≡ Main) × (has_page here page.no ≡ true)) ⊎ ((page.file ≡ Temp) × (a.taken (key page) ≡ false))
            → ((page.file ≡ Main) × (has_page (st.pages k) page.no ≡ true)) ⊎ (a.taken (key page) ≡ false)
        where-found page here from (inr temp) = inr temp.1
        where-found page here from (inl main) = elim (from page.no main.1) [
          | inl among ↦ inl (main.0, among)
          | inr free ↦ inr (ap (λ file. a.taken (key_in file page.no)) main.0 ∙ free)
        ]

        finds : (f : PageFault) (n : ℕ) → same_name here-at.entry.name u.table ≡ true → (here : List ℕ)
            → ((x : ℕ) → has_page here x ≡ true → (has_page (st.pages k) x ≡ true) ⊎ (a.taken (key_in Main x) ≡ false)) → UpdateFault a b n f → FindsUpdating a here f
            → TellOnlyFound (UpdateFinds a old.catalog.tables u.table) (line_of f ∷ [])
        finds fault.MainFault n named here from cause found = sound-line _ (line_of fault.MainFault) refl
        finds fault.TempFault n named here from cause found = sound-line _ (line_of fault.TempFault) refl
        finds fault.MainFull n named here from cause found = sound-line _ (line_of fault.MainFull) refl
        finds fault.TempFull n named here from cause found = sound-line _ (line_of fault.TempFull) refl
        finds (fault.Damaged page check) n named here from cause found = (
          (λ yes. (
            page,
            check,
            refl,
            record {
              untold = cause;
              table = k;
              entry = here-at.entry;
              at = here-at.at_entry;
              named = named;
              pages = st.pages k;
              chain = here-at.stands.chain;
              found = where-found page here from found.at;
              failed = found.failed;
            },
          )),
          tt,
        )
