-- An INSERT is a step of the plain machine.
use Rattle.std.specs.Prelude.{◌≡◌, ℕ, suc, ◌+◌, ◌*◌, ◌^◌, ◌≤◌, ◌<◌, Bool, true, false, List, [], ◌∷◌, ◌++◌, length, map, Some, None, is_some, not, slice_get}
use Rattle.std.specs.List.{list_all}
use Rattle.std.specs.List.Sorted.{IsPermutation}
use Rattle.std.proofs.Common.{sym, ◌∙◌, ap, subst, refl, arith, inl}
use Rattle.std.proofs.lemmas.List.Sorted.{IsPermutation-trans, IsPermutation-sym, IsPermutation-append_left}
use Rattle.hg_base.specs.Space.{Space}
use Rattle.hg_base.specs.declared.File.{File}
use Rattle.hg_base.specs.declared.File.TheVariants.{Main, Temp}
use Rattle.hg_base.specs.declared.Table.{Table as Ends}
use Rattle.hg_base.specs.declared.pages.PageFault.{PageFault}
use Rattle.hg_base.specs.declared.pages.PageFault.TheVariants as fault
use Rattle.hg_bind.specs.Bound.{table_of, tables_of}
use Rattle.hg_catalog.specs.Contents.{Contents, CatalogTable, table_number}
use Rattle.hg_dml.specs.Inserting.{PutsAll, PutsPart}
use Rattle.hg_dml.specs.Putting.{Puts, PutFault, FindsLast, table_mine}
use Rattle.hg_dml.specs.Rows.{rows_of_tuples, rows_cause}
use Rattle.hg_table.specs.Seen.{seen_rows}
use Rattle.hg_machine.specs.Plain.Changes.{refused_before, made, refused, failed, done_allowance, ended_allowance}
use Rattle.hg_machine.specs.Plain.Insert.{Inserts, insertion}
use Rattle.hg_machine.specs.Plain.Licences.{device_failed, main_is_full, both_files, Spends}
use Rattle.hg_machine.specs.Plain.Refused.{refusal_line}
use Rattle.hg_machine.specs.Plain.Replies.{rows, device_fault, file_full}
use Rattle.hg_machine.specs.Plain.State.{State, TableState, tables_of as tables_seen, is_table, with_rows, has_rows}
use Rattle.hg_model.specs.ChangeBinding.{insert_refusal, insert_targets, columns_cause, tuple_fits}
use Rattle.hg_model.specs.ChangeMeaning.{insert_cause, insert_meaning, insert_count, stamp_cause, change_of}
use Rattle.hg_model.specs.Changes.{Made, unless, insert_change, new_row, tuples_from}
use Rattle.hg_model.specs.CommandNeeds.{storing_need}
use Rattle.hg_model.specs.Creation.{uniques_of}
use Rattle.hg_model.specs.Refusal.{Refusal, StampsUsedUp, TypeMismatch, first_cause}
use Rattle.hg_model.specs.Scope.{columns_of}
use Rattle.hg_model.specs.Statements.{InsertRows, InsertTree}
use Rattle.hg_model.specs.Tables.{Table, table_named, same_name}
use Rattle.hg_model.specs.declared.trees.Column.{Column}
use Rattle.hg_model.specs.declared.trees.Literal.{Literal}
use Rattle.hg_model.specs.declared.values.Value.{Value}
use Rattle.hg_reply.specs.Steps.{BeginsSo, TellOnlyFound}
use Rattle.hg_table.specs.Marks.{last, committed, Draws, Commits}
use Rattle.hg_engine.specs.Standing.{TableStands, HasRows, nothing_left, state_of, rowless}
use Rattle.hg_engine.specs.Stepping.{TablesAre, StepsTo, CountedIn, IsSameSpace, InsertFinds, line_of}
use Rattle.hg_engine.specs.Steps.{MaySee}
use Rattle.hg_engine.specs.declared.tables.Tables.{Tables}
use Rattle.hg_engine.proofs.Lookups.{FirstAt, tables_in, columns-same, some-same, get-set-here, pages-set, named-first, number-first, position-first, first-holds}
use Rattle.hg_engine.proofs.StandLaws.{IsLater, FoundAt, found-at, with_ends, rows-later, pages_with, tables-then, same-count}
use Rattle.hg_engine.proofs.CreateLaws.{begins-same, begins-seen, begins-damaged-seen, kept, no-work}
use Rattle.hg_engine.proofs.ChangeLaws.{ShowsNow, later-drawn, later-committed, hidden-drawn, one-more, one-more-committed, stamps-left, stamps-gone, length-mapped, spends, shape-at, set-same, stands-with, there, seen, sees, named-seen, shape-seen, columns-there, after, stands-after, spent-made, spent-kept, unmoved, resting-here}
use Rattle.hg_engine.proofs.Saying.{same-space, put-counted, sound-line}

-- ---- what the table shows

module _ (a b : Space) (old new : List Bool) (c : CatalogTable) (t : TableState) (mine : List ℕ) (ends : Ends) (stamp : ℕ) (added : List (List Value))
    (later : IsLater old new) (drawn : stamp ≤ last new) (p : Puts a b c.pages ends mine stamp c.columns added) (stands : TableStands a old c t mine) where
  -- once the stamp is committed: the rows that were put, too
  pub shows-put : committed new stamp ≡ true → b.told ≡ true → ShowsNow b new ends c.columns p.now (t.table.rows ++ added) t.versions (length added)
  shows-put shown told =
      let h : HasRows a new c t mine = rows-later a old new c t mine later (stands.rows (sym p.grows.steady.told ∙ told)) in
      let grown = p.joined h.versions h.table in
      let before : List (List Value) = seen_rows (committed new) (last new) h.versions in
      let now : List (List Value) = seen_rows (committed new) (last new) grown.0 in
      record {
        versions = grown.0;
        table = grown.1;
        past = grown.2.past (last new) drawn h.past;
        seen = IsPermutation-trans (t.table.rows ++ added) (before ++ added) now (IsPermutation-append_left added t.table.rows before h.seen)
            (IsPermutation-sym now (before ++ added) (grown.2.seen (committed new) (last new) shown drawn));
        more = let k = grown.2.count in let z = h.count in omega arith;
        few = let k = grown.2.count in let z = h.count in omega arith;
      }

  -- where it is not
  pub shows-some-put : committed new stamp ≡ false → b.told ≡ true → ShowsNow b new ends c.columns p.now t.table.rows t.versions (length added)
  shows-some-put hidden told =
      let h : HasRows a new c t mine = rows-later a old new c t mine later (stands.rows (sym p.grows.steady.told ∙ told)) in
      let grown = p.joined h.versions h.table in
      record {
        versions = grown.0;
        table = grown.1;
        past = grown.2.past (last new) drawn h.past;
        seen = subst (IsPermutation t.table.rows) (sym (grown.2.unseen (committed new) (last new) (inl hidden))) h.seen;
        more = let k = grown.2.count in let z = h.count in omega arith;
        few = let k = grown.2.count in let z = h.count in omega arith;
      }

-- ---- what stands against an INSERT

-- the refusal is that of the catalog's tables
pub refusal-same : (c : Contents) (tables : List TableState) (i : InsertTree) → map rowless tables ≡ map table_of c.tables
    → insert_refusal (tables_in tables) i ≡ insert_refusal (tables_of c) i
unfolding insert_refusal
refusal-same c tables i shape =
    let there : is_some (table_named (tables_in tables) i.table) ≡ is_some (table_named (tables_of c) i.table) = some-same c tables shape i.table in
    let cols : columns_of (table_named (tables_in tables) i.table) ≡ columns_of (table_named (tables_of c) i.table) = columns-same c tables shape i.table in
    λ j. first_cause
    (Rattle.hg_model.specs.Binding.cause_if (not (there j)) (Rattle.hg_model.specs.Refusal.UnknownTable i.table)
    ∷ first_cause (columns_cause (cols j) [] i.columns)
    ∷ Rattle.hg_model.specs.Binding.cause_if (not (list_all (tuple_fits (cols j) (insert_targets (cols j) i.columns)) (tuples_from 0 i.ends i.values))) TypeMismatch
    ∷ [])

pub cause-of-refusal : (given : ℕ) (tables : List Table) (i : InsertTree) (r : Refusal) → insert_refusal tables i ≡ Some r → insert_cause given tables i ≡ Some r
unfolding first_cause
cause-of-refusal given tables i r e = ap (λ o. first_cause (o ∷ stamp_cause given ∷ [])) e

pub cause-of-stamps : (given : ℕ) (tables : List Table) (i : InsertTree) → insert_refusal tables i ≡ None → given ≡ 2 ^ 20 → insert_cause given tables i ≡ Some StampsUsedUp
unfolding first_cause
cause-of-stamps given tables i e all = λ j. first_cause (e j ∷ stamps-gone given all j ∷ [])

pub cause-none : (given : ℕ) (tables : List Table) (i : InsertTree) → insert_refusal tables i ≡ None → given < 2 ^ 20 → insert_cause given tables i ≡ None
unfolding first_cause
cause-none given tables i e few = λ j. first_cause (e j ∷ stamps-left given few j ∷ [])

-- ---- the change

length-tuples : (from : ℕ) (ends : List ℕ) (values : List Literal) → length (tuples_from from ends values) ≡ length ends
length-tuples from [] values = refl
length-tuples from (e ∷ es) values = ap suc (length-tuples e es values)

pub count-rows : (texts : List ℕ) (columns : List Column) (targets : List ℕ) (values : List Literal) (ends : List ℕ)
    → length (rows_of_tuples texts columns targets values ends) ≡ length ends
count-rows texts columns targets values ends = length-mapped (new_row texts (length columns) targets) (tuples_from 0 ends values) ∙ length-tuples 0 ends values

module _ (state : State) (texts : List ℕ) (i : InsertTree) (t : Table) (none : state.indexes ≡ []) (named : table_named (tables_seen state) i.table ≡ Some t) where
  abbrev made_rows : List (List Value)
  made_rows = rows_of_tuples texts t.columns (insert_targets t.columns i.columns) i.values i.ends

  change-is : insert_cause state.stamps (tables_seen state) i ≡ None
      → (insertion state texts i).change ≡ unless (rows_cause t.columns made_rows) (Made (t.rows ++ made_rows) (length made_rows))
  unfolding insertion insert_meaning insert_change
  change-is cause =
      (λ j. unless (cause j) (change_of (named j) (λ u. insert_change texts u (uniques_of (none j) i.table) (insert_targets u.columns i.columns) i)))

  cause-is : (insertion state texts i).cause ≡ insert_cause state.stamps (tables_seen state) i
  unfolding insertion
  cause-is = refl

  need-is : (insertion state texts i).need.main ≡ insert_count i + 22 * insert_count i * 0
  unfolding insertion
  need-is = ap (λ l. (storing_need (insert_count i) (Rattle.hg_model.specs.CommandNeeds.index_count l i.table)).main) none

  asks-is : (insertion state texts i).asks ≡ both_files
  unfolding insertion
  asks-is = refl

  versions-is : (insertion state texts i).versions ≡ insert_count i
  unfolding insertion
  versions-is = refl

  table-is : (insertion state texts i).table ≡ i.table
  unfolding insertion
  table-is = refl

  needs-enough : insert_count i ≤ (insertion state texts i).need.main
  needs-enough = let e = need-is in omega arith

  needs-no-more : (insertion state texts i).need.main ≤ insert_count i
  needs-no-more = let e = need-is in omega arith

  -- the three ways of an INSERT whose statement stands
  module _ (few : state.stamps < 2 ^ 20) (stands : insert_refusal (tables_seen state) i ≡ None) where
    begun : insert_cause state.stamps (tables_seen state) i ≡ None
    begun = cause-none state.stamps (tables_seen state) i stands few

    pub inserts-made : (new : State) → rows_cause t.columns made_rows ≡ None
        → Spends (done_allowance (insertion state texts i)) i.table (with_rows state i.table (t.rows ++ made_rows)) new
        → Inserts state texts i (rows (length made_rows) ∷ []) new
    unfolding insertion
    inserts-made new none_against spent =
        made (t.rows ++ made_rows) (length made_rows) begun (change-is begun ∙ ap (λ o. unless o (Made (t.rows ++ made_rows) (length made_rows))) none_against) refl spent

    pub inserts-refused : (new : State) (r : Refusal) → rows_cause t.columns made_rows ≡ Some r
        → Spends (done_allowance (insertion state texts i)) i.table state new → Inserts state texts i (refusal_line r ∷ []) new
    unfolding insertion
    inserts-refused new r against spent =
        refused r begun (change-is begun ∙ ap (λ o. unless o (Made (t.rows ++ made_rows) (length made_rows))) against) refl spent

    pub inserts-failed : (new : State) (f : File) → Spends (ended_allowance (insertion state texts i)) i.table state new
        → Inserts state texts i (device_fault f ∷ []) new
    unfolding insertion
    inserts-failed new f spent = failed (device_fault f) begun (device_failed f refl) refl spent

    inserts-over : (new : State) → state.main_limit < state.used + (insertion state texts i).need.main → Spends (ended_allowance (insertion state texts i)) i.table state new
        → Inserts state texts i (file_full Main ∷ []) new
    unfolding insertion
    inserts-over new full spent = failed (file_full Main) begun (main_is_full refl full refl) refl spent

    pub inserts-full : (new : State) → state.main_limit < state.used + insert_count i → Spends (ended_allowance (insertion state texts i)) i.table state new
        → Inserts state texts i (file_full Main ∷ []) new
    inserts-full new full spent = inserts-over new (let e = needs-enough in omega (arith, e, full)) spent

-- an INSERT that is refused before its stamp
pub inserts-unmade : (state : State) (texts : List ℕ) (i : InsertTree) (r : Refusal) → insert_cause state.stamps (tables_seen state) i ≡ Some r
    → Inserts state texts i (refusal_line r ∷ []) state
unfolding insertion
inserts-unmade state texts i r cause = refused_before r cause refl refl

-- ---- the step

module _ (a b : Space) (old new : Tables) (i : InsertTree) (texts targets : List ℕ) (k stamp : ℕ) (mid : List Bool)
    (idle : old.is_open ≡ false) (still : new.is_open ≡ old.is_open) (max : new.max ≡ old.max) (mpl : new.mpl ≡ old.mpl)
    (number : table_number old.catalog i.table ≡ Some k) (inside : k < length old.catalog.tables)
    (unrefused : insert_refusal (tables_of old.catalog) i ≡ None)
    (targets_are : targets ≡ insert_targets (columns_of (table_named (tables_of old.catalog) i.table)) i.columns)
    (draws : Draws old.stamps mid stamp) (room : last old.stamps < 2 ^ 20) where
  -- what is known of the state before
  module _ (before : State) (st : TablesAre a old before) where
    abbrev e : FoundAt a old.stamps old.catalog.tables st.tables st.pages k
    e = there a b old new i.table k idle still max mpl number inside before st

    abbrev own : List (List Value)
    own = e.table.table.rows

    abbrev here : State
    here = seen a b old new i.table k idle still max mpl number inside before st own

    abbrev t : Table
    t = (has_rows own e.table).table

    sees-own : MaySee a.told before here
    sees-own = sees a b old new i.table k idle still max mpl number inside before st own (λ told. refl)

    shape : map rowless here.tables ≡ map table_of old.catalog.tables
    shape = shape-seen a b old new i.table k idle still max mpl number inside before st own

    named : table_named (tables_seen here) i.table ≡ Some t
    named = named-seen a b old new i.table k idle still max mpl number inside before st own

    unrefused-here : insert_refusal (tables_seen here) i ≡ None
    unrefused-here = refusal-same old.catalog here.tables i shape ∙ unrefused

    same-columns : e.entry.columns ≡ t.columns
    same-columns = columns-there a b old new i.table k idle still max mpl number inside before st

    same-targets : targets ≡ insert_targets t.columns i.columns
    same-targets = targets_are ∙ ap (λ cs. insert_targets cs i.columns) (sym (columns-same old.catalog here.tables shape i.table) ∙ ap columns_of named)

    abbrev added : List (List Value)
    added = rows_of_tuples texts e.entry.columns targets i.values i.ends

    same-rows : added ≡ rows_of_tuples texts t.columns (insert_targets t.columns i.columns) i.values i.ends
    same-rows = λ j. rows_of_tuples texts (same-columns j) (same-targets j) i.values i.ends

    count-added : length added ≡ length i.ends
    count-added = count-rows texts e.entry.columns targets i.values i.ends

  -- all rows were put
  pub insert-done : ((c : CatalogTable) → slice_get old.catalog.tables k ≡ Some c → PutsAll a b old.catalog new.catalog k stamp texts targets i.values i.ends c)
      → Commits mid new.stamps stamp → StepsTo a b old new (BeginsSo a.told (InsertRows i) texts) (rows (length i.ends) ∷ [])
  insert-done puts commits = record {
    to = λ before st.
        let f = e before st in
        let all = puts f.entry f.at_entry in
        let p = all.puts (st.pages k) f.stands.chain in
        let later = later-committed old.stamps mid new.stamps stamp draws commits in
        let drawn : stamp ≤ last new.stamps = let x = draws.drawn in let l = commits.last in omega arith in
        let one = one-more-committed old.stamps mid new.stamps stamp draws commits in
        let count = count-added before st in
        let more : List (List Value) = added before st in
        let n = length more in
        let joined : List (List Value) = own before st ++ more in
        let w = stands-with b new.stamps f.entry all.after f.table joined p.now n p.grows.chain (shows-put a b old.stamps new.stamps f.entry f.table (st.pages k) all.after stamp more later drawn p f.stands commits.here) in
        let was : State = here before st in
        let table : Table = t before st in
        let to : State = after a b old new i.table k idle still max mpl number inside before st all.after joined p.now new.stamps n n p.grows later one w all.moves.tables refl in
        let made' = inserts-made was texts i table refl (named before st) room (unrefused-here before st) to
        (subst (λ l. rows_cause table.columns l ≡ None) (same-rows before st) (subst (λ cs. rows_cause cs more ≡ None) (same-columns before st) all.no_cause))
        (subst (λ l. Spends (done_allowance (insertion was texts i)) i.table (with_rows was i.table (table.rows ++ l)) to) (same-rows before st)
        (spent-made a b old new i.table k idle still max mpl number inside before st all.after joined p.now new.stamps n n p.grows later one w all.moves.tables refl
        (own before st) (insertion was texts i).need.main 0 (insertion was texts i).versions
        (let x = needs-enough was texts i table refl (named before st) in omega (arith, x, count))
        (let x = versions-is was texts i table refl (named before st) in omega (arith, x, count)))) in
        let counted : length (rows_of_tuples texts table.columns (insert_targets table.columns i.columns) i.values i.ends) ≡ length i.ends =
        count-rows texts table.columns (insert_targets table.columns i.columns) i.values i.ends in (
          to,
          stands-after a b old new i.table k idle still max mpl number inside before st all.after joined p.now new.stamps n n p.grows later one w all.moves.tables refl,
          begins-seen a.told (InsertRows i) texts before was to (rows (length i.ends) ∷ []) (sees-own before st) (subst (λ m. Inserts was texts i (rows m ∷ []) to) counted made'),
        );
  }

  -- nothing stood against the rows, but not all could be put
  pub insert-faulted : (f : PageFault) → ((c : CatalogTable) → slice_get old.catalog.tables k ≡ Some c → PutsPart a b old.catalog new.catalog k stamp texts targets i.values i.ends f c)
      → new.stamps ≡ mid → StepsTo a b old new (BeginsSo a.told (InsertRows i) texts) (line_of f ∷ [])
  insert-faulted f puts uncommitted = record {
    to = λ before st.
        let x = e before st in
        let some = puts x.entry x.at_entry in
        let p = some.puts (st.pages k) x.stands.chain in
        let later = later-drawn old.stamps mid stamp draws in
        let drawn : stamp ≤ last mid = let d = draws.drawn in omega arith in
        let one = one-more old.stamps mid stamp draws in
        let count = count-added before st in
        let n = length p.done in
        let w = stands-with b mid x.entry some.after x.table (own before st) p.puts.now n p.puts.grows.chain
        (shows-some-put a b old.stamps mid x.entry x.table (st.pages k) some.after stamp p.done later drawn p.puts x.stands (hidden-drawn old.stamps mid stamp draws)) in
        let few : n ≤ length i.ends = let less = p.few in omega (arith, count, less) in
        let was : State = here before st in
        let to : State = after a b old new i.table k idle still max mpl number inside before st some.after (own before st) p.puts.now mid n n p.puts.grows later one w some.moves.tables uncommitted in
        let spent : Spends (ended_allowance (insertion was texts i)) i.table was to =
        spent-kept a b old new i.table k idle still max mpl number inside before st some.after (own before st) p.puts.now mid n n p.puts.grows later one w some.moves.tables uncommitted
        (insertion was texts i).need.main (insertion was texts i).need.temp (insertion was texts i).versions
        (let m = needs-enough was texts i (t before st) refl (named before st) in omega (arith, m, few))
        (let m = versions-is was texts i (t before st) refl (named before st) in omega (arith, m, few)) in (
          to,
          stands-after a b old new i.table k idle still max mpl number inside before st some.after (own before st) p.puts.now mid n n p.puts.grows later one w some.moves.tables uncommitted,
          by-cause f before st to (length (added before st)) count p.cause spent,
        );
  }
    where
      by-cause : (f : PageFault) (before : State) (st : TablesAre a old before) (to : State) (n : ℕ) → n ≡ length i.ends → PutFault a b n f
          → Spends (ended_allowance (insertion (here before st) texts i)) i.table (here before st) to → BeginsSo a.told (InsertRows i) texts before (line_of f ∷ []) to
      by-cause fault.MainFault before st to n same cause spent =
          begins-seen a.told (InsertRows i) texts before (here before st) to (device_fault Main ∷ []) (sees-own before st)
          (inserts-failed (here before st) texts i (t before st) refl (named before st) room (unrefused-here before st) to Main spent)
      by-cause fault.TempFault before st to n same cause spent =
          begins-seen a.told (InsertRows i) texts before (here before st) to (device_fault Temp ∷ []) (sees-own before st)
          (inserts-failed (here before st) texts i (t before st) refl (named before st) room (unrefused-here before st) to Temp spent)
      by-cause fault.MainFull before st to n same cause spent =
          begins-seen a.told (InsertRows i) texts before (here before st) to (file_full Main ∷ []) (sees-own before st)
          (inserts-full (here before st) texts i (t before st) refl (named before st) room (unrefused-here before st) to
          (let full = cause.0 in omega (arith, full, same)) spent)
      by-cause fault.TempFull before st to n same cause spent = absurd cause
      by-cause (fault.Damaged page check) before st to n same cause spent =
          begins-damaged-seen a.told (InsertRows i) texts before (here before st) to Main page check [] cause refl (sees-own before st)
          (inserts-failed (here before st) texts i (t before st) refl (named before st) room (unrefused-here before st) to Main spent)

-- ---- an INSERT that writes nothing

module _ (s : Space) (old new : Tables) (i : InsertTree) (texts : List ℕ) (idle : old.is_open ≡ false) (still : new.is_open ≡ old.is_open) (max : new.max ≡ old.max) (mpl : new.mpl ≡ old.mpl)
    (catalog : new.catalog ≡ old.catalog) (stamps : new.stamps ≡ old.stamps) where
  unmade : (r : Refusal) → ((tables : List TableState) → map rowless tables ≡ map table_of old.catalog.tables → insert_cause (last old.stamps) (tables_in tables) i ≡ Some r)
      → StepsTo s s old new (BeginsSo s.told (InsertRows i) texts) (refusal_line r ∷ [])
  unmade r cause = record {
    to = λ before st. (
      before,
      unmoved s old new idle still max mpl catalog stamps before st,
      begins-same s.told (InsertRows i) texts before before (refusal_line r ∷ [])
          (subst (λ b. Inserts b texts i (refusal_line r ∷ []) b) (sym (resting-here s old idle before st)) (inserts-unmade _ texts i r (cause st.tables st.stand.shape))),
    );
  }

  -- its statement was refused
  pub insert-misfit : (r : Refusal) → insert_refusal (tables_of old.catalog) i ≡ Some r → StepsTo s s old new (BeginsSo s.told (InsertRows i) texts) (refusal_line r ∷ [])
  insert-misfit r why = unmade r (λ tables shape. cause-of-refusal (last old.stamps) (tables_in tables) i r (refusal-same old.catalog tables i shape ∙ why))

  -- no stamp was left
  pub insert-late : insert_refusal (tables_of old.catalog) i ≡ None → last old.stamps ≡ 2 ^ 20
      → StepsTo s s old new (BeginsSo s.told (InsertRows i) texts) (refusal_line StampsUsedUp ∷ [])
  insert-late stands all = unmade StampsUsedUp (λ tables shape. cause-of-stamps (last old.stamps) (tables_in tables) i (refusal-same old.catalog tables i shape ∙ stands) all)

module _ (s : Space) (old new : Tables) (i : InsertTree) (texts targets : List ℕ) (k stamp : ℕ)
    (idle : old.is_open ≡ false) (still : new.is_open ≡ old.is_open) (max : new.max ≡ old.max) (mpl : new.mpl ≡ old.mpl) (catalog : new.catalog ≡ old.catalog)
    (number : table_number old.catalog i.table ≡ Some k) (inside : k < length old.catalog.tables)
    (unrefused : insert_refusal (tables_of old.catalog) i ≡ None)
    (targets_are : targets ≡ insert_targets (columns_of (table_named (tables_of old.catalog) i.table)) i.columns)
    (draws : Draws old.stamps new.stamps stamp) (room : last old.stamps < 2 ^ 20) where
  -- something stands against the rows
  pub insert-against : (r : Refusal) → ((c : CatalogTable) → slice_get old.catalog.tables k ≡ Some c
      → rows_cause c.columns (rows_of_tuples texts c.columns targets i.values i.ends) ≡ Some r)
      → StepsTo s s old new (BeginsSo s.told (InsertRows i) texts) (refusal_line r ∷ [])
  insert-against r against = record {
    to = λ before st.
        let e = found-at s old.stamps old.catalog.tables st.tables st.pages k st.stand inside in
        let here : State = state_of s old.max old.mpl old.stamps None st.tables st.left in
        let here_is : before ≡ here = st.is ∙ ap (λ c. state_of s old.max old.mpl old.stamps c st.tables st.left) (no-work old.is_open old.open idle) in
        let first : FirstAt (is_table i.table) st.tables k = number-first old.catalog st.tables i.table k st.stand.shape number in
        let named : table_named (tables_in st.tables) i.table ≡ Some e.table.table = named-first st.tables i.table k e.table first e.at_table in
        let stands : insert_refusal (tables_in st.tables) i ≡ None = refusal-same old.catalog st.tables i st.stand.shape ∙ unrefused in
        let cols : e.entry.columns ≡ e.table.table.columns = sym (ap (λ (w : Table). w.columns) (shape-at old.catalog.tables st.tables k e.entry e.table st.stand.shape e.at_entry e.at_table)) in
        let goals : targets ≡ insert_targets e.table.table.columns i.columns =
        targets_are ∙ ap (λ cs. insert_targets cs i.columns) (sym (columns-same old.catalog st.tables st.stand.shape i.table) ∙ ap columns_of named) in
        let later : IsLater old.stamps new.stamps = later-drawn old.stamps new.stamps stamp draws in
        let one : last new.stamps ≡ last old.stamps + 1 = let x = draws.next in let d = draws.drawn in omega arith in
        let after : State = state_of s old.max old.mpl new.stamps None st.tables nothing_left in
        let cause : rows_cause e.table.table.columns (rows_of_tuples texts e.table.table.columns (insert_targets e.table.table.columns i.columns) i.values i.ends) ≡ Some r =
        (λ j. rows_cause (sym cols j) (rows_of_tuples texts (sym cols j) (sym goals j) i.values i.ends)) ∙ against e.entry e.at_entry in
        let P : List TableState → Type 0 = λ l. Spends (done_allowance (insertion here texts i)) i.table here (state_of s old.max old.mpl new.stamps None l nothing_left) in
        let spent : P st.tables = subst P (set-same st.tables k e.table e.at_table)
        (spends s s old.max old.mpl old.stamps new.stamps st.tables st.left k e.table i.table e.table.versions first e.at_table refl refl refl one
        (insertion here texts i).need.main 0 (insertion here texts i).versions (omega arith) (omega arith) (omega arith) (omega arith)) in (
          after,
          kept s new None after old.max old.mpl old.catalog new.stamps catalog refl (no-work new.is_open new.open (still ∙ idle)) max mpl (record {
            pins = st.pins;
            none_lent = st.none_lent;
            most = st.most;
            some_may = st.some_may;
            few_temp = st.few_temp;
            no_indexes = st.no_indexes;
            tables = st.tables;
            pages = st.pages;
            stand = Rattle.hg_engine.proofs.StandLaws.tables-later s old.stamps new.stamps old.catalog.tables st.tables st.pages later st.stand;
            left = nothing_left;
            stands = tt;
            is = refl;
          }),
          begins-same s.told (InsertRows i) texts before after (refusal_line r ∷ [])
              (subst (λ b. Inserts b texts i (refusal_line r ∷ []) after) (sym here_is) (inserts-refused here texts i e.table.table refl named room stands after r cause spent)),
        );
  }

-- ---- what the call on the table asks, what it leaves, and which damage it finds

module _ (a b : Space) (old : Tables) (now : Contents) (i : InsertTree) (texts targets : List ℕ) (k stamp : ℕ) (state : State) (st : TablesAre a old state) (inside : k < length old.catalog.tables) where
  here-at : FoundAt a old.stamps old.catalog.tables st.tables st.pages k
  here-at = found-at a old.stamps old.catalog.tables st.tables st.pages k st.stand inside

  pub done-same : ((c : CatalogTable) → slice_get old.catalog.tables k ≡ Some c → PutsAll a b old.catalog now k stamp texts targets i.values i.ends c) → IsSameSpace a b
  done-same puts =
      let p = (puts here-at.entry here-at.at_entry).puts (st.pages k) here-at.stands.chain in
      same-space (table_mine a (st.pages k)) a b p.grows.steady

  pub part-same : (f : PageFault) → ((c : CatalogTable) → slice_get old.catalog.tables k ≡ Some c → PutsPart a b old.catalog now k stamp texts targets i.values i.ends f c) → IsSameSpace a b
  part-same f puts =
      let p = (puts here-at.entry here-at.at_entry).puts (st.pages k) here-at.stands.chain in
      same-space (table_mine a (st.pages k)) a b p.puts.grows.steady

  pub part-counted : (f : PageFault) → ((c : CatalogTable) → slice_get old.catalog.tables k ≡ Some c → PutsPart a b old.catalog now k stamp texts targets i.values i.ends f c)
      → CountedIn a b (line_of f ∷ [])
  part-counted f puts =
      let p = (puts here-at.entry here-at.at_entry).puts (st.pages k) here-at.stands.chain in
      put-counted a b _ f p.puts.grows.steady.counts p.cause

  finds : (f : PageFault) (n : ℕ) (c : CatalogTable) → slice_get now.tables k ≡ Some c → same_name c.name i.table ≡ true → PutFault a b n f → FindsLast c.pages.last f
      → TellOnlyFound (InsertFinds a now.tables i.table) (line_of f ∷ [])
  finds fault.MainFault n c at named cause found = sound-line _ (line_of fault.MainFault) refl
  finds fault.TempFault n c at named cause found = sound-line _ (line_of fault.TempFault) refl
  finds fault.MainFull n c at named cause found = sound-line _ (line_of fault.MainFull) refl
  finds fault.TempFull n c at named cause found = sound-line _ (line_of fault.TempFull) refl
  finds (fault.Damaged page check) n c at named cause found =
      ((λ yes. (page, check, refl, record { untold = cause; table = k; entry = c; at = at; named = named; last = found.0; failed = found.1 })), tt)

  pub part-found : (f : PageFault) → table_number old.catalog i.table ≡ Some k
      → ((c : CatalogTable) → slice_get old.catalog.tables k ≡ Some c → PutsPart a b old.catalog now k stamp texts targets i.values i.ends f c)
      → TellOnlyFound (InsertFinds a now.tables i.table) (line_of f ∷ [])
  part-found f number puts =
      let some = puts here-at.entry here-at.at_entry in
      let p = some.puts (st.pages k) here-at.stands.chain in
      let at : slice_get now.tables k ≡ Some (with_ends here-at.entry some.after) =
      ap (λ (c : Contents). slice_get c.tables k) some.moves.tables ∙ ap (λ l. slice_get l k) (pages-set old.catalog.tables k here-at.entry some.after here-at.at_entry)
      ∙ get-set-here old.catalog.tables k (with_ends here-at.entry some.after) inside in
      let named : same_name here-at.entry.name i.table ≡ true =
      first-holds (λ (c : CatalogTable). same_name c.name i.table) old.catalog.tables k here-at.entry (position-first (λ (c : CatalogTable). same_name c.name i.table) old.catalog.tables k number) here-at.at_entry in
      finds f _ (with_ends here-at.entry some.after) at named p.cause p.found
