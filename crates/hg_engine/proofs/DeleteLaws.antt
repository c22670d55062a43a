-- A DELETE is a step of the plain machine.
use Rattle.std.specs.Prelude.{◌≡◌, ℕ, ◌-◌, ◌^◌, ◌<◌, Bool, true, false, List, [], ◌∷◌, length, map, Some, None, is_some, not, ◌&&◌, slice_get}
use Rattle.std.specs.List.{filter, count_by, list_any}
use Rattle.std.specs.List.Sorted.{IsPermutation}
use Rattle.std.proofs.Common.{sym, ◌∙◌, ap, subst, refl, arith}
use Rattle.std.proofs.lemmas.List.Sorted.{length_permutation}
use Rattle.std.proofs.lemmas.List.Sums.{length-filter}
use Rattle.hg_base.specs.Space.{Space}
use Rattle.hg_base.specs.declared.File.{File}
use Rattle.hg_base.specs.declared.File.TheVariants.{Main, Temp}
use Rattle.hg_base.specs.declared.pages.PageFault.{PageFault}
use Rattle.hg_base.specs.declared.pages.PageFault.TheVariants as fault
use Rattle.hg_bind.specs.Bound.{table_of, tables_of, numbers_of, row_places}
use Rattle.hg_catalog.specs.Contents.{Contents, CatalogTable, table_number}
use Rattle.hg_dml.specs.Deleting.{Deletes, DeletesSome, WalkFault, pages_mine}
use Rattle.hg_dml.specs.Filtering.{IsFilter, row_passes}
use Rattle.hg_table.specs.Seen.{seen_rows}
use Rattle.hg_table.specs.SeenLaws.{past-later}
use Rattle.hg_exec.proofs.PlannedBags.{filter-moved}
use Rattle.hg_machine.specs.Plain.Changes.{refused_before, made, failed}
use Rattle.hg_machine.specs.Plain.Delete.{Deletes as DeletesRows, deletion}
use Rattle.hg_machine.specs.Plain.Licences.{device_failed, Spends}
use Rattle.hg_machine.specs.Plain.Refused.{refusal_line}
use Rattle.hg_machine.specs.Plain.Replies.{rows, device_fault}
use Rattle.hg_machine.specs.Plain.State.{State, TableState, tables_of as tables_seen, with_rows}
use Rattle.hg_model.specs.Binding.{cause_if}
use Rattle.hg_model.specs.ChangeBinding.{delete_refusal, node_name_cause, change_kinds, change_positions, filter_fits}
use Rattle.hg_model.specs.ChangeMeaning.{delete_cause, delete_meaning, delete_positions, stamp_cause, change_of}
use Rattle.hg_model.specs.Changes.{Made, unless, delete_change, delete_passes}
use Rattle.hg_model.specs.Refusal.{Refusal, StampsUsedUp, UnknownTable, TypeMismatch, TooWide, NotGrouped, first_cause}
use Rattle.hg_model.specs.Scope.{columns_of, columns_from}
use Rattle.hg_model.specs.SelectMeaning.{is_aggregate}
use Rattle.hg_model.specs.Statements.{DeleteRows, DeleteTree}
use Rattle.hg_model.specs.Tables.{Table, table_named, same_name}
use Rattle.hg_model.specs.Types.{all_well_typed, all_narrow}
use Rattle.hg_model.specs.declared.values.Value.{Value}
use Rattle.hg_plan.specs.ReadLaws.{IsReadDelete, ReadDeletesFit}
use Rattle.hg_reply.specs.Asked.{IsReadAs}
use Rattle.hg_reply.specs.Steps.{BeginsSo, TellOnlyFound}
use Rattle.hg_table.specs.Calls.{LookFault, IsVersionCheck, NamesOneOf}
use Rattle.hg_table.specs.Chains.{IsChain}
use Rattle.hg_table.specs.Marks.{last, committed, Draws, Commits}
use Rattle.hg_engine.specs.Standing.{TableStands, rowless}
use Rattle.hg_engine.specs.Stepping.{TablesAre, StepsTo, CountedIn, IsSameSpace, TurnFault, DeleteFinds, line_of}
use Rattle.hg_engine.specs.declared.tables.Tables.{Tables}
use Rattle.hg_engine.proofs.Lookups.{tables_in, columns-same, some-same, position-first, first-holds}
use Rattle.hg_engine.proofs.NewTables.{first-none, cause-off}
use Rattle.hg_engine.proofs.StandLaws.{FoundAt, found-at}
use Rattle.hg_engine.proofs.CreateLaws.{begins-same, begins-seen, begins-damaged-seen}
use Rattle.hg_engine.proofs.ChangeLaws.{ShowsNow, later-drawn, later-committed, one-more, one-more-committed, stamps-left, stamps-gone, grows-within, same-ends, seen-before, chosen, shows-hidden, hidden-none, stands-with, there, seen, sees, named-seen, shape-seen, after, stands-after, spent-made, spent-kept, unmoved, resting-here, not-off, length-mapped}
use Rattle.hg_engine.proofs.Saying.{same-space, look-counted, sound-line}
use Rattle.hg_engine.proofs.SelectLaws.{read-bytes}

-- ---- what stands against a DELETE

-- the refusal is that of the catalog's tables
pub refusal-same : (c : Contents) (tables : List TableState) (d : DeleteTree) → map rowless tables ≡ map table_of c.tables
    → delete_refusal (tables_in tables) d ≡ delete_refusal (tables_of c) d
unfolding delete_refusal
refusal-same c tables d shape =
    let there : is_some (table_named (tables_in tables) d.table) ≡ is_some (table_named (tables_of c) d.table) = some-same c tables shape d.table in
    let cols : columns_of (table_named (tables_in tables) d.table) ≡ columns_of (table_named (tables_of c) d.table) = columns-same c tables shape d.table in
    λ j. first_cause
    (cause_if (not (there j)) (UnknownTable d.table)
    ∷ first_cause (map (node_name_cause (columns_from 0 d.table 0 (cols j))) d.nodes)
    ∷ cause_if (not (all_well_typed d.nodes (change_kinds (columns_from 0 d.table 0 (cols j)) d.nodes) && filter_fits (change_kinds (columns_from 0 d.table 0 (cols j)) d.nodes) d.filter)) TypeMismatch
    ∷ cause_if (list_any is_aggregate d.nodes) NotGrouped
    ∷ cause_if (not (all_narrow d.nodes)) TooWide
    ∷ [])

pub positions-same : (c : Contents) (tables : List TableState) (d : DeleteTree) → map rowless tables ≡ map table_of c.tables
    → delete_positions (tables_in tables) d ≡ delete_positions (tables_of c) d
positions-same c tables d shape = ap (λ cs. change_positions (columns_from 0 d.table 0 cs) d.nodes) (columns-same c tables shape d.table)

cause-of-refusal : (given : ℕ) (tables : List Table) (d : DeleteTree) (r : Refusal) → delete_refusal tables d ≡ Some r → delete_cause given tables d ≡ Some r
unfolding first_cause
cause-of-refusal given tables d r e = ap (λ o. first_cause (o ∷ stamp_cause given ∷ [])) e

cause-of-stamps : (given : ℕ) (tables : List Table) (d : DeleteTree) → delete_refusal tables d ≡ None → given ≡ 2 ^ 20 → delete_cause given tables d ≡ Some StampsUsedUp
unfolding first_cause
cause-of-stamps given tables d e all = λ j. first_cause (e j ∷ stamps-gone given all j ∷ [])

cause-none : (given : ℕ) (tables : List Table) (d : DeleteTree) → delete_refusal tables d ≡ None → given < 2 ^ 20 → delete_cause given tables d ≡ None
unfolding first_cause
cause-none given tables d e few = λ j. first_cause (e j ∷ stamps-left given few j ∷ [])

-- ---- a DELETE that was read and is not refused

pub read-delete : ReadDeletesFit → (max : ℕ) (d : DeleteTree) (texts : List ℕ) → IsReadAs max (DeleteRows d) texts → IsReadDelete d texts
read-delete law max d texts reads = let b = read-bytes max (DeleteRows d) texts reads in law max b.0 d texts b.1

-- the numbers of places in a row
pub numbers-of : (numbers : List ℕ) → numbers_of (row_places numbers) ≡ numbers
numbers-of [] = refl
numbers-of (n ∷ ns) = ap (λ l. n ∷ l) (numbers-of ns)

-- its nodes may be evaluated over rows of its table
pub is-filter : (tables : List Table) (d : DeleteTree) (texts columns : List ℕ) → IsReadDelete d texts → delete_refusal tables d ≡ None → columns ≡ delete_positions tables d
    → IsFilter texts columns d.nodes
unfolding delete_refusal
is-filter tables d texts columns read none are =
    let one = first-none _ _ none in
    let two = first-none _ _ one.1 in
    let three = first-none _ _ two.1 in
    let four = first-none _ _ three.1 in
    let five = first-none _ _ four.1 in
    record {
      sound = record { tree = read.tree; narrow = not-off (all_narrow d.nodes) (cause-off _ _ five.0); texts_fit = read.texts_fit };
      each = ap length are ∙ length-mapped _ d.nodes;
      no_aggregate = cause-off _ _ four.0;
    }

-- ---- the change

module _ (state : State) (texts : List ℕ) (d : DeleteTree) (t : Table) (named : table_named (tables_seen state) d.table ≡ Some t) where
  abbrev goes : List Value → Bool
  goes = delete_passes texts (delete_positions (tables_seen state) d) d

  change-is : delete_cause state.stamps (tables_seen state) d ≡ None
      → (deletion state texts d).change ≡ Made (filter (λ row. not (goes row)) t.rows) (count_by goes t.rows)
  unfolding deletion delete_meaning delete_change
  change-is cause = λ j. unless (cause j) (change_of (named j) (λ u. delete_change texts u (delete_positions (tables_seen state) d) d))

  -- the two ways of a DELETE whose statement stands
  module _ (few : state.stamps < 2 ^ 20) (stands : delete_refusal (tables_seen state) d ≡ None) where
    begun : delete_cause state.stamps (tables_seen state) d ≡ None
    begun = cause-none state.stamps (tables_seen state) d stands few

    pub deletes-made : (new : State) → ((allowed : ℕ) → Spends (record { main = allowed; temp = 0; versions = 0; stamps = 1; lowers = false }) d.table
        (with_rows state d.table (filter (λ row. not (goes row)) t.rows)) new)
        → DeletesRows state texts d (rows (count_by goes t.rows) ∷ []) new
    unfolding deletion
    deletes-made new spent = made (filter (λ row. not (goes row)) t.rows) (count_by goes t.rows) begun (change-is begun) refl (spent 0)

    pub deletes-failed : (new : State) (f : File) → ((main temp : ℕ) → Spends (record { main = main; temp = temp; versions = 0; stamps = 1; lowers = false }) d.table state new)
        → DeletesRows state texts d (device_fault f ∷ []) new
    unfolding deletion
    deletes-failed new f spent = failed (device_fault f) begun (device_failed f refl) refl (spent _ _)

-- a DELETE that is refused before its stamp
pub deletes-unmade : (state : State) (texts : List ℕ) (d : DeleteTree) (r : Refusal) → delete_cause state.stamps (tables_seen state) d ≡ Some r
    → DeletesRows state texts d (refusal_line r ∷ []) state
unfolding deletion
deletes-unmade state texts d r cause = refused_before r cause refl refl

-- ---- what the table shows

module _ (a b : Space) (old mid : List Bool) (c : CatalogTable) (t : TableState) (pages : List ℕ) (stamp : ℕ) (draws : Draws old mid stamp) (stands : TableStands a old c t pages)
    (goes : List Value → Bool) where
  -- once the stamp is committed: the rows that stay
  pub shows-deleted : (new : List Bool) (n : ℕ) → Commits mid new stamp → (all : List (List Value)) → (a.told ≡ true → all ≡ t.table.rows)
      → Deletes a b c.pages pages c.columns (committed mid) (stamp - 1) stamp goes n → b.told ≡ true
      → ShowsNow b new c.pages c.columns pages (filter (λ row. not (goes row)) all) t.versions 0
  shows-deleted new n commits all itself deletes told =
      let told_a : a.told ≡ true = sym deletes.within.steady.told ∙ told in
      let h = stands.rows told_a in
      let done = deletes.deleted h.versions h.table in
      let before = past-later (last old) (stamp - 1) h.versions (let x = draws.next in omega arith) h.past in
      let stays : List Value → Bool = λ row. not (goes row) in
      let is = done.2.seen (committed new) (last new) (λ q few. commits.others q (λ e. let x = draws.next in absurd (omega arith))) commits.here (let x = draws.drawn in let y = commits.last in omega arith) before in
      let moved = filter-moved stays t.table.rows _ (seen-before a old mid c t pages stamp draws stands h) in
      record {
        versions = done.0;
        table = done.1;
        past = done.2.hidden.past (last new) (let x = draws.drawn in let y = commits.last in omega arith)
            (past-later (last old) (last new) h.versions (let x = draws.next in let y = draws.drawn in let z = commits.last in omega arith) h.past);
        seen = subst (λ l. IsPermutation (filter stays l) (seen_rows (committed new) (last new) done.0)) (sym (itself told_a)) (subst (IsPermutation (filter stays t.table.rows)) (sym is) moved);
        more = let x = done.2.hidden.count in let y = h.count in omega arith;
        few = let x = done.2.hidden.count in let y = h.count in omega arith;
      }

-- ---- the step

module _ (a b : Space) (old new : Tables) (d : DeleteTree) (texts columns : List ℕ) (k stamp : ℕ) (mid : List Bool)
    (idle : old.is_open ≡ false) (still : new.is_open ≡ old.is_open) (max : new.max ≡ old.max) (mpl : new.mpl ≡ old.mpl) (catalog : new.catalog ≡ old.catalog)
    (number : table_number old.catalog d.table ≡ Some k) (inside : k < length old.catalog.tables)
    (unrefused : delete_refusal (tables_of old.catalog) d ≡ None) (columns_are : columns ≡ delete_positions (tables_of old.catalog) d)
    (draws : Draws old.stamps mid stamp) (room : last old.stamps < 2 ^ 20) where
  abbrev passes : List Value → Bool
  passes = row_passes texts columns d.nodes d.filter

  pub delete-done : (n : ℕ) → ((c : CatalogTable) → slice_get old.catalog.tables k ≡ Some c → (pages : List ℕ) → IsChain a c.pages pages
      → Deletes a b c.pages pages c.columns (committed mid) (stamp - 1) stamp passes n)
      → Commits mid new.stamps stamp → StepsTo a b old new (BeginsSo a.told (DeleteRows d) texts) (rows n ∷ [])
  delete-done n deletes commits = record {
    to = λ before st.
        let e = there a b old new d.table k idle still max mpl number inside before st in
        let gone = deletes e.entry e.at_entry (st.pages k) e.stands.chain in
        let choice = chosen a old.stamps mid e.entry e.table (st.pages k) stamp draws e.stands passes gone.gone gone.concerned in
        let all = choice.0 in
        let stays : List Value → Bool = λ row. not (passes row) in
        let here : State = seen a b old new d.table k idle still max mpl number inside before st all in
        let shape = shape-seen a b old new d.table k idle still max mpl number inside before st all in
        let at : delete_positions (tables_seen here) d ≡ columns = positions-same old.catalog here.tables d shape ∙ sym columns_are in
        let w = stands-with b new.stamps e.entry e.entry.pages e.table (filter stays all) (st.pages k) 0 gone.within.chain
        (shows-deleted a b old.stamps mid e.entry e.table (st.pages k) stamp draws e.stands passes new.stamps n commits all choice.1.itself gone) in
        let g = grows-within a b e.entry.pages (st.pages k) gone.within in
        let later = later-committed old.stamps mid new.stamps stamp draws commits in
        let one = one-more-committed old.stamps mid new.stamps stamp draws commits in
        let moved = catalog ∙ sym (same-ends old.catalog k e.entry e.at_entry) in
        let to : State = after a b old new d.table k idle still max mpl number inside before st e.entry.pages (filter stays all) (st.pages k) new.stamps 0 0 g later one w moved refl in
        let counted : count_by passes all ≡ n = sym (length-filter passes all) ∙ sym (length_permutation (filter passes all) gone.gone choice.1.going) ∙ sym gone.many in
        let was : (λ (p : List ℕ). DeletesRows here texts d (rows (count_by (delete_passes texts p d) all) ∷ []) to) (delete_positions (tables_seen here) d) =
        deletes-made here texts d _ (named-seen a b old new d.table k idle still max mpl number inside before st all) room (refusal-same old.catalog here.tables d shape ∙ unrefused) to
        (λ allowed. subst (λ (p : List ℕ). Spends (record { main = allowed; temp = 0; versions = 0; stamps = 1; lowers = false }) d.table
        (with_rows here d.table (filter (λ row. not (delete_passes texts p d row)) all)) to) (sym at)
        (spent-made a b old new d.table k idle still max mpl number inside before st e.entry.pages (filter stays all) (st.pages k) new.stamps 0 0 g later one w moved refl all allowed 0 0
        (omega arith) (omega arith))) in (
          to,
          stands-after a b old new d.table k idle still max mpl number inside before st e.entry.pages (filter stays all) (st.pages k) new.stamps 0 0 g later one w moved refl,
          begins-seen a.told (DeleteRows d) texts before here to (rows n ∷ []) (sees a b old new d.table k idle still max mpl number inside before st all choice.1.itself)
              (subst (λ m. DeletesRows here texts d (rows m ∷ []) to) counted (subst (λ (p : List ℕ). DeletesRows here texts d (rows (count_by (delete_passes texts p d) all) ∷ []) to) at was)),
        );
  }

  -- a fault came before all were deleted
  pub delete-faulted : (f : PageFault) → ((c : CatalogTable) → slice_get old.catalog.tables k ≡ Some c → (pages : List ℕ) → IsChain a c.pages pages
      → DeletesSome a b c.pages pages c.columns (committed mid) (stamp - 1) stamp f)
      → new.stamps ≡ mid → StepsTo a b old new (BeginsSo a.told (DeleteRows d) texts) (line_of f ∷ [])
  delete-faulted f deletes uncommitted = record {
    to = λ before st.
        let e = there a b old new d.table k idle still max mpl number inside before st in
        let some = deletes e.entry e.at_entry (st.pages k) e.stands.chain in
        let all = e.table.table.rows in
        let here : State = seen a b old new d.table k idle still max mpl number inside before st all in
        let w = stands-with b mid e.entry e.entry.pages e.table all (st.pages k) 0 some.within.chain (shows-hidden a b old.stamps mid e.entry e.table (st.pages k) (st.pages k) e.entry.pages stamp 0 draws e.stands some.within.steady.told
        (λ versions table. let h = some.hidden versions table in (h.0, h.1, hidden-none (committed mid) (stamp - 1) stamp versions h.0 h.2)) all (λ told. refl)) in
        let g = grows-within a b e.entry.pages (st.pages k) some.within in
        let later = later-drawn old.stamps mid stamp draws in
        let one = one-more old.stamps mid stamp draws in
        let moved = catalog ∙ sym (same-ends old.catalog k e.entry e.at_entry) in
        let to : State = after a b old new d.table k idle still max mpl number inside before st e.entry.pages all (st.pages k) mid 0 0 g later one w moved uncommitted in
        let failing : (file : File) → DeletesRows here texts d (device_fault file ∷ []) to = λ file.
        deletes-failed here texts d _ (named-seen a b old new d.table k idle still max mpl number inside before st all) room
        (refusal-same old.catalog here.tables d (shape-seen a b old new d.table k idle still max mpl number inside before st all) ∙ unrefused) to file
        (λ main temp. spent-kept a b old new d.table k idle still max mpl number inside before st e.entry.pages all (st.pages k) mid 0 0 g later one w moved uncommitted main temp 0 (omega arith) (omega arith)) in (
          to,
          stands-after a b old new d.table k idle still max mpl number inside before st e.entry.pages all (st.pages k) mid 0 0 g later one w moved uncommitted,
          by-cause f before here to (sees a b old new d.table k idle still max mpl number inside before st all (λ told. refl)) failing some.cause,
        );
  }
    where
      by-cause : (f : PageFault) (before here to : State) → Rattle.hg_engine.specs.Steps.MaySee a.told before here → ((file : File) → DeletesRows here texts d (device_fault file ∷ []) to)
          → WalkFault a b f → BeginsSo a.told (DeleteRows d) texts before (line_of f ∷ []) to
      by-cause fault.MainFault before here to see failing cause = begins-seen a.told (DeleteRows d) texts before here to (device_fault Main ∷ []) see (failing Main)
      by-cause fault.TempFault before here to see failing cause = begins-seen a.told (DeleteRows d) texts before here to (device_fault Temp ∷ []) see (failing Temp)
      by-cause fault.MainFull before here to see failing cause = absurd cause
      by-cause fault.TempFull before here to see failing cause = absurd cause
      by-cause (fault.Damaged page check) before here to see failing cause = begins-damaged-seen a.told (DeleteRows d) texts before here to Main page check [] cause refl see (failing Main)

-- ---- a DELETE that writes nothing

module _ (s : Space) (old new : Tables) (d : DeleteTree) (texts : List ℕ) (idle : old.is_open ≡ false) (still : new.is_open ≡ old.is_open) (max : new.max ≡ old.max) (mpl : new.mpl ≡ old.mpl)
    (catalog : new.catalog ≡ old.catalog) (stamps : new.stamps ≡ old.stamps) where
  unmade : (r : Refusal) → ((tables : List TableState) → map rowless tables ≡ map table_of old.catalog.tables → delete_cause (last old.stamps) (tables_in tables) d ≡ Some r)
      → StepsTo s s old new (BeginsSo s.told (DeleteRows d) texts) (refusal_line r ∷ [])
  unmade r cause = record {
    to = λ before st. (
      before,
      unmoved s old new idle still max mpl catalog stamps before st,
      begins-same s.told (DeleteRows d) texts before before (refusal_line r ∷ [])
          (subst (λ b. DeletesRows b texts d (refusal_line r ∷ []) b) (sym (resting-here s old idle before st)) (deletes-unmade _ texts d r (cause st.tables st.stand.shape))),
    );
  }

  -- its statement was refused
  pub delete-misfit : (r : Refusal) → delete_refusal (tables_of old.catalog) d ≡ Some r → StepsTo s s old new (BeginsSo s.told (DeleteRows d) texts) (refusal_line r ∷ [])
  delete-misfit r why = unmade r (λ tables shape. cause-of-refusal (last old.stamps) (tables_in tables) d r (refusal-same old.catalog tables d shape ∙ why))

  -- no stamp was left
  pub delete-late : delete_refusal (tables_of old.catalog) d ≡ None → last old.stamps ≡ 2 ^ 20
      → StepsTo s s old new (BeginsSo s.told (DeleteRows d) texts) (refusal_line StampsUsedUp ∷ [])
  delete-late stands all = unmade StampsUsedUp (λ tables shape. cause-of-stamps (last old.stamps) (tables_in tables) d (refusal-same old.catalog tables d shape ∙ stands) all)

-- ---- what the call on the table leaves, and which damage it finds

module _ (a b : Space) (old : Tables) (d : DeleteTree) (goes : List Value → Bool) (marks : ℕ → Bool) (k stamp : ℕ) (state : State) (st : TablesAre a old state) (inside : k < length old.catalog.tables) where
  here : FoundAt a old.stamps old.catalog.tables st.tables st.pages k
  here = found-at a old.stamps old.catalog.tables st.tables st.pages k st.stand inside

  pub deleted-same : (n : ℕ) → ((c : CatalogTable) → slice_get old.catalog.tables k ≡ Some c → (pages : List ℕ) → IsChain a c.pages pages
      → Deletes a b c.pages pages c.columns marks (stamp - 1) stamp goes n) → IsSameSpace a b
  deleted-same n deletes = same-space (pages_mine (st.pages k)) a b (deletes here.entry here.at_entry (st.pages k) here.stands.chain).within.steady

  module _ (f : PageFault) (deletes : (c : CatalogTable) → slice_get old.catalog.tables k ≡ Some c → (pages : List ℕ) → IsChain a c.pages pages
      → DeletesSome a b c.pages pages c.columns marks (stamp - 1) stamp f) where
    pub some-same-space : IsSameSpace a b
    some-same-space = same-space (pages_mine (st.pages k)) a b (deletes here.entry here.at_entry (st.pages k) here.stands.chain).within.steady

    pub some-counted : CountedIn a b (line_of f ∷ [])
    some-counted = let some = deletes here.entry here.at_entry (st.pages k) here.stands.chain in look-counted a b f some.within.steady.counts (turn-cause f some.cause)
      where
        turn-cause : (f : PageFault) → WalkFault a b f → TurnFault a b f
        turn-cause fault.MainFault h = h
        turn-cause fault.TempFault h = h
        turn-cause fault.MainFull h = h
        turn-cause fault.TempFull h = h
        turn-cause (fault.Damaged page check) h = h

    pub some-found : table_number old.catalog d.table ≡ Some k → TellOnlyFound (DeleteFinds a old.catalog.tables d.table) (line_of f ∷ [])
    some-found number =
        let some = deletes here.entry here.at_entry (st.pages k) here.stands.chain in
        let named : same_name here.entry.name d.table ≡ true =
        first-holds (λ (c : CatalogTable). same_name c.name d.table) old.catalog.tables k here.entry (position-first (λ (c : CatalogTable). same_name c.name d.table) old.catalog.tables k number) here.at_entry in
        finds f named some.cause some.found some.page
      where
        finds : (f : PageFault) → same_name here.entry.name d.table ≡ true → WalkFault a b f → LookFault IsVersionCheck f → NamesOneOf (st.pages k) f
            → TellOnlyFound (DeleteFinds a old.catalog.tables d.table) (line_of f ∷ [])
        finds fault.MainFault named cause found page = sound-line _ (line_of fault.MainFault) refl
        finds fault.TempFault named cause found page = sound-line _ (line_of fault.TempFault) refl
        finds fault.MainFull named cause found page = absurd cause
        finds fault.TempFull named cause found page = absurd cause
        finds (fault.Damaged page check) named cause found among =
            ((λ yes. (page, check, refl, record { untold = cause; table = k; entry = here.entry; at = here.at_entry; named = named; pages = st.pages k; chain = here.stands.chain; among = among; failed = found })), tt)
