-- A SELECT begins, and its turns are steps of the plain machine.
use Rattle.std.specs.Prelude.{◌≡◌, ℕ, zero, suc, ◌<◌, ◌≤◌, ◌&&◌, nat_lt, not, Bool, true, false, List, [], ◌∷◌, ◌++◌, length, map, Option, Some, None, IsTrue, slice_get, if◌then◌else◌}
use Rattle.std.specs.List.{AllByRecursion, filter, list_all, list_any}
use Rattle.std.specs.List.Sorted.{IsPermutation}
use Rattle.std.proofs.Common.{sym, ◌∙◌, ap, subst, refl, arith}
use Rattle.std.proofs.lemmas.Bool.{false≢true}
use Rattle.std.proofs.lemmas.Bool.Decides.{nat_tests}
use Rattle.std.proofs.lemmas.Option.{slice_get_within, none-some}
use Rattle.std.proofs.lemmas.List.Sorted.{IsPermutation-refl, length_permutation}
use Rattle.hg_base.specs.Causes.{HasCause}
use Rattle.hg_base.specs.Space.{Space}
use Rattle.hg_base.specs.Steadiness.{Steady}
use Rattle.hg_base.specs.SteadyLaws.{main_failed, temp_failed}
use Rattle.hg_base.specs.declared.File.TheVariants.{Main, Temp}
use Rattle.hg_base.specs.declared.pages.PageFault.{PageFault}
use Rattle.hg_base.specs.declared.pages.PageFault.TheVariants as fault
use Rattle.hg_bind.specs.Bound.{table_of, tables_of}
use Rattle.hg_bind.specs.BoundMeaning.{KeysStandApart, ReadKeysStandApart, bare}
use Rattle.hg_bind.specs.BoundSelect.{IsBoundSelect}
use Rattle.hg_catalog.specs.Contents.{CatalogTable, Contents, IsSound}
use Rattle.hg_table.specs.Seen.{is_seen, row_of, seen_rows}
use Rattle.hg_exec.specs.Beginning.{IsShown}
use Rattle.hg_exec.specs.Joins.{Form, TableRows, rows_from}
use Rattle.hg_exec.specs.Planned.{HoldRows, IsLoopOver, IsReady, MayRun, ReadyMayRun, ReadyMeansTheSame, form_with, keyless}
use Rattle.hg_exec.specs.Standing.{IsAtWork, LoopStands, Owes, entry}
use Rattle.hg_exec.specs.Turning.{IsLoopCheck, NamesRead, Turned}
use Rattle.hg_exec.specs.declared.loops.Turn.TheVariants as turn
use Rattle.hg_machine.specs.Plain.Open.{cursor_of}
use Rattle.hg_machine.specs.Plain.Refused.{refusal_line}
use Rattle.hg_machine.specs.Plain.Replies.{row, ended, closed}
use Rattle.hg_machine.specs.Plain.Rounds.{starts}
use Rattle.hg_machine.specs.Plain.Select.{Selects, refused, begun, with_select}
use Rattle.hg_machine.specs.Plain.State.{CursorState, Fetches, State, TableState}
use Rattle.hg_model.specs.Binding as binding
use Rattle.hg_model.specs.Binding.{select_refusal}
use Rattle.hg_model.specs.Intake.{select_need}
use Rattle.hg_model.specs.LineReading.{ReadAs, ReadsLine, read}
use Rattle.hg_model.specs.Order.{Pair}
use Rattle.hg_model.specs.Plan.{floor_of}
use Rattle.hg_model.specs.Query.{Query, query_of}
use Rattle.hg_model.specs.Reading.{Reads, Statement}
use Rattle.hg_model.specs.Refusal.{Refusal, first_cause}
use Rattle.hg_model.specs.Refusal as refusal
use Rattle.hg_model.specs.Scope.{columns_from, output_count, positions_of, scope_from, scope_of}
use Rattle.hg_model.specs.Script.{Line, text_of_line}
use Rattle.hg_model.specs.SelectMeaning.{is_grouped, meaning, too_many}
use Rattle.hg_model.specs.Statements.{CommandTree, SelectRows}
use Rattle.hg_model.specs.Tables.{Table, fits_columns}
use Rattle.hg_model.specs.declared.tables.FromColumn.{FromColumn}
use Rattle.hg_model.specs.declared.trees.Count.TheVariants as count
use Rattle.hg_model.specs.declared.trees.FromTable.{FromTable}
use Rattle.hg_model.specs.declared.trees.OrderKey.{OrderKey}
use Rattle.hg_model.specs.declared.values.Value.{Value}
use Rattle.hg_plan.specs.Planning.{IsPlanOf}
use Rattle.hg_plan.specs.ReadLaws.{IsReadSelect, ReadSelectsFit}
use Rattle.hg_plan.specs.declared.plan.TableLoop.{TableLoop}
use Rattle.hg_reply.specs.Asked.{IsReadAs}
use Rattle.hg_reply.specs.Built.{is_nothing, is_plain_select}
use Rattle.hg_reply.specs.Steps.{BeginsSo, ContinuesSo, TellsFound, TellOnlyFound}
use Rattle.hg_table.specs.Agreement.{FitsColumns, IsTableOver}
use Rattle.hg_table.specs.Calls.{LookFault, TakesNone, none_mine}
use Rattle.hg_table.specs.Chains.{IsChain}
use Rattle.hg_table.specs.Marks.{last, committed}
use Rattle.hg_table.specs.Versions.{Placed}
use Rattle.hg_engine.specs.Standing.{Left, LeftStands, Stands, TablesStand, WorkStands, cursor_with, rowless, state_of, nothing_left}
use Rattle.hg_engine.specs.Stepping.{HasChain, StepsTo, TablesAre, TurnFault, TurnFinds, line_of, work_in}
use Rattle.hg_engine.specs.Work.{BeginsOwed, BeginsWork, form_of_work}
use Rattle.hg_engine.specs.declared.open.OpenSelect.{OpenSelect}
use Rattle.hg_engine.specs.declared.tables.Tables.{Tables}
use Rattle.hg_engine.proofs.CreateLaws.{and-both, begins-same, kept, no-work}
use Rattle.hg_engine.proofs.Lookups.{columns-same, some-same, tables_in}
use Rattle.hg_engine.proofs.PageLaws.{few-still, none-lent-still}
use Rattle.hg_engine.proofs.ChangeLaws.{shape-at}
use Rattle.hg_engine.proofs.StandLaws.{found-at, same-count, some-one, stays-still, tables-stay}
use Rattle.hg_engine.proofs.TurnLaws.{call-damaged, call-end, call-fails, call-row, leaves_pairs, state-still}

-- ---- lists

all-so : {X : Type 0} (P Q : X → Type 0) (xs : List X) → ((x : X) → P x → Q x) → AllByRecursion P xs → AllByRecursion Q xs
all-so P Q [] f h = tt
all-so P Q (x ∷ xs) f h = (f x h.0, all-so P Q xs f h.1)

no-items : {X : Type 0} (xs : List X) → is_nothing xs ≡ true → xs ≡ []
no-items [] h = refl
no-items (x ∷ xs) h = absurd (false≢true h)

not-so : (b : Bool) → not b ≡ true → b ≡ false
not-so true h = absurd (false≢true h)
not-so false h = refl

-- ---- what is known of a SELECT that was read, and is built

pub read-bytes : (max : ℕ) (c : CommandTree) (texts : List ℕ) → IsReadAs max c texts → (bytes : List ℕ) × Reads max bytes (Statement c texts)
read-bytes max c texts reads = by reads.0 reads.1
  where
    by : (line : Line) → ReadsLine max line (ReadAs (Statement c texts)) → (bytes : List ℕ) × Reads max bytes (Statement c texts)
    by line (read r short h) = (text_of_line line, h)

pub read-fits : ReadSelectsFit → (max : ℕ) (q : Query) (texts : List ℕ) → IsReadAs max (SelectRows q) texts → IsReadSelect q texts
read-fits law max q texts reads = let b = read-bytes max (SelectRows q) texts reads in law max b.0 q texts b.1

pub read-apart : ReadKeysStandApart → (max : ℕ) (q : Query) (texts : List ℕ) → IsReadAs max (SelectRows q) texts → KeysStandApart q
read-apart law max q texts reads = let b = read-bytes max (SelectRows q) texts reads in law max b.0 q texts b.1

record IsPlain (q : Query) : Type 0 where
  pub all_rows : q.distinct ≡ false
  pub unordered : q.order ≡ []
  pub ungrouped : is_grouped q ≡ false

plain-is : (q : Query) → is_plain_select q ≡ true → IsPlain q
plain-is q h =
    let outer = and-both (not q.distinct && is_nothing q.order) (not (is_grouped q)) h in
    let inner = and-both (not q.distinct) (is_nothing q.order) outer.0 in
    record { all_rows = not-so q.distinct inner.0; unordered = no-items q.order inner.1; ungrouped = not-so (is_grouped q) outer.1 }

-- ---- what stands against a SELECT is the same over the catalog and over the state

abbrev causes : Option Refusal → List FromColumn → Query → Option Refusal
causes unknown scope q =
    let positions = positions_of scope q in
    first_cause
    (unknown
    ∷ binding.repeated_name (map (λ (f : FromTable). f.alias) q.tables)
    ∷ binding.cause_if (q.star && nat_lt 16 (length scope)) (refusal.TooMany count.Outputs)
    ∷ first_cause (binding.names_from scope positions q 0 q.nodes)
    ∷ binding.cause_if (list_any (λ (k : OrderKey). binding.is_outside (output_count scope q) k.by) q.order) refusal.BadNumber
    ∷ binding.cause_if (not (binding.select_types_fit q (binding.select_kinds scope positions q))) refusal.TypeMismatch
    ∷ binding.cause_if (not (binding.grouping_fits scope positions q)) refusal.NotGrouped
    ∷ binding.cause_if (not (Rattle.hg_model.specs.Types.all_narrow q.nodes)) refusal.TooWide
    ∷ binding.cause_if (not (binding.lengths_fit scope positions q)) refusal.RowTooLong
    ∷ [])

refusal-is : (tables : List Table) (q : Query) → select_refusal tables q ≡ causes (binding.unknown_table tables q.tables) (scope_of tables q) q
unfolding select_refusal
refusal-is tables q = refl

module _ (c : Contents) (tables : List TableState) (shape : map rowless tables ≡ map table_of c.tables) where
  unknown-same : (fs : List FromTable) → binding.unknown_table (tables_in tables) fs ≡ binding.unknown_table (tables_of c) fs
  unknown-same [] = refl
  unknown-same (f ∷ fs) =
      (λ i. if some-same c tables shape f.table i then unknown-same fs i else Some (refusal.UnknownTable f.table))

  scope-same : (k : ℕ) (fs : List FromTable) → scope_from (tables_in tables) k fs ≡ scope_from (tables_of c) k fs
  scope-same k [] = refl
  scope-same k (f ∷ fs) = (λ i. columns_from k f.alias 0 (columns-same c tables shape f.table i) ++ scope-same (suc k) fs i)

  refused-same : (q : Query) → select_refusal (tables_in tables) q ≡ select_refusal (tables_of c) q
  refused-same q =
      refusal-is (tables_in tables) q ∙ (λ i. causes (unknown-same q.tables i) (scope-same 0 q.tables i) q) ∙ sym (refusal-is (tables_of c) q)

  bare-in : (ts : List TableState) → map bare (tables_in ts) ≡ map rowless ts
  bare-in [] = refl
  bare-in (t ∷ ts) = ap (λ l. rowless t ∷ l) (bare-in ts)

  bare-of : (cs : List CatalogTable) → map bare (map table_of cs) ≡ map table_of cs
  bare-of [] = refl
  bare-of (d ∷ ds) = ap (λ l. table_of d ∷ l) (bare-of ds)

  bare-same : map bare (tables_in tables) ≡ map bare (tables_of c)
  bare-same = bare-in tables ∙ shape ∙ sym (bare-of c.tables)

-- ---- the rows of tables by their numbers

entry-is : (catalog : List CatalogTable) (k : ℕ) (c : CatalogTable) → slice_get catalog k ≡ Some c → entry catalog k ≡ c
entry-is [] k c h = absurd (none-some c h)
entry-is (d ∷ ds) zero c h = some-one d c h
entry-is (d ∷ ds) (suc k) c h = entry-is ds k c h

get-in : (ts : List TableState) (k : ℕ) (t : Table) → slice_get (tables_in ts) k ≡ Some t → (u : TableState) × (slice_get ts k ≡ Some u) × (u.table ≡ t)
get-in [] k t h = absurd (none-some t h)
get-in (u ∷ us) zero t h = (u, refl, some-one u.table t h)
get-in (u ∷ us) (suc k) t h = get-in us k t h

length-in : (ts : List TableState) → length (tables_in ts) ≡ length ts
length-in [] = refl
length-in (u ∷ us) = ap suc (length-in us)

-- rows that are seen fit, as their versions do
rows-fit : (seen : Placed → Bool) (columns : List Rattle.hg_model.specs.declared.trees.Column.Column) (vs : List Placed) → AllByRecursion (FitsColumns columns) vs
    → list_all (fits_columns columns) (map row_of (filter seen vs)) ≡ true
rows-fit seen columns [] h = refl
rows-fit seen columns (v ∷ vs) h = by (seen v) (rows-fit seen columns vs h.1)
  where
    by : (b : Bool) → list_all (fits_columns columns) (map row_of (filter seen vs)) ≡ true
        → list_all (fits_columns columns) (map row_of (if b then v ∷ filter seen vs else filter seen vs)) ≡ true
    by true rest = ap (λ b. b && list_all (fits_columns columns) (map row_of (filter seen vs))) h.0 ∙ rest
    by false rest = rest

module _ (s : Space) (marks : List Bool) (catalog : List CatalogTable) (tables : List TableState) (pages : ℕ → List ℕ)
    (stand : TablesStand s marks catalog tables pages) (told : s.told ≡ true) where
  -- what is known of the rows of the k-th table, where it is there
  record HasSeen (k : ℕ) (rows : List (List Value)) : Type 0 where
    pub shown : k < length catalog → IsShown s (committed marks) (last marks) catalog pages k rows
    pub same : (u : TableState) → slice_get tables k ≡ Some u → IsPermutation u.table.rows rows
    pub fit : (u : TableState) → slice_get tables k ≡ Some u → IsTrue (list_all (fits_columns u.table.columns) rows)

  seen-there : (k : ℕ) → k < length catalog → (rows : List (List Value)) × HasSeen k rows
  seen-there k inside =
      let f = found-at s marks catalog tables pages k stand inside in
      let h = f.stands.rows told in
      let at_entry : entry catalog k ≡ f.entry = entry-is catalog k f.entry f.at_entry in
      let rows : List (List Value) = seen_rows (committed marks) (last marks) h.versions in
      let columns : f.entry.columns ≡ f.table.table.columns =
      sym (ap (λ (w : Table). w.columns) (shape-at catalog tables k f.entry f.table stand.shape f.at_entry f.at_table)) in (
        rows,
        record {
          shown = λ there. record {
            versions = h.versions;
            table = subst (λ (e : CatalogTable). IsTableOver s e.pages e.columns (pages k) h.versions) (sym at_entry) h.table;
            seen = refl;
          };
          same = λ u at. subst (λ (w : TableState). IsPermutation w.table.rows rows) (some-one f.table u (sym f.at_table ∙ at)) h.seen;
          fit = λ u at.
              subst (λ (w : TableState). list_all (fits_columns w.table.columns) rows ≡ true) (some-one f.table u (sym f.at_table ∙ at))
              (subst (λ cs. list_all (fits_columns cs) rows ≡ true) columns (rows-fit (is_seen (committed marks) (last marks)) f.entry.columns h.versions h.table.fit));
        },
      )

  counted : length tables ≡ length catalog
  counted = same-count catalog tables stand.shape

  seen-or-none : (k : ℕ) → (b : Bool) → nat_lt k (length catalog) ≡ b → (rows : List (List Value)) × HasSeen k rows
  seen-or-none k true e = seen-there k (grind (arith, nat_tests))
  seen-or-none k false e =
      let out : length catalog ≤ k = grind (arith, nat_tests) in (
        [],
        record {
          shown = λ there. absurd (omega (arith, there, out));
          same = λ u at. absurd (let within = slice_get_within tables k u at in let n = counted in omega (arith, within, out, n));
          fit = λ u at. absurd (let within = slice_get_within tables k u at in let n = counted in omega (arith, within, out, n));
        },
      )

  seen-at : (k : ℕ) → (rows : List (List Value)) × HasSeen k rows
  seen-at k = seen-or-none k (nat_lt k (length catalog)) refl

  abbrev rows-seen : TableRows
  rows-seen k = (seen-at k).0

  shown-all : (loops : List TableLoop) → AllByRecursion (IsLoopOver catalog) loops
      → AllByRecursion (λ (l : TableLoop). IsShown s (committed marks) (last marks) catalog pages l.table (rows-seen l.table)) loops
  shown-all loops over =
      all-so (IsLoopOver catalog) (λ (l : TableLoop). IsShown s (committed marks) (last marks) catalog pages l.table (rows-seen l.table)) loops
      (λ l h. (seen-at l.table).1.shown h.inside) over

  holds-seen : (c : Contents) → c.tables ≡ catalog → HoldRows (tables_of c) (tables_in tables) rows-seen
  holds-seen c same = record {
    bare_are = bare-same c tables (stand.shape ∙ ap (map table_of) (sym same));
    each = λ k t at. let u = get-in tables k t at in subst (λ (w : Table). IsPermutation w.rows (rows-seen k)) u.2 ((seen-at k).1.same u.0 u.1);
    fit = λ k t at. let u = get-in tables k t at in subst (λ (w : Table). IsTrue (list_all (fits_columns w.columns) (rows-seen k))) u.2 ((seen-at k).1.fit u.0 u.1);
  }

-- ---- a SELECT begins

-- a SELECT that was read, bound and planned is ready
pub is-ready : (c : Contents) (q bound : Query) (texts numbers : List ℕ) (places : List (ℕ × ℕ)) (p : Rattle.hg_plan.specs.declared.plan.Plan.Plan) → is_plain_select q ≡ true
    → IsReadSelect q texts → KeysStandApart q → IsBoundSelect (tables_of c) q bound numbers places → IsPlanOf bound numbers places p
    → IsReady c q bound texts numbers places p
is-ready c q bound texts numbers places p plain fits apart is planned =
    let h = plain-is q plain in record {
      bound_is = is;
      apart = apart;
      tree = fits.tree;
      texts_fit = fits.texts_fit;
      some = fits.some_tables;
      few = fits.few_tables;
      few_outputs = fits.few_outputs;
      ungrouped = h.ungrouped;
      all_rows = h.all_rows;
      unordered = h.unordered;
      plan_is = planned;
    }

not-many : (q : Query) (texts : List ℕ) (tables : List Table) → is_grouped q ≡ false → too_many q texts tables ≡ false
unfolding too_many
not-many q texts tables e = rw e refl

module _ (s : Space) (old : Tables) (q : Query) (texts : List ℕ) (idle : old.is_open ≡ false) where
  resting-is : (before : State) (st : TablesAre s old before) → before ≡ state_of s old.max old.mpl old.stamps None st.tables st.left
  resting-is before st = st.is ∙ ap (λ c. state_of s old.max old.mpl old.stamps c st.tables st.left) (no-work old.is_open old.open idle)

  module _ (new : Tables) (catalog : new.catalog ≡ old.catalog) (stamps : new.stamps ≡ old.stamps) (max : new.max ≡ old.max) (mpl : new.mpl ≡ old.mpl) where
    pub select-refused : (r : Refusal) → new.is_open ≡ false → select_refusal (tables_of old.catalog) q ≡ Some r
        → StepsTo s s old new (BeginsSo s.told (SelectRows q) texts) (refusal_line r ∷ [])
    select-refused r shut cause = record {
      to = λ before st.
          let here : State = state_of s old.max old.mpl old.stamps None st.tables st.left in
          let why : select_refusal (tables_in st.tables) q ≡ Some r = refused-same old.catalog st.tables st.stand.shape q ∙ cause in
          let took : Selects here q texts (refusal_line r ∷ []) here = refused r (omega arith) why refl refl in (
            before,
            kept s new (work_in old.is_open old.open) before old.max old.mpl old.catalog old.stamps catalog stamps
                (no-work new.is_open new.open shut ∙ sym (no-work old.is_open old.open idle)) max mpl st,
            begins-same s.told (SelectRows q) texts before before (refusal_line r ∷ [])
                (subst (λ b. Selects b q texts (refusal_line r ∷ []) b) (sym (resting-is before st)) took),
          );
    }

    module _ (running : new.is_open ≡ true) (sound : IsSound old.catalog) (run : ReadyMayRun) (means : ReadyMeansTheSame)
        (ready : IsReady old.catalog q (query_of new.open.select) texts new.open.tables.items new.open.places.items new.open.plan)
        (same_texts : new.open.texts.bytes ≡ texts)
        (owed : BeginsOwed s (last old.stamps) new.open.loops) (work : BeginsWork s (last old.stamps) new.open.loops) where
      abbrev form : Form
      form = form_with (query_of new.open.select) texts new.open.plan

      abbrev loops : List TableLoop
      loops = new.open.plan.loops.items

      may : MayRun old.catalog.tables form loops
      may = run old.catalog q (query_of new.open.select) texts new.open.tables.items new.open.places.items new.open.plan sound ready

      module _ (before : State) (st : TablesAre s old before) where
        stand-one : (l : TableLoop) → IsLoopOver old.catalog.tables l → LoopStands s old.catalog.tables st.pages l
        stand-one l h =
            let f = found-at s old.stamps old.catalog.tables st.tables st.pages l.table st.stand h.inside in
            record {
              inside = h.inside;
              chain = subst (λ (e : CatalogTable). IsChain s e.pages (st.pages l.table)) (sym (entry-is old.catalog.tables l.table f.entry f.at_entry)) f.stands.chain;
              columns = h.columns;
            }

        stand-all : AllByRecursion (LoopStands s old.catalog.tables st.pages) loops
        stand-all = all-so (IsLoopOver old.catalog.tables) (LoopStands s old.catalog.tables st.pages) loops stand-one may.over

        abbrev rows-in : s.told ≡ true → TableRows
        rows-in told = rows-seen s old.stamps old.catalog.tables st.tables st.pages st.stand told

        shown-in : (told : s.told ≡ true)
            → AllByRecursion (λ (l : TableLoop). IsShown s (committed old.stamps) (last old.stamps) old.catalog.tables st.pages l.table (rows-in told l.table)) loops
        shown-in told = shown-all s old.stamps old.catalog.tables st.tables st.pages st.stand told loops may.over

        abbrev left : Left
        left = record { pairs = meaning q texts (tables_in st.tables); floor = floor_of (tables_in st.tables) q; need = select_need q texts (tables_in st.tables) }

        abbrev with_form : Form → Type 0
        with_form f = IsAtWork s old.stamps old.catalog.tables st.pages f loops new.open.loops
            × (s.told ≡ true → (given : List (List Value)) × Owes s old.stamps old.catalog.tables st.pages f loops new.open.loops given × IsPermutation left.pairs (map keyless given))

        works : with_form form
        works = (
          work old.stamps old.catalog.tables st.pages form loops may.form stand-all may.some (λ told. (rows-in told, shown-in told)),
          λ told. (
            rows_from form (rows-in told) loops [],
            owed old.stamps old.catalog.tables st.pages form loops (rows-in told) may.some (shown-in told),
            means old.catalog q (query_of new.open.select) texts new.open.tables.items new.open.places.items new.open.plan (tables_in st.tables) (rows-in told) sound ready
                (holds-seen s old.stamps old.catalog.tables st.tables st.pages st.stand told old.catalog refl),
          ),
        )

        stands-work : WorkStands s old.stamps old.catalog.tables st.pages new.open left.pairs
        stands-work =
            let h : with_form (form_of_work new.open) = subst (λ t. with_form (form_with (query_of new.open.select) t new.open.plan)) (sym same_texts) works in
            record { at_work = h.0; rows = λ told. let r = h.1 told in record { owed = r.0; owes = r.1; in_any_order = r.2 } }

        abbrev here : State
        here = state_of s old.max old.mpl old.stamps None st.tables st.left

        abbrev after : State
        after = state_of s old.max old.mpl old.stamps (Some new.open) st.tables left

        standing : Stands s old.max old.mpl old.catalog old.stamps (Some new.open) after
        standing = record {
          pins = st.pins;
          none_lent = st.none_lent;
          most = st.most;
          some_may = st.some_may;
          few_temp = st.few_temp;
          no_indexes = st.no_indexes;
          tables = st.tables;
          pages = st.pages;
          stand = st.stand;
          left = left;
          stands = stands-work;
          is = refl;
        }

        cursor : cursor_of here None q texts ≡ record (cursor_with left) { wanted = Some 0 }
        cursor = λ i. record (cursor_of here None q texts) { is_too_many = not-many q texts (tables_in st.tables) ready.ungrouped i }

        started : with_select here q texts ≡ after
        started =
            let room : nat_lt 0 old.mpl ≡ true = let m = st.some_may in grind (arith, nat_tests) in
            let set : State = record here { cursors = cursor_with left ∷ [] } in
            ap (λ (c : CursorState). record (starts (record here { cursors = c ∷ [] }) None c None) { task = Some (Fetches None) }) cursor
            ∙ (λ i. record (if room i then record set { round = None ∷ [] } else record set { waiting = None ∷ [] }) { task = Some (Fetches None) })

        begins : (to : State) × TablesAre s new to × BeginsSo s.told (SelectRows q) texts before [] to
        begins =
            let why : select_refusal (tables_in st.tables) q ≡ None = refused-same old.catalog st.tables st.stand.shape q ∙ ready.bound_is.unrefused in (
              after,
              kept s new (Some new.open) after old.max old.mpl old.catalog old.stamps catalog stamps (ap (λ b. work_in b new.open) running) max mpl standing,
              begins-same s.told (SelectRows q) texts before after []
                  (subst (λ b. Selects b q texts [] after) (sym (resting-is before st)) (begun (omega arith) why refl (sym started))),
            )

      pub select-begun : StepsTo s s old new (BeginsSo s.told (SelectRows q) texts) []
      select-begun = record { to = λ before st. begins before st }

-- ---- why a turn fails

pub look-cause : (a b : Space) (f : PageFault) → LookFault IsLoopCheck f → HasCause a b (Some f) → TurnFault a b f
look-cause a b fault.MainFault h cause = main_failed a b cause
look-cause a b fault.TempFault h cause = temp_failed a b cause
look-cause a b fault.MainFull h cause = h
look-cause a b fault.TempFull h cause = h
look-cause a b (fault.Damaged page check) h cause = cause.damage

-- ---- what a turn asks

module _ (s : Space) (x : Tables) (running : x.is_open ≡ true) where
  work-is : (state : State) (st : TablesAre s x state) → WorkStands s x.stamps x.catalog.tables st.pages x.open st.left.pairs
  work-is state st = subst (λ b. LeftStands s x.stamps x.catalog.tables st.pages (work_in b x.open) st.left) running st.stands

  pub turn-work : (state : State) → TablesAre s x state
      → (pages : ℕ → List ℕ) × IsAtWork s x.stamps x.catalog.tables pages (form_of_work x.open) x.open.plan.loops.items x.open.loops
  turn-work state st = (st.pages, (work-is state st).at_work)

-- ---- the three ways of a turn

-- the same SELECT, wherever its loops stand
pub record IsSameSelect (v w : OpenSelect) : Type 0 where
  pub select : w.select ≡ v.select
  pub texts : w.texts ≡ v.texts
  pub plan : w.plan ≡ v.plan

module _ (b : Space) (marks : List Bool) (tables : List CatalogTable) (pages : ℕ → List ℕ) (v w : OpenSelect) (same : IsSameSelect v w) (left : List Pair) where
  abbrev Stands-with : Rattle.hg_model.specs.declared.trees.Select.Select → List ℕ → Rattle.hg_plan.specs.declared.plan.Plan.Plan → Type 0
  Stands-with select texts plan =
      IsAtWork b marks tables pages (form_with (query_of select) texts plan) plan.loops.items w.loops
      × (b.told ≡ true → (owed : List (List Value)) × Owes b marks tables pages (form_with (query_of select) texts plan) plan.loops.items w.loops owed × IsPermutation left (map keyless owed))

  stands-still : Stands-with v.select v.texts.bytes v.plan → WorkStands b marks tables pages w left
  stands-still h =
      let p : Stands-with v.select v.texts.bytes w.plan = subst (λ p. Stands-with v.select v.texts.bytes p) (sym same.plan) h in
      let t : Stands-with v.select w.texts.bytes w.plan = subst (λ t. Stands-with v.select t w.plan) (sym (ap (λ t. t.bytes) same.texts)) p in
      let q : Stands-with w.select w.texts.bytes w.plan = subst (λ q. Stands-with q w.texts.bytes w.plan) (sym same.select) t in
      record { at_work = q.0; rows = λ told. let r = q.1 told in record { owed = r.0; owes = r.1; in_any_order = r.2 } }

none-in : (xs : List Pair) → IsPermutation xs [] → xs ≡ []
none-in [] p = refl
none-in (x ∷ xs) p = absurd (let n = length_permutation (x ∷ xs) [] p in omega arith)

module _ (a b : Space) (old new : Tables) (running : old.is_open ≡ true) (catalog : new.catalog ≡ old.catalog) (stamps : new.stamps ≡ old.stamps)
    (max : new.max ≡ old.max) (mpl : new.mpl ≡ old.mpl) (steady : Steady none_mine a b) (none : TakesNone a b) where
  working-is : (before : State) (st : TablesAre a old before) → before ≡ state_of a old.max old.mpl old.stamps (Some old.open) st.tables st.left
  working-is before st = st.is ∙ ap (λ o. state_of a old.max old.mpl old.stamps (work_in o old.open) st.tables st.left) running

  -- another rest is left, over a space in which only faults were counted
  moved : (before : State) (st : TablesAre a old before) (work : Option OpenSelect) (left : Left) → LeftStands b old.stamps old.catalog.tables st.pages work left
      → work_in new.is_open new.open ≡ work → TablesAre b new (state_of a old.max old.mpl old.stamps work st.tables left)
  moved before st work left stands is =
      kept b new work (state_of a old.max old.mpl old.stamps work st.tables left) old.max old.mpl old.catalog old.stamps catalog stamps is max mpl (record {
        pins = steady.pins_after;
        none_lent = none-lent-still a b steady st.none_lent;
        most = steady.most ∙ st.most;
        some_may = st.some_may;
        few_temp = few-still a b steady.limit st.few_temp;
        no_indexes = st.no_indexes;
        tables = st.tables;
        pages = st.pages;
        stand = tables-stay a b old.stamps old.catalog.tables st.tables st.pages (λ k. stays-still a b (st.pages k) steady) st.stand;
        left = left;
        stands = stands;
        is = sym (state-still a b old.max old.mpl old.stamps work st.tables left steady none);
      })

  abbrev its_form : Form
  its_form = form_of_work old.open

  abbrev its_loops : List TableLoop
  its_loops = old.open.plan.loops.items

  -- a row comes, and the others are left
  pub turn-gives : (values : List Value) → new.is_open ≡ true → IsSameSelect old.open new.open
      → ((pages : ℕ → List ℕ) (left : List (List Value)) → IsAtWork a old.stamps old.catalog.tables pages its_form its_loops old.open.loops
      → Owes a old.stamps old.catalog.tables pages its_form its_loops old.open.loops left → Turned b old.stamps old.catalog.tables pages its_form its_loops new.open.loops values left turn.Row)
      → ((pages : ℕ → List ℕ) → IsAtWork a old.stamps old.catalog.tables pages its_form its_loops old.open.loops → IsAtWork b old.stamps old.catalog.tables pages its_form its_loops new.open.loops)
      → StepsTo a b old new (ContinuesSo a.told) (row None values ∷ [])
  turn-gives values still same owed works = record { to = λ before st. by before st a.told refl }
    where
      by : (before : State) (st : TablesAre a old before) (told : Bool) → a.told ≡ told
          → (after : State) × TablesAre b new after × ContinuesSo a.told before (row None values ∷ []) after
      by before st false untold =
          let h = work-is a old running before st in
          let left : Left = leaves_pairs st.left [] in (
            state_of a old.max old.mpl old.stamps (Some new.open) st.tables left,
            moved before st (Some new.open) left
                (stands-still b old.stamps old.catalog.tables st.pages old.open new.open same []
                (works st.pages h.at_work, λ told. absurd (false≢true (sym untold ∙ sym steady.told ∙ told))))
                (ap (λ o. work_in o new.open) still),
            subst (λ s. ContinuesSo a.told s (row None values ∷ []) (state_of a old.max old.mpl old.stamps (Some new.open) st.tables left)) (sym (working-is before st))
                (call-row a old.max old.mpl old.stamps old.open st.tables a.told st.left (keyless values ∷ []) [] values (λ t. absurd (false≢true (sym untold ∙ t))) (IsPermutation-refl (keyless values ∷ []))),
          )
      by before st true told =
          let h = work-is a old running before st in
          let r = h.rows told in
          let found = owed st.pages r.owed h.at_work r.owes in
          let left : Left = leaves_pairs st.left (map keyless found.0) in (
            state_of a old.max old.mpl old.stamps (Some new.open) st.tables left,
            moved before st (Some new.open) left
                (stands-still b old.stamps old.catalog.tables st.pages old.open new.open same (map keyless found.0)
                (works st.pages h.at_work, λ t. (found.0, found.2, IsPermutation-refl (map keyless found.0))))
                (ap (λ o. work_in o new.open) still),
            subst (λ s. ContinuesSo a.told s (row None values ∷ []) (state_of a old.max old.mpl old.stamps (Some new.open) st.tables left)) (sym (working-is before st))
                (call-row a old.max old.mpl old.stamps old.open st.tables a.told st.left st.left.pairs (map keyless found.0) values (λ t. refl)
                (subst (λ l. IsPermutation st.left.pairs (map keyless l)) found.1 r.in_any_order)),
          )

  pub turn-ends : new.is_open ≡ false
      → ((pages : ℕ → List ℕ) (left : List (List Value)) → IsAtWork a old.stamps old.catalog.tables pages its_form its_loops old.open.loops
      → Owes a old.stamps old.catalog.tables pages its_form its_loops old.open.loops left → left ≡ [])
      → StepsTo a b old new (ContinuesSo a.told) (ended None ∷ [])
  turn-ends shut nothing = record {
    to = λ before st.
        let h = work-is a old running before st in (
          state_of a old.max old.mpl old.stamps None st.tables nothing_left,
          moved before st None nothing_left tt (no-work new.is_open new.open shut),
          subst (λ s. ContinuesSo a.told s (ended None ∷ []) (state_of a old.max old.mpl old.stamps None st.tables nothing_left)) (sym (working-is before st))
              (call-end a old.max old.mpl old.stamps old.open st.tables a.told st.left (λ told.
              let r = h.rows told in
              none-in st.left.pairs (subst (λ l. IsPermutation st.left.pairs (map keyless l)) (nothing st.pages r.owed h.at_work r.owes) r.in_any_order))),
        );
  }

  pub turn-faults : (f : PageFault) → new.is_open ≡ false → TurnFault a b f → StepsTo a b old new (ContinuesSo a.told) (line_of f ∷ closed None ∷ [])
  turn-faults f shut cause = record {
    to = λ before st. (
      state_of a old.max old.mpl old.stamps None st.tables nothing_left,
      moved before st None nothing_left tt (no-work new.is_open new.open shut),
      subst (λ s. ContinuesSo a.told s (line_of f ∷ closed None ∷ []) (state_of a old.max old.mpl old.stamps None st.tables nothing_left)) (sym (working-is before st)) (by-cause f st.tables st.left cause),
    );
  }
    where
      by-cause : (f : PageFault) (tables : List TableState) (left : Left) → TurnFault a b f
          → ContinuesSo a.told (state_of a old.max old.mpl old.stamps (Some old.open) tables left) (line_of f ∷ closed None ∷ []) (state_of a old.max old.mpl old.stamps None tables nothing_left)
      by-cause fault.MainFault tables left cause = call-fails a old.max old.mpl old.stamps old.open tables a.told left Main
      by-cause fault.TempFault tables left cause = call-fails a old.max old.mpl old.stamps old.open tables a.told left Temp
      by-cause fault.MainFull tables left cause = absurd cause
      by-cause fault.TempFull tables left cause = absurd cause
      by-cause (fault.Damaged page check) tables left cause = call-damaged a old.max old.mpl old.stamps old.open tables a.told left page check cause

-- ---- which damage a turn finds

line-found : (a b : Space) (x : Tables) (pages : ℕ → List ℕ) (f : PageFault) → x.is_open ≡ true → AllByRecursion (HasChain a x.catalog.tables pages) x.open.plan.loops.items
    → TurnFault a b f → LookFault IsLoopCheck f → NamesRead pages x.open.plan.loops.items f → TellsFound (TurnFinds a x) (line_of f)
line-found a b x pages fault.MainFault running chains cause h n = λ no. absurd (false≢true no)
line-found a b x pages fault.TempFault running chains cause h n = λ no. absurd (false≢true no)
line-found a b x pages fault.MainFull running chains cause h n = λ no. absurd (false≢true no)
line-found a b x pages fault.TempFull running chains cause h n = λ no. absurd (false≢true no)
line-found a b x pages (fault.Damaged page check) running chains cause h n =
    λ yes. (page, check, refl, record { untold = cause; at_work = running; pages = pages; chains = chains; named = n; failed = h })

pub turn-found : (a b : Space) (x : Tables) (state : State) (f : PageFault) → (running : x.is_open ≡ true) → TablesAre a x state
    → TurnFault a b f → LookFault IsLoopCheck f
    → ((pages : ℕ → List ℕ) → IsAtWork a x.stamps x.catalog.tables pages (form_of_work x.open) x.open.plan.loops.items x.open.loops
    → NamesRead pages x.open.plan.loops.items f)
    → TellOnlyFound (TurnFinds a x) (line_of f ∷ closed None ∷ [])
turn-found a b x state f running st cause checks names =
    let h = work-is a x running state st in
    let chains : AllByRecursion (HasChain a x.catalog.tables st.pages) x.open.plan.loops.items =
    all-so (LoopStands a x.catalog.tables st.pages) (HasChain a x.catalog.tables st.pages) x.open.plan.loops.items (λ l stands. stands.chain) h.at_work.stand in
    (line-found a b x st.pages f running chains cause checks (names st.pages h.at_work), ((λ no. absurd (false≢true no)), tt))
