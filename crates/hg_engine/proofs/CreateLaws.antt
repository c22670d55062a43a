-- A table is made, or not.
use Rattle.std.specs.Prelude.{◌≡◌, ℕ, zero, suc, ◌+◌, ◌≤◌, ◌<◌, ◌==◌, Bool, true, false, List, [], ◌∷◌, ◌++◌, length, map, Option, Some, None, is_some, not, ◌||◌, ◌&&◌, if◌then◌else◌}
use Rattle.std.specs.List.{count_by, list_all, list_any}
use Rattle.std.proofs.Common.{sym, ◌∙◌, ap, subst, refl, arith}
use Rattle.std.proofs.lemmas.Bool.{false≢true}
use Rattle.hg_base.specs.Space.{Space}
use Rattle.hg_bind.specs.Bound.{table_of, tables_of, indexes_of}
use Rattle.hg_catalog.specs.Contents.{Contents, CatalogTable}
use Rattle.hg_machine.specs.Plain.Begin.{BeginsCommand}
use Rattle.hg_machine.specs.Plain.CreateTable.{CreatesTable, refused, made, with_table, new_table}
use Rattle.hg_machine.specs.Plain.Loose.{with_any_rows, finds_damage, looks_at_pages}
use Rattle.hg_machine.specs.Plain.Refused.{refusal_line, damaged}
use Rattle.hg_machine.specs.Plain.Replies.{ReplyLine, created, device_fault}
use Rattle.hg_machine.specs.Plain.State.{State, TableState, is_table, versions_in, versions_set}
use Rattle.hg_model.specs.Creation.{create_table_refusal, created_column, indexes_from, is_key}
use Rattle.hg_model.specs.Refusal.{Refusal, first_cause}
use Rattle.hg_model.specs.Statements.{CommandTree, CreateTable, TableTree}
use Rattle.hg_model.specs.Tables.{table_named}
use Rattle.hg_model.specs.declared.trees.NewColumn.{NewColumn}
use Rattle.hg_base.specs.declared.Check.{Check}
use Rattle.hg_base.specs.declared.File.{File}
use Rattle.hg_base.specs.declared.PageId.{PageId}
use Rattle.hg_reply.specs.Built.{is_plain_column}
use Rattle.hg_reply.specs.Steps.{BeginsSo}
use Rattle.hg_table.specs.TableLaws.{no_pages}
use Rattle.hg_engine.specs.Standing.{Stands, nothing_left, state_of}
use Rattle.hg_engine.specs.Stepping.{TablesAre, StepsTo, work_in}
use Rattle.hg_engine.specs.Steps.{MaySee}
use Rattle.hg_engine.specs.declared.open.OpenSelect.{OpenSelect}
use Rattle.hg_engine.specs.declared.tables.Tables.{Tables}
use Rattle.hg_engine.proofs.Lookups.{some-same, tables_in}
use Rattle.hg_engine.proofs.StandLaws.{same-count, new-stands, tables-more}

-- ---- how a command begins, over devices of either kind

pub begins-same : (told : Bool) (c : CommandTree) (texts : List ℕ) (old new : State) (lines : List ReplyLine)
    → BeginsCommand old c texts lines new → BeginsSo told c texts old lines new
begins-same true c texts old new lines took = took
begins-same false c texts old new lines took = with_any_rows old refl took

-- the same of whoever sees other rows
pub begins-seen : (told : Bool) (c : CommandTree) (texts : List ℕ) (old seen new : State) (lines : List ReplyLine) → MaySee told old seen
    → BeginsCommand seen c texts lines new → BeginsSo told c texts old lines new
begins-seen true c texts old seen new lines see took = subst (λ s. BeginsCommand s c texts lines new) (see.itself refl) took
begins-seen false c texts old seen new lines see took = with_any_rows seen see.alike took

pub begins-damaged-seen : (told : Bool) (c : CommandTree) (texts : List ℕ) (old seen new : State) (file : File) (page : PageId) (check : Check) (more : List ReplyLine)
    → told ≡ false → looks_at_pages c ≡ true → MaySee told old seen → BeginsCommand seen c texts (device_fault file ∷ more) new
    → BeginsSo told c texts old (damaged page check ∷ more) new
begins-damaged-seen true c texts old seen new file page check more untold looks see took = absurd (false≢true (sym untold))
begins-damaged-seen false c texts old seen new file page check more untold looks see took = finds_damage seen file page check more looks see.alike took refl

-- the refusal is that of the catalog's tables
create-same : (c : Contents) (tables : List TableState) (t : TableTree) → map Rattle.hg_engine.specs.Standing.rowless tables ≡ map table_of c.tables → c.indexes ≡ []
    → create_table_refusal (tables_in tables) [] t ≡ create_table_refusal (tables_of c) (indexes_of c) t
unfolding create_table_refusal
create-same c tables t shape none =
    let there : is_some (table_named (tables_in tables) t.name) ≡ is_some (table_named (tables_of c) t.name) = some-same c tables shape t.name in
    let count : length (tables_in tables) ≡ length (tables_of c) = length-in tables ∙ same-count c.tables tables shape ∙ sym (length-of c.tables) in
    λ i. first_cause
    (Rattle.hg_model.specs.Binding.cause_if (there i) (Rattle.hg_model.specs.Refusal.NameTaken t.name)
    ∷ Rattle.hg_model.specs.Binding.repeated_name (map (λ (c : NewColumn). c.column.name) t.columns)
    ∷ Rattle.hg_model.specs.Binding.cause_if (Rattle.std.specs.Prelude.nat_lt 1 (count_by (λ (c : NewColumn). c.primary) t.columns)) (Rattle.hg_model.specs.Refusal.TooMany Rattle.hg_model.specs.declared.trees.Count.TheVariants.PrimaryKeys)
    ∷ Rattle.hg_model.specs.Binding.cause_if (Rattle.std.specs.Prelude.nat_le 64 (count i)) (Rattle.hg_model.specs.Refusal.TooMany Rattle.hg_model.specs.declared.trees.Count.TheVariants.Tables)
    ∷ Rattle.hg_model.specs.Binding.cause_if (Rattle.std.specs.Prelude.nat_lt 64 (length (map (Rattle.hg_bind.specs.Bound.index_of c.tables) (sym none i)) + count_by is_key t.columns)) (Rattle.hg_model.specs.Refusal.TooMany Rattle.hg_model.specs.declared.trees.Count.TheVariants.Indexes)
    ∷ [])
  where
    length-in : (ts : List TableState) → length (tables_in ts) ≡ length ts
    length-in [] = refl
    length-in (u ∷ us) = ap suc (length-in us)

    length-of : (cs : List CatalogTable) → length (map table_of cs) ≡ length cs
    length-of [] = refl
    length-of (d ∷ ds) = ap suc (length-of ds)

-- ---- no key, no index

pub and-both : (a b : Bool) → (a && b) ≡ true → (a ≡ true) × (b ≡ true)
and-both true b h = (refl, h)
and-both false b h = absurd (false≢true h)

no-key : (c : NewColumn) → is_plain_column c ≡ true → is_key c ≡ false
no-key c h = by (is_key c) h
  where
    by : (b : Bool) → not b ≡ true → b ≡ false
    by true h = absurd (false≢true h)
    by false h = refl

pub no-indexes : (table : List ℕ) (k : ℕ) (cs : List NewColumn) → list_all is_plain_column cs ≡ true → indexes_from table k cs ≡ []
no-indexes table k [] h = refl
no-indexes table k (c ∷ cs) h =
    let both = and-both (is_plain_column c) (list_all is_plain_column cs) h in
    ap (λ b. if b then record { name = None; table = table; columns = k ∷ []; unique = true } ∷ indexes_from table (suc k) cs else indexes_from table (suc k) cs) (no-key c both.0)
    ∙ no-indexes table (suc k) cs both.1

versions-same : (ts : List TableState) (name : List ℕ) → versions_set ts name (versions_in ts name) ≡ ts
versions-same [] name = refl
versions-same (t ∷ ts) name = by (is_table name t) (versions-same ts name)
  where
    by : (b : Bool) → versions_set ts name (versions_in ts name) ≡ ts
        → (if b then (record { table = t.table; versions = (if b then t.versions else versions_in ts name) }) ∷ ts else t ∷ versions_set ts name (if b then t.versions else versions_in ts name)) ≡ t ∷ ts
    by true rest = refl
    by false rest = ap (λ l. t ∷ l) rest

-- what an engine keeps by now
pub kept : (s : Space) (x : Tables) (work : Option OpenSelect) (state : State) (max mpl : ℕ) (catalog : Contents) (marks : List Bool) → x.catalog ≡ catalog → x.stamps ≡ marks
    → work_in x.is_open x.open ≡ work → x.max ≡ max → x.mpl ≡ mpl → Stands s max mpl catalog marks work state → TablesAre s x state
kept s x work state max mpl catalog marks c m w k l st =
    subst (λ n. Stands s x.max n x.catalog x.stamps (work_in x.is_open x.open) state) (sym l)
    (subst (λ n. Stands s n mpl x.catalog x.stamps (work_in x.is_open x.open) state) (sym k)
    (subst (λ n. Stands s max mpl x.catalog x.stamps n state) (sym w)
    (subst (λ n. Stands s max mpl x.catalog n work state) (sym m)
    (subst (λ n. Stands s max mpl n marks work state) (sym c) st))))

-- no SELECT is at work
pub no-work : (b : Bool) (w : OpenSelect) → b ≡ false → work_in b w ≡ None
no-work b w idle = ap (λ o. work_in o w) idle

-- ---- the two ways of CREATE TABLE

module _ (s : Space) (old : Tables) (t : TableTree) (texts : List ℕ) where
  pub create-refused : (r : Refusal) → create_table_refusal (tables_of old.catalog) (indexes_of old.catalog) t ≡ Some r
      → StepsTo s s old old (BeginsSo s.told (CreateTable t) texts) (refusal_line r ∷ [])
  create-refused r cause = record {
    to = λ before st.
        let now : State = state_of s old.max old.mpl old.stamps (work_in old.is_open old.open) st.tables st.left in
        let why : create_table_refusal (tables_in st.tables) [] t ≡ Some r = create-same old.catalog st.tables t st.stand.shape st.no_indexes ∙ cause in (
          before,
          st,
          begins-same s.told (CreateTable t) texts before before (refusal_line r ∷ [])
              (subst (λ b. CreatesTable b t (refusal_line r ∷ []) b) (sym st.is) (refused r why refl refl)),
        );
  }

  pub create-made : (new : Tables) → create_table_refusal (tables_of old.catalog) (indexes_of old.catalog) t ≡ None → list_all is_plain_column t.columns ≡ true → old.is_open ≡ false
      → new.catalog ≡ record old.catalog { tables = old.catalog.tables ++ record { name = t.name; columns = map created_column t.columns; pages = no_pages } ∷ [] }
      → new.stamps ≡ old.stamps → new.is_open ≡ old.is_open → new.max ≡ old.max → new.mpl ≡ old.mpl
      → StepsTo s s old new (BeginsSo s.told (CreateTable t) texts) (created ∷ [])
  create-made new none plain idle grown stamps scan max mpl = record {
    to = λ before st.
        let entry : CatalogTable = record { name = t.name; columns = map created_column t.columns; pages = no_pages } in
        let more : List TableState = st.tables ++ new_table t ∷ [] in
        let after : State = state_of s old.max old.mpl old.stamps None more nothing_left in
        let is : before ≡ state_of s old.max old.mpl old.stamps None st.tables st.left = st.is ∙ ap (λ c. state_of s old.max old.mpl old.stamps c st.tables st.left) (no-work old.is_open old.open idle) in
        let why : create_table_refusal (tables_in st.tables) [] t ≡ None = create-same old.catalog st.tables t st.stand.shape st.no_indexes ∙ none in
        let standing : Stands s old.max old.mpl (record old.catalog { tables = old.catalog.tables ++ entry ∷ [] }) old.stamps None after = record {
          pins = st.pins;
          none_lent = st.none_lent;
          most = st.most;
          some_may = st.some_may;
          few_temp = st.few_temp;
          no_indexes = st.no_indexes;
          tables = more;
          pages = λ k. if k == length old.catalog.tables then [] else st.pages k;
          stand = tables-more s old.stamps old.catalog.tables st.tables st.pages entry (new_table t) st.stand
              (new-stands s old.stamps entry (new_table t) refl refl refl) refl;
          left = nothing_left;
          stands = tt;
          is = refl;
        } in
        let spent : after ≡ record (with_table (state_of s old.max old.mpl old.stamps None st.tables st.left) t) {
          tables = versions_set more t.name (versions_in more t.name);
          used = after.used;
          over = after.over;
          stamps = after.stamps + 0;
        } = λ i. record after {
          tables = sym (versions-same more t.name) i;
          indexes = sym (no-indexes t.name 0 t.columns plain) i;
          stamps = (let z : after.stamps ≡ after.stamps + 0 = omega arith in z) i;
        } in (
          after,
          kept s new None after old.max old.mpl (record old.catalog { tables = old.catalog.tables ++ entry ∷ [] }) old.stamps grown stamps (no-work new.is_open new.open (scan ∙ idle)) max mpl standing,
          begins-same s.told (CreateTable t) texts before after (created ∷ [])
              (subst (λ b. CreatesTable b t (created ∷ []) after) (sym is) (made why refl (record {
                used = after.used;
                over = after.over;
                versions = versions_in more t.name;
                main = record { not_less = λ h. omega arith; few = omega arith };
                temp = record { not_less = λ h. omega arith; few = omega arith };
                rows = record { not_less = λ h. omega arith; few = omega arith };
                main_fits = λ h. h;
                temp_fits = λ h. h;
                after = spent;
              }))),
        );
  }
