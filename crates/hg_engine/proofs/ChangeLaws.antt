-- What INSERT, DELETE and UPDATE have in common: what a change leaves of the tables, and what it spends.
use Rattle.std.specs.Prelude.{◌≡◌, ℕ, zero, suc, ◌+◌, ◌-◌, ◌^◌, ◌≤◌, ◌<◌, nat_le, Bool, true, false, List, [], ◌∷◌, length, map, Option, Some, None, not, slice_get, slice_set, if◌then◌else◌}
use Rattle.std.specs.List.{AllByRecursion, count_by, filter}
use Rattle.std.specs.List.Sorted.{IsPermutation}
use Rattle.std.proofs.Common.{sym, ◌∙◌, ap, subst, refl, arith, inl}
use Rattle.std.proofs.lemmas.Bool.{false≢true}
use Rattle.std.proofs.lemmas.Bool.Decides.{nat_tests}
use Rattle.std.proofs.lemmas.List.Sorted.{IsPermutation-refl, length_permutation}
use Rattle.std.proofs.lemmas.List.Sums.{length-filter}
use Rattle.std.proofs.lemmas.Option.{slice_get_within}
use Rattle.hg_base.specs.Space.{Space, key_in, taken_in, taken_below}
use Rattle.hg_base.specs.SteadyLaws.{Steady_wider}
use Rattle.hg_base.specs.TakenLaws.{taken_below-le}
use Rattle.hg_base.specs.declared.File.{File}
use Rattle.hg_base.specs.declared.File.TheVariants.{Main, Temp}
use Rattle.hg_base.specs.declared.Table.{Table as Ends}
use Rattle.hg_base.specs.declared.pages.PageFault.{PageFault}
use Rattle.hg_bind.specs.Bound.{table_of}
use Rattle.hg_catalog.specs.Contents.{Contents, CatalogTable, table_number, with_pages}
use Rattle.hg_dml.specs.declared.insertion.ChangeError.{ChangeError}
use Rattle.hg_dml.specs.declared.insertion.ChangeError.TheVariants as change
use Rattle.hg_dml.specs.Deleting.{Concerns, AreConcerned, IsHidden, WritesWithin, pages_mine}
use Rattle.hg_dml.specs.Inserting.{StandsAt, OnFault, OnRefused}
use Rattle.hg_dml.specs.Putting.{Grows, table_mine}
use Rattle.hg_table.specs.Seen.{seen_rows, IsPast}
use Rattle.hg_table.specs.SeenLaws.{past-later, seen_rows-later}
use Rattle.hg_dml.specs.Updating.{IsHiddenUpTo}
use Rattle.hg_exec.proofs.PlannedBags.{filter-moved}
use Rattle.hg_machine.specs.Plain.Licences.{Spends}
use Rattle.hg_machine.specs.Plain.Loose.{bare, bare_table}
use Rattle.hg_machine.specs.Plain.State.{State, TableState, is_table, versions_in, with_rows, has_rows}
use Rattle.hg_model.specs.ChangeMeaning.{stamp_cause}
use Rattle.hg_model.specs.Refusal.{StampsUsedUp}
use Rattle.hg_model.specs.Tables.{Table, table_named}
use Rattle.hg_model.specs.declared.trees.Column.{Column}
use Rattle.hg_model.specs.declared.values.Value.{Value}
use Rattle.hg_table.specs.Agreement.{IsTableOver}
use Rattle.hg_table.specs.Chains.{IsChain}
use Rattle.hg_table.specs.Marks.{last, committed, Draws, Commits}
use Rattle.hg_table.specs.Versions.{Placed}
use Rattle.hg_engine.specs.Standing.{Left, TableStands, TablesStand, HasRows, nothing_left, state_of, rowless}
use Rattle.hg_engine.specs.Stepping.{TablesAre, work_in}
use Rattle.hg_engine.specs.Steps.{MaySee}
use Rattle.hg_engine.specs.declared.tables.Tables.{Tables}
use Rattle.hg_engine.proofs.Lookups.{FirstAt, tables_in, rows-set, versions-set, versions-in, first-set, first-is, set-set, get-set-here, pages-set, map-set, named-first, number-first}
use Rattle.hg_engine.proofs.StandLaws.{IsLater, FoundAt, found-at, with_ends, pages_with, tables-then}
use Rattle.hg_engine.proofs.PageLaws.{few-still}
use Rattle.hg_engine.proofs.CreateLaws.{kept, no-work}

-- ---- marks

-- a stamp that was drawn
pub later-drawn : (old new : List Bool) (s : ℕ) → Draws old new s → IsLater old new
later-drawn old new s d = record { last = let n = d.next in let e = d.drawn in omega arith; same = λ k h. d.committed k }

-- a stamp that was drawn and committed
pub later-committed : (old mid new : List Bool) (s : ℕ) → Draws old mid s → Commits mid new s → IsLater old new
later-committed old mid new s d c = record {
  last = let n = d.next in let e = d.drawn in let l = c.last in omega arith;
  same = λ k h. c.others k (λ e. let n = d.next in absurd (omega arith)) ∙ d.committed k;
}

pub hidden-drawn : (old new : List Bool) (s : ℕ) → Draws old new s → committed new s ≡ false
hidden-drawn old new s d = d.committed s ∙ not-drawn old s (let n = d.next in omega arith)
  where
    beyond : (marks : List Bool) (n : ℕ) → length marks ≤ n → Rattle.std.specs.Prelude.slice_index_or marks n false ≡ false
    beyond [] n h = refl
    beyond (b ∷ bs) zero h = absurd (omega arith)
    beyond (b ∷ bs) (suc n) h = beyond bs n (omega arith)

    not-drawn : (marks : List Bool) (n : ℕ) → last marks < n → committed marks n ≡ false
    not-drawn marks zero h = refl
    not-drawn marks (suc n) h = beyond marks n (omega arith)

pub one-more : (old new : List Bool) (s : ℕ) → Draws old new s → last new ≡ last old + 1
one-more old new s d = let n = d.next in let e = d.drawn in omega arith

pub one-more-committed : (old mid new : List Bool) (s : ℕ) → Draws old mid s → Commits mid new s → last new ≡ last old + 1
one-more-committed old mid new s d c = let n = d.next in let e = d.drawn in let l = c.last in omega arith

-- ---- the table with its new rows

abbrev pub with_more : TableState → List (List Value) → ℕ → TableState
with_more t all n = record { table = record { name = t.table.name; columns = t.table.columns; rows = all }; versions = n }

-- it stands with these rows and with so many versions, at most so many more
pub record StandsWith (b : Space) (marks : List Bool) (c : CatalogTable) (t : TableState) (all : List (List Value)) (pages : List ℕ) (most : ℕ) : Type 0 where
  pub versions : ℕ
  pub more : t.versions ≤ versions
  pub few : versions ≤ t.versions + most
  pub stands : TableStands b marks c (with_more t all versions) pages

-- ---- stamps

pub stamps-left : (given : ℕ) → given < 2 ^ 20 → stamp_cause given ≡ None
stamps-left given few = let off : nat_le (2 ^ 20) given ≡ false = grind (arith, nat_tests) in ap (λ b. Rattle.hg_model.specs.Binding.cause_if b StampsUsedUp) off

pub stamps-gone : (given : ℕ) → given ≡ 2 ^ 20 → stamp_cause given ≡ Some StampsUsedUp
stamps-gone given all = let on : nat_le (2 ^ 20) given ≡ true = grind (arith, nat_tests) in ap (λ b. Rattle.hg_model.specs.Binding.cause_if b StampsUsedUp) on

pub set-same : {X : Type 0} (xs : List X) (k : ℕ) (x : X) → slice_get xs k ≡ Some x → slice_set xs k x ≡ xs
set-same [] k x h = refl
set-same (y ∷ ys) zero x h = ap (λ w. w ∷ ys) (sym (Rattle.hg_engine.proofs.StandLaws.some-one y x h))
set-same (y ∷ ys) (suc k) x h = ap (λ l. y ∷ l) (set-same ys k x h)

-- ---- what it spends

taken-fits : (s : Space) (file : File) → taken_in s file ≤ s.limit file
taken-fits s file = taken_below-le s.taken file (s.limit file)

module _ (a b : Space) (max mpl : ℕ) (old new : List Bool) (listed : List TableState) (left : Left) (k : ℕ) (u : TableState) (name : List ℕ) (n : ℕ)
    (first : FirstAt (is_table name) listed k) (at : slice_get listed k ≡ Some u) (limit : b.limit ≡ a.limit) (current : b.heaps.current ≡ a.heaps.current)
    (temp_same : taken_in b Temp ≡ taken_in a Temp) (one_more : last new ≡ last old + 1) where
  abbrev grown : List TableState
  grown = slice_set listed k (record { table = u.table; versions = n })

  pub spends : (main temp versions : ℕ) → taken_in a Main ≤ taken_in b Main → taken_in b Main ≤ taken_in a Main + main → u.versions ≤ n → n ≤ u.versions + versions
      → Spends (record { main = main; temp = temp; versions = versions; stamps = 1; lowers = false }) name
      (state_of a max mpl old None listed left) (state_of b max mpl new None grown nothing_left)
  spends main temp versions more few rows_more rows_few =
      let same : versions_in listed name ≡ u.versions = versions-in listed name k u first at in record {
        used = taken_in b Main;
        over = taken_in b Temp;
        versions = n;
        main = record { not_less = λ h. more; few = few };
        temp = record { not_less = λ h. omega (arith, temp_same); few = omega (arith, temp_same) };
        rows = record { not_less = λ h. omega (arith, same, rows_more); few = omega (arith, same, rows_few) };
        main_fits = λ h. let f = taken-fits b Main in let l = ap (λ g. g Main) limit in omega (arith, f, l);
        temp_fits = λ h. let f = taken-fits b Temp in let l = ap (λ g. g Temp) limit in omega (arith, f, l);
        after = λ i. record (state_of b max mpl new None grown nothing_left) {
          tables = sym (versions-set listed name k u n first at) i;
          current = current i;
          stamps = one_more i;
          main_limit = limit i Main;
          temp_limit = limit i Temp;
        };
      }

-- ---- the table of a change

pub not-off : (b : Bool) → not b ≡ false → b ≡ true
not-off true h = refl
not-off false h = sym h

pub length-mapped : {X Y : Type 0} (f : X → Y) (xs : List X) → length (map f xs) ≡ length xs
length-mapped f [] = refl
length-mapped f (x ∷ xs) = ap suc (length-mapped f xs)

pub shape-at : (catalog : List CatalogTable) (tables : List TableState) (k : ℕ) (c : CatalogTable) (t : TableState) → map rowless tables ≡ map table_of catalog
    → slice_get catalog k ≡ Some c → slice_get tables k ≡ Some t → rowless t ≡ table_of c
shape-at catalog tables k c t shape hc ht =
    let mapped : ◌≡◌ {A = Option Table} (Some (rowless t)) (Some (table_of c)) =
    ap (Rattle.std.specs.Prelude.option_map rowless) (sym ht) ∙ sym (Rattle.std.proofs.lemmas.Option.slice_get-map rowless tables k) ∙ ap (λ l. slice_get l k) shape
    ∙ Rattle.std.proofs.lemmas.Option.slice_get-map table_of catalog k ∙ ap (Rattle.std.specs.Prelude.option_map table_of) hc in
    Rattle.hg_engine.proofs.StandLaws.some-one (rowless t) (table_of c) mapped

pub stands-at : (s : Space) (x : Tables) (k : ℕ) (state : State) → TablesAre s x state → StandsAt s x.catalog k
stands-at s x k state st c hc =
    let f = found-at s x.stamps x.catalog.tables st.tables st.pages k st.stand (slice_get_within x.catalog.tables k c hc) in
    let one : TableStands s x.stamps c f.table (st.pages k) = st.stand.each k c f.table hc f.at_table in
    record { pages = st.pages k; chain = one.chain; whole = λ told. let h = one.rows told in (h.versions, h.table) }

-- the same over an equal catalog
pub stands-over : (s : Space) (c d : Contents) (k : ℕ) → d ≡ c → StandsAt s c k → StandsAt s d k
stands-over s c d k same h = subst (λ e. StandsAt s e k) (sym same) h

-- what is told of an error of a change that is of one kind
pub at-fault : (e : ChangeError) (f : PageFault) (P : PageFault → Type 0) → e ≡ change.Fault f → OnFault P e → P f
at-fault e f P is h = subst (OnFault P) is h

pub at-refused : (e : ChangeError) (code : ℕ) (column : Option ℕ) (P : ℕ → Option ℕ → Type 0) → e ≡ change.Refused code column → OnRefused P e → P code column
at-refused e code column P is h = subst (OnRefused P) is h

-- ---- pages

-- a change that takes no page
pub grows-within : (a b : Space) (t : Ends) (pages : List ℕ) → WritesWithin a b t pages → Grows a b t pages pages 0
grows-within a b t pages w =
    let same : (file : File) → taken_in b file ≡ taken_in a file = λ file.
    ap (λ f. taken_below f file (b.limit file)) w.taken ∙ ap (λ l. taken_below a.taken file (l file)) w.steady.limit in
    let main = same Main in record {
      chain = w.chain;
      from = λ x h. inl h;
      steady = Steady_wider (pages_mine pages) (table_mine a pages) a b (λ q m. inl m) (λ h n. n) (λ r n. n) w.steady;
      stays = λ q h. ap (λ f. f q) w.taken ∙ h;
      none_lent = λ none q. w.of_heap q ∙ none q;
      more = omega (arith, main);
      few = omega (arith, main);
      owned = λ x h. inl (sym (ap (λ f. f (key_in Main x)) w.taken) ∙ h);
      temp = same Temp;
    }

pub same-ends : (c : Contents) (k : ℕ) (e : CatalogTable) → slice_get c.tables k ≡ Some e → record c { tables = with_pages c.tables k e.pages } ≡ c
same-ends c k e at = ap (λ l. record c { tables = l }) (pages-set c.tables k e e.pages at ∙ set-same c.tables k e at)

-- ---- what the machine sees in the place of a state

-- the state with other rows in one table
abbrev pub seen_state : Space → (max mpl : ℕ) → List Bool → List TableState → Left → ℕ → TableState → List (List Value) → State
seen_state s max mpl marks tables left k t all = state_of s max mpl marks None (slice_set tables k (has_rows all t)) left

pub may-see : (s : Space) (max mpl : ℕ) (marks : List Bool) (tables : List TableState) (left : Left) (k : ℕ) (t : TableState) (all : List (List Value)) (told : Bool)
    → slice_get tables k ≡ Some t → (told ≡ true → all ≡ t.table.rows) → MaySee told (state_of s max mpl marks None tables left) (seen_state s max mpl marks tables left k t all)
may-see s max mpl marks tables left k t all told at itself =
    let now : State = state_of s max mpl marks None tables left in record {
      itself = λ yes. ap (λ l. state_of s max mpl marks None l left) (ap (λ rows. slice_set tables k (has_rows rows t)) (itself yes) ∙ set-same tables k t at);
      alike = ap (λ l. record (bare now) { tables = l }) (sym (map-set bare_table tables k t (has_rows all t) at refl));
    }

-- Rows in the place of a table's: its own, where the space tells; and those that go are these.
pub record Chosen (told : Bool) (rows : List (List Value)) (goes : List Value → Bool) (gone all : List (List Value)) : Type 0 where
  pub itself : told ≡ true → all ≡ rows
  pub going : IsPermutation (filter goes all) gone

all-going : (columns : List Column) (goes : List Value → Bool) (gone : List (List Value)) → AllByRecursion (Concerns columns goes) gone → filter goes gone ≡ gone
all-going columns goes [] h = refl
all-going columns goes (row ∷ rows) h =
    ap (λ b. if b then row ∷ filter goes rows else filter goes rows) h.0.passes ∙ ap (λ l. row ∷ l) (all-going columns goes rows h.1)

module _ (a : Space) (old mid : List Bool) (c : CatalogTable) (t : TableState) (pages : List ℕ) (stamp : ℕ) (draws : Draws old mid stamp) (stands : TableStands a old c t pages) where
  -- the rows that the last stamp before this one sees
  pub seen-before : (h : HasRows a old c t pages) → IsPermutation t.table.rows (seen_rows (committed mid) (stamp - 1) h.versions)
  seen-before h =
      subst (IsPermutation t.table.rows)
      (sym (seen_rows-later (committed old) (committed mid) (last old) (stamp - 1) h.versions (λ n few. draws.committed n) (let n = draws.next in omega arith) h.past)) h.seen

  pub chosen : (goes : List Value → Bool) (gone : List (List Value)) → AreConcerned a c.pages pages c.columns (committed mid) (stamp - 1) goes gone
      → (all : List (List Value)) × Chosen a.told t.table.rows goes gone all
  chosen goes gone concerned = by a.told refl
    where
      by : (told : Bool) → a.told ≡ told → (all : List (List Value)) × Chosen a.told t.table.rows goes gone all
      by true told =
          let h = stands.rows told in
          let are = concerned.all h.versions h.table in (
            t.table.rows,
            record {
              itself = λ yes. refl;
              going = subst (IsPermutation (filter goes t.table.rows)) (sym are) (filter-moved goes t.table.rows (seen_rows (committed mid) (stamp - 1) h.versions) (seen-before h));
            },
          )
      by false untold = (
        gone,
        record {
          itself = λ yes. absurd (false≢true (sym untold ∙ yes));
          going = subst (λ l. IsPermutation l gone) (sym (all-going c.columns goes gone concerned.each)) (IsPermutation-refl gone);
        },
      )

  -- the same where fewer rows may be named than there are
  pub chosen-some : (goes : List Value → Bool) (gone : List (List Value)) → AllByRecursion (Concerns c.columns goes) gone
      → ((versions : List Placed) → IsTableOver a c.pages c.columns pages versions → length gone ≤ count_by goes (seen_rows (committed mid) (stamp - 1) versions))
      → (all : List (List Value)) × (a.told ≡ true → all ≡ t.table.rows) × (length gone ≤ count_by goes all)
  chosen-some goes gone each few = by a.told refl
    where
      by : (told : Bool) → a.told ≡ told → (all : List (List Value)) × (a.told ≡ true → all ≡ t.table.rows) × (length gone ≤ count_by goes all)
      by true told =
          let h = stands.rows told in
          let was : List (List Value) = seen_rows (committed mid) (stamp - 1) h.versions in
          let same : count_by goes was ≡ count_by goes t.table.rows =
          sym (length-filter goes was) ∙ length_permutation (filter goes t.table.rows) (filter goes was) (filter-moved goes t.table.rows was (seen-before h)) ∙ length-filter goes t.table.rows in
          (t.table.rows, (λ yes. refl), let some = few h.versions h.table in omega (arith, same, some))
      by false untold =
          let same : count_by goes gone ≡ length gone = sym (length-filter goes gone) ∙ ap length (all-going c.columns goes gone each) in
          (gone, (λ yes. absurd (false≢true (sym untold ∙ yes))), omega (arith, same))

-- ---- what stands behind a change

-- where the space tells: the versions of a table now, and which rows they show
pub record ShowsNow (b : Space) (marks : List Bool) (ends : Ends) (columns : List Column) (pages : List ℕ) (all : List (List Value)) (least most : ℕ) : Type 0 where
  pub versions : List Placed
  pub table : IsTableOver b ends columns pages versions
  pub past : AllByRecursion (IsPast (last marks)) versions
  pub seen : IsPermutation all (seen_rows (committed marks) (last marks) versions)
  pub more : least ≤ length versions
  pub few : length versions ≤ least + most

pub stands-with : (b : Space) (marks : List Bool) (c : CatalogTable) (ends : Ends) (t : TableState) (all : List (List Value)) (pages : List ℕ) (most : ℕ)
    → IsChain b ends pages → (b.told ≡ true → ShowsNow b marks ends c.columns pages all t.versions most) → StandsWith b marks (with_ends c ends) t all pages most
stands-with b marks c ends t all pages most chain shows = by b.told refl
  where
    by : (told : Bool) → b.told ≡ told → StandsWith b marks (with_ends c ends) t all pages most
    by false untold = record {
      versions = t.versions;
      more = omega arith;
      few = omega arith;
      stands = record { chain = chain; rows = λ told. absurd (false≢true (sym untold ∙ told)) };
    }
    by true told =
        let h = shows told in record {
          versions = length h.versions;
          more = h.more;
          few = h.few;
          stands = record { chain = chain; rows = λ yes. record { versions = h.versions; table = h.table; past = h.past; seen = h.seen; count = refl } };
        }

-- what nobody sees takes no version
pub hidden-none : (committed : ℕ → Bool) (snapshot stamp : ℕ) (old new : List Placed) → IsHidden committed snapshot stamp old new → IsHiddenUpTo committed snapshot stamp 0 old new
hidden-none committed snapshot stamp old new h = record { unseen = h.unseen; past = h.past; not_fewer = let n = h.count in omega arith; few = let n = h.count in omega arith }

-- where the stamp is not committed: the rows that were there
pub shows-hidden : (a b : Space) (old mid : List Bool) (c : CatalogTable) (t : TableState) (pages now : List ℕ) (ends : Ends) (stamp most : ℕ) → Draws old mid stamp
    → TableStands a old c t pages → b.told ≡ a.told
    → ((versions : List Placed) → IsTableOver a c.pages c.columns pages versions
    → (more : List Placed) × IsTableOver b ends c.columns now more × IsHiddenUpTo (committed mid) (stamp - 1) stamp most versions more)
    → (all : List (List Value)) → (a.told ≡ true → all ≡ t.table.rows) → b.told ≡ true → ShowsNow b mid ends c.columns now all t.versions most
shows-hidden a b old mid c t pages now ends stamp most draws stands same hidden all itself told =
    let told_a : a.told ≡ true = sym same ∙ told in
    let h = stands.rows told_a in
    let later = later-drawn old mid stamp draws in
    let done = hidden h.versions h.table in
    let before = past-later (last old) (stamp - 1) h.versions (let x = draws.next in omega arith) h.past in
    let unseen = done.2.unseen (committed mid) (last mid) (λ q few. refl) (inl (hidden-drawn old mid stamp draws)) before in
    let is : List (List Value) = seen_rows (committed mid) (last mid) done.0 in
    record {
      versions = done.0;
      table = done.1;
      past = done.2.past (last mid) (let x = draws.drawn in omega arith) (past-later (last old) (last mid) h.versions later.last h.past);
      seen = subst (λ l. IsPermutation l is) (sym (itself told_a))
          (subst (IsPermutation t.table.rows) (sym (unseen ∙ seen_rows-later (committed old) (committed mid) (last old) (last mid) h.versions later.same later.last h.past)) h.seen);
      more = let x = done.2.not_fewer in let y = h.count in omega arith;
      few = let x = done.2.few in let y = h.count in omega arith;
    }

module _ (a b : Space) (old new : Tables) (name : List ℕ) (k : ℕ)
    (idle : old.is_open ≡ false) (still : new.is_open ≡ old.is_open) (max : new.max ≡ old.max) (mpl : new.mpl ≡ old.mpl)
    (number : table_number old.catalog name ≡ Some k) (inside : k < length old.catalog.tables) (before : State) (st : TablesAre a old before) where
  abbrev pub resting : State
  resting = state_of a old.max old.mpl old.stamps None st.tables st.left

  pub resting-is : before ≡ resting
  resting-is = st.is ∙ ap (λ c. state_of a old.max old.mpl old.stamps c st.tables st.left) (no-work old.is_open old.open idle)

  pub there : FoundAt a old.stamps old.catalog.tables st.tables st.pages k
  there = found-at a old.stamps old.catalog.tables st.tables st.pages k st.stand inside

  pub first-there : FirstAt (is_table name) st.tables k
  first-there = number-first old.catalog st.tables name k st.stand.shape number

  -- with these rows in the table's place
  abbrev pub seen : List (List Value) → State
  seen all = seen_state a old.max old.mpl old.stamps st.tables st.left k there.table all

  pub sees : (all : List (List Value)) → (a.told ≡ true → all ≡ there.table.table.rows) → MaySee a.told before (seen all)
  sees all itself =
      subst (λ s. MaySee a.told s (seen all)) (sym resting-is)
      (may-see a old.max old.mpl old.stamps st.tables st.left k there.table all a.told there.at_table itself)

  pub first-seen : (all : List (List Value)) → FirstAt (is_table name) (slice_set st.tables k (has_rows all there.table)) k
  first-seen all = first-set st.tables name k (has_rows all there.table) first-there (first-is st.tables name k there.table first-there there.at_table)

  pub get-seen : (all : List (List Value)) → slice_get (slice_set st.tables k (has_rows all there.table)) k ≡ Some (has_rows all there.table)
  get-seen all = get-set-here st.tables k (has_rows all there.table) (slice_get_within st.tables k there.table there.at_table)

  pub named-seen : (all : List (List Value)) → table_named (tables_in (seen all).tables) name ≡ Some (has_rows all there.table).table
  named-seen all = named-first (seen all).tables name k (has_rows all there.table) (first-seen all) (get-seen all)

  pub shape-seen : (all : List (List Value)) → map rowless (seen all).tables ≡ map table_of old.catalog.tables
  shape-seen all = map-set rowless st.tables k there.table (has_rows all there.table) there.at_table refl ∙ st.stand.shape

  pub columns-there : there.entry.columns ≡ there.table.table.columns
  columns-there = sym (ap (λ (w : Table). w.columns) (shape-at old.catalog.tables st.tables k there.entry there.table st.stand.shape there.at_entry there.at_table))

  -- what was written, and what the table shows now
  module _ (ends : Ends) (all : List (List Value)) (now : List ℕ) (marks : List Bool) (n most : ℕ)
      (g : Grows a b ends (st.pages k) now n) (later : IsLater old.stamps marks) (one : last marks ≡ last old.stamps + 1)
      (w : StandsWith b marks (with_ends there.entry ends) there.table all now most)
      (moved : new.catalog ≡ record old.catalog { tables = with_pages old.catalog.tables k ends }) (stamped : new.stamps ≡ marks) where
    abbrev pub after : State
    after = state_of b old.max old.mpl marks None (slice_set st.tables k (with_more there.table all w.versions)) nothing_left

    pub stands-after : TablesAre b new after
    stands-after = kept b new None after old.max old.mpl (record old.catalog { tables = with_pages old.catalog.tables k ends }) marks moved stamped (no-work new.is_open new.open (still ∙ idle)) max mpl (record {
      pins = g.steady.pins_after;
      none_lent = g.none_lent st.none_lent;
      most = g.steady.most ∙ st.most;
      some_may = st.some_may;
      few_temp = few-still a b g.steady.limit st.few_temp;
      no_indexes = st.no_indexes;
      tables = slice_set st.tables k (with_more there.table all w.versions);
      pages = pages_with st.pages k now;
      stand = subst (λ l. TablesStand b marks l (slice_set st.tables k (with_more there.table all w.versions)) (pages_with st.pages k now)) (sym (pages-set old.catalog.tables k there.entry ends there.at_entry))
          (tables-then a b old.stamps marks old.catalog.tables st.tables st.pages k there.entry there.table (with_more there.table all w.versions) ends now n later st.stand there.at_entry there.at_table g refl w.stands);
      left = nothing_left;
      stands = tt;
      is = refl;
    })

    -- a change that was made, whatever rows were seen
    pub spent-made : (was : List (List Value)) (main temp versions : ℕ) → n ≤ main → most ≤ versions
        → Spends (record { main = main; temp = temp; versions = versions; stamps = 1; lowers = false }) name (with_rows (seen was) name all) after
    spent-made was main temp versions em ev =
        let t : TableState = there.table in
        let mine : List TableState → Type 0 = λ l. Spends (record { main = main; temp = temp; versions = versions; stamps = 1; lowers = false }) name
        (state_of a old.max old.mpl old.stamps None l st.left) after in
        let P : List TableState → Type 0 = λ l. Spends (record { main = main; temp = temp; versions = versions; stamps = 1; lowers = false }) name
        (state_of a old.max old.mpl old.stamps None (slice_set st.tables k (has_rows all t)) st.left) (state_of b old.max old.mpl marks None l nothing_left) in
        let one' : P (slice_set st.tables k (with_more t all w.versions)) = subst P (set-set st.tables k (has_rows all t) (with_more t all w.versions))
        (spends a b old.max old.mpl old.stamps marks (slice_set st.tables k (has_rows all t)) st.left k (has_rows all t) name w.versions (first-seen all) (get-seen all)
        g.steady.limit g.steady.current g.temp one main temp versions g.more (let f = g.few in omega (arith, f, em)) w.more (let f = w.few in omega (arith, f, ev))) in
        subst mine (sym (rows-set (slice_set st.tables k (has_rows was t)) name k (has_rows was t) all (first-seen was) (get-seen was) ∙ set-set st.tables k (has_rows was t) (has_rows all t))) one'

    -- a change that was refused or ended leaves the rows that were seen
    pub spent-kept : (main temp versions : ℕ) → n ≤ main → most ≤ versions
        → Spends (record { main = main; temp = temp; versions = versions; stamps = 1; lowers = false }) name (seen all) after
    spent-kept main temp versions em ev =
        let t : TableState = there.table in
        let P : List TableState → Type 0 = λ l. Spends (record { main = main; temp = temp; versions = versions; stamps = 1; lowers = false }) name
        (seen all) (state_of b old.max old.mpl marks None l nothing_left) in
        subst P (set-set st.tables k (has_rows all t) (with_more t all w.versions))
        (spends a b old.max old.mpl old.stamps marks (slice_set st.tables k (has_rows all t)) st.left k (has_rows all t) name w.versions (first-seen all) (get-seen all)
        g.steady.limit g.steady.current g.temp one main temp versions g.more (let f = g.few in omega (arith, f, em)) w.more (let f = w.few in omega (arith, f, ev)))

-- ---- a change that writes nothing

module _ (s : Space) (old new : Tables) (idle : old.is_open ≡ false) (still : new.is_open ≡ old.is_open) (max : new.max ≡ old.max) (mpl : new.mpl ≡ old.mpl)
    (catalog : new.catalog ≡ old.catalog) (stamps : new.stamps ≡ old.stamps) (before : State) (st : TablesAre s old before) where
  pub unmoved : TablesAre s new before
  unmoved = kept s new (work_in old.is_open old.open) before old.max old.mpl old.catalog old.stamps catalog stamps
      (no-work new.is_open new.open (still ∙ idle) ∙ sym (no-work old.is_open old.open idle)) max mpl st

pub resting-here : (s : Space) (old : Tables) → old.is_open ≡ false → (before : State) (st : TablesAre s old before)
    → before ≡ state_of s old.max old.mpl old.stamps None st.tables st.left
resting-here s old idle before st = st.is ∙ ap (λ c. state_of s old.max old.mpl old.stamps c st.tables st.left) (no-work old.is_open old.open idle)
