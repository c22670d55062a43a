-- What the tables of an engine are after a call over its space.
use Rattle.std.specs.Prelude.{◌≡◌, ◌≢◌, ℕ, zero, suc, ◌*◌, ◌<◌, ◌≤◌, ◌==◌, Bool, true, false, List, [], ◌∷◌, ◌++◌, length, map, Some, unwrap_or, if◌then◌else◌, slice_get, slice_set, slice_index_or}
use Rattle.std.specs.List.{AllByRecursion}
use Rattle.std.specs.List.Sorted.{IsPermutation}
use Rattle.std.proofs.Common.{sym, ◌∙◌, ap, subst, refl, arith, inl, inr, length-append}
use Rattle.std.proofs.lemmas.Bool.{false≢true}
use Rattle.std.proofs.lemmas.Bool.Decides.{nat_tests, eqb_tells}
use Rattle.std.proofs.lemmas.Grind.{common_steps}
use Rattle.std.proofs.lemmas.Option.{slice_get_within, slice_get-get_or}
use Rattle.std.proofs.lemmas.List.{map-append}
use Rattle.std.proofs.lemmas.List.Sorted.{IsPermutation-refl}
use Rattle.hg_base.specs.Space.{Space, key_in}
use Rattle.hg_base.specs.Lines.{NoneMine, has_page}
use Rattle.hg_base.specs.Steadiness.{Mine, Steady, IsSamePage}
use Rattle.hg_base.specs.declared.File.TheVariants.{Main}
use Rattle.hg_base.specs.declared.Table.{Table}
use Rattle.hg_bind.specs.Bound.{table_of}
use Rattle.hg_catalog.specs.Contents.{CatalogTable}
use Rattle.hg_table.specs.SeenLaws.{seen_rows-later, past-later}
use Rattle.hg_dml.specs.Putting.{Grows, table_mine}
use Rattle.hg_machine.specs.Plain.State.{TableState}
use Rattle.hg_model.specs.declared.trees.Column.{Column}
use Rattle.hg_model.specs.declared.values.Value.{Value}
use Rattle.hg_pool.specs.Resizing.{with_current}
use Rattle.hg_table.specs.Agreement.{IsTableOver, over_stays}
use Rattle.hg_table.specs.Calls.{none_mine}
use Rattle.hg_table.specs.Chains.{IsChain}
use Rattle.hg_table.specs.Marks.{last, committed}
use Rattle.hg_table.specs.TableLaws.{chain_stays, no_pages, empty_chain, empty_table, holds_stay}
use Rattle.hg_table.specs.Versions.{Placed}
use Rattle.hg_engine.specs.Standing.{HasRows, TableStands, TablesStand, rowless}
use Rattle.hg_engine.proofs.PageLaws.{all-pages, among-taken, none-mine}
use Rattle.hg_engine.proofs.Lookups.{get-set-here, map-set}

-- later marks: what was drawn before is committed as it was
pub record IsLater (old new : List Bool) : Type 0 where
  pub last : last old ≤ last new
  pub same : (k : ℕ) → k ≤ Rattle.hg_table.specs.Marks.last old → committed new k ≡ committed old k

pub later-same : (marks : List Bool) → IsLater marks marks
later-same marks = record { last = omega arith; same = λ k h. refl }

-- what stands on these pages stays
pub record StaysOn (a b : Space) (pages : List ℕ) : Type 0 where
  pub told : b.told ≡ a.told
  pub chain : (t : Table) → IsChain a t pages → IsChain b t pages
  pub table : (t : Table) (columns : List Column) (versions : List Placed) → IsTableOver a t columns pages versions → IsTableOver b t columns pages versions

pub stays-apart : (m : Mine) (a b : Space) (pages : List ℕ) → Steady m a b → NoneMine Main m pages → StaysOn a b pages
stays-apart m a b pages steady apart = record {
  told = steady.told;
  chain = λ t h. chain_stays m a b t pages steady apart h;
  table = λ t columns versions h. over_stays m a b t columns pages versions steady apart h;
}

pub stays-still : (a b : Space) (pages : List ℕ) → Steady none_mine a b → StaysOn a b pages
stays-still a b pages steady = stays-apart none_mine a b pages steady (none-mine pages)

same-each : (a : Space) (n : ℕ) (pages : List ℕ) → AllByRecursion (λ x. IsSamePage a (with_current a n) (key_in Main x)) pages
same-each a n [] = tt
same-each a n (x ∷ xs) = (record { taken = refl; of_heap = refl; bytes = refl; next = refl }, same-each a n xs)

-- another number of frames in use leaves all pages
pub stays-resized : (a : Space) (n : ℕ) (pages : List ℕ) → StaysOn a (with_current a n) pages
stays-resized a n pages = record {
  told = refl;
  chain = λ t h. chain t h;
  table = λ t columns versions h. record {
    table = record {
      told = h.table.told;
      chain = chain t h.table.chain;
      held = h.table.held;
      holds = holds_stay a (with_current a n) (length columns) h.table.held pages (same-each a n pages) h.table.holds;
      listed = h.table.listed;
    };
    fit = h.fit;
  };
}
  where
    chain : (t : Table) → IsChain a t pages → IsChain (with_current a n) t pages
    chain t h = record { line = record { taken = h.line.taken; no_heap = h.line.no_heap; path = h.line.path }; last = h.last }

-- the rows of a table stay, whoever draws a stamp
pub rows-later : (s : Space) (old new : List Bool) (c : CatalogTable) (t : TableState) (pages : List ℕ) → IsLater old new
    → HasRows s old c t pages → HasRows s new c t pages
rows-later s old new c t pages later h = record {
  versions = h.versions;
  table = h.table;
  past = past-later (last old) (last new) h.versions later.last h.past;
  seen = subst (IsPermutation t.table.rows) (sym (seen_rows-later (committed old) (committed new) (last old) (last new) h.versions later.same later.last h.past)) h.seen;
  count = h.count;
}

pub table-stays : (a b : Space) (old new : List Bool) (c : CatalogTable) (t : TableState) (pages : List ℕ) → StaysOn a b pages → IsLater old new
    → TableStands a old c t pages → TableStands b new c t pages
table-stays a b old new c t pages stays later stands = record {
  chain = stays.chain c.pages stands.chain;
  rows = λ told.
      let h = rows-later a old new c t pages later (stands.rows (sym stays.told ∙ told)) in
      record { versions = h.versions; table = stays.table c.pages c.columns h.versions h.table; past = h.past; seen = h.seen; count = h.count };
}

-- all tables stay
pub tables-stay : (a b : Space) (marks : List Bool) (catalog : List CatalogTable) (tables : List TableState) (pages : ℕ → List ℕ)
    → ((k : ℕ) → StaysOn a b (pages k)) → TablesStand a marks catalog tables pages → TablesStand b marks catalog tables pages
tables-stay a b marks catalog tables pages stays stand = record {
  shape = stand.shape;
  each = λ k c t hc ht. table-stays a b marks marks c t (pages k) (stays k) (later-same marks) (stand.each k c t hc ht);
  apart = stand.apart;
}

-- and stay, whoever draws a stamp
pub tables-later : (s : Space) (old new : List Bool) (catalog : List CatalogTable) (tables : List TableState) (pages : ℕ → List ℕ)
    → IsLater old new → TablesStand s old catalog tables pages → TablesStand s new catalog tables pages
tables-later s old new catalog tables pages later stand = record {
  shape = stand.shape;
  each = λ k c t hc ht.
      table-stays s s old new c t (pages k) (record { told = refl; chain = λ e h. h; table = λ e columns versions h. h }) later (stand.each k c t hc ht);
  apart = stand.apart;
}

-- ---- as many tables as in the catalog

length-map : {X Y : Type 0} (f : X → Y) (xs : List X) → length (map f xs) ≡ length xs
length-map f [] = refl
length-map f (x ∷ xs) = ap suc (length-map f xs)

pub same-count : (catalog : List CatalogTable) (tables : List TableState) → map rowless tables ≡ map table_of catalog → length tables ≡ length catalog
same-count catalog tables shape = sym (length-map rowless tables) ∙ ap length shape ∙ length-map table_of catalog

pub some-one : {X : Type 0} (x y : X) → Some x ≡ Some y → x ≡ y
some-one x y e = ap (λ o. unwrap_or o x) e

abbrev pub no_entry : CatalogTable
no_entry = record { name = []; columns = []; pages = no_pages }

abbrev pub no_state : TableState
no_state = record { table = record { name = []; columns = []; rows = [] }; versions = 0 }

-- the k-th table of the catalog and of the state
pub record FoundAt (s : Space) (marks : List Bool) (catalog : List CatalogTable) (tables : List TableState) (pages : ℕ → List ℕ) (k : ℕ) : Type 0 where
  pub entry : CatalogTable
  pub table : TableState
  pub at_entry : slice_get catalog k ≡ Some entry
  pub at_table : slice_get tables k ≡ Some table
  pub stands : TableStands s marks entry table (pages k)

pub found-at : (s : Space) (marks : List Bool) (catalog : List CatalogTable) (tables : List TableState) (pages : ℕ → List ℕ) (k : ℕ)
    → TablesStand s marks catalog tables pages → k < length catalog → FoundAt s marks catalog tables pages k
found-at s marks catalog tables pages k stand inside =
    let at_c : slice_get catalog k ≡ Some (slice_index_or catalog k no_entry) = slice_get-get_or catalog k no_entry inside in
    let at_t : slice_get tables k ≡ Some (slice_index_or tables k no_state) =
    slice_get-get_or tables k no_state (subst (λ n. k < n) (sym (same-count catalog tables stand.shape)) inside) in
    record {
      entry = slice_index_or catalog k no_entry;
      table = slice_index_or tables k no_state;
      at_entry = at_c;
      at_table = at_t;
      stands = stand.each k (slice_index_or catalog k no_entry) (slice_index_or tables k no_state) at_c at_t;
    }

-- ---- rows are put into one table

abbrev pub with_ends : CatalogTable → Table → CatalogTable
with_ends c ends = record { name = c.name; columns = c.columns; pages = ends }

-- the table with other rows, and so many versions
abbrev pub with_more : TableState → List (List Value) → ℕ → TableState
with_more t rows n = record { table = record { name = t.table.name; columns = t.table.columns; rows = rows }; versions = n }

-- the pages of each table, once one of them has others
abbrev pub pages_with : (ℕ → List ℕ) → ℕ → List ℕ → ℕ → List ℕ
pages_with pages k now j = if j == k then now else pages j

pub get-set-other : {X : Type 0} (xs : List X) (k j : ℕ) (x : X) → j ≢ k → slice_get (slice_set xs k x) j ≡ slice_get xs j
get-set-other [] k j x h = refl
get-set-other (y ∷ ys) zero zero x h = absurd (h refl)
get-set-other (y ∷ ys) zero (suc j) x h = refl
get-set-other (y ∷ ys) (suc k) zero x h = refl
get-set-other (y ∷ ys) (suc k) (suc j) x h = get-set-other ys k j x (λ e. h (ap suc e))

pub length-set : {X : Type 0} (xs : List X) (k : ℕ) (x : X) → length (slice_set xs k x) ≡ length xs
length-set xs k x = grind (arith, nat_tests, common_steps)

key-one : (x y : ℕ) → key_in Main x ≡ key_in Main y → x ≡ y
key-one x y e = let d : 2 * x ≡ 2 * y = e in omega arith

module _ (a b : Space) (old new : List Bool) (catalog : List CatalogTable) (tables : List TableState) (pages : ℕ → List ℕ)
    (k : ℕ) (c : CatalogTable) (t u : TableState) (ends : Table) (now : List ℕ) (n : ℕ) (later : IsLater old new)
    (stand : TablesStand a old catalog tables pages) (at_c : slice_get catalog k ≡ Some c) (at_t : slice_get tables k ≡ Some t)
    (g : Grows a b ends (pages k) now n) (same : rowless u ≡ rowless t)
    (one : TableStands b new (with_ends c ends) u now) where
  inside : k < length catalog
  inside = slice_get_within catalog k c at_c

  counted : length tables ≡ length catalog
  counted = same-count catalog tables stand.shape

  -- each page of another table was taken
  taken-there : (j x : ℕ) → j < length catalog → has_page (pages j) x ≡ true → a.taken (key_in Main x) ≡ true
  taken-there j x h among =
      let f = found-at a old catalog tables pages j stand h in
      (among-taken a.taken (a.limit Main) (pages j) x f.stands.chain.line.taken among).1

  -- no page of the table is one of another table
  apart-now : (j x : ℕ) → j < length catalog → j ≢ k → has_page now x ≡ true → has_page (pages j) x ≡ true → ⊥
  apart-now j x h other mine theirs = elim (g.from x mine) [
    | inl among ↦ stand.apart j k x h inside other theirs among
    | inr free ↦ false≢true (sym free ∙ taken-there j x h theirs)
  ]

  -- another table owns none of the pages
  none-of : (j : ℕ) → j < length catalog → j ≢ k → NoneMine Main (table_mine a (pages k)) (pages j)
  none-of j h other =
      all-pages (λ x. (table_mine a (pages k)).pages (key_in Main x) → ⊥) (pages j) (λ x theirs m. elim m [
        | inl mine ↦ stand.apart j k x h inside other theirs (subst (λ y. has_page (pages k) y ≡ true) (sym (key-one x mine.no mine.same)) mine.among)
        | inr free ↦ false≢true (sym free ∙ taken-there j x h theirs)
      ])

  each-here : (f : CatalogTable) (v : TableState) → slice_get (slice_set catalog k (with_ends c ends)) k ≡ Some f → slice_get (slice_set tables k u) k ≡ Some v
      → TableStands b new f v now
  each-here f v hf hv =
      let is_f : with_ends c ends ≡ f = some-one (with_ends c ends) f (sym (get-set-here catalog k (with_ends c ends) inside) ∙ hf) in
      let is_v : u ≡ v = some-one u v (sym (get-set-here tables k u (subst (λ l. k < l) (sym counted) inside)) ∙ hv) in
      subst (λ w. TableStands b new f w now) is_v (subst (λ w. TableStands b new w u now) is_f one)

  each-other : (j : ℕ) (f : CatalogTable) (v : TableState) → j ≢ k → slice_get catalog j ≡ Some f → slice_get tables j ≡ Some v
      → TableStands b new f v (pages j)
  each-other j f v other hf hv =
      table-stays a b old new f v (pages j)
      (stays-apart (table_mine a (pages k)) a b (pages j) g.steady (none-of j (slice_get_within catalog j f hf) other)) later (stand.each j f v hf hv)

  each-now : (j : ℕ) (f : CatalogTable) (v : TableState) → slice_get (slice_set catalog k (with_ends c ends)) j ≡ Some f → slice_get (slice_set tables k u) j ≡ Some v
      → TableStands b new f v (pages_with pages k now j)
  each-now j f v hf hv = elim (eqb_tells j k) [
    | inl same ↦
        let f_here : slice_get (slice_set catalog k (with_ends c ends)) k ≡ Some f = subst (λ i. slice_get (slice_set catalog k (with_ends c ends)) i ≡ Some f) same.1 hf in
        let v_here : slice_get (slice_set tables k u) k ≡ Some v = subst (λ i. slice_get (slice_set tables k u) i ≡ Some v) same.1 hv in
        subst (λ q. TableStands b new f v (if q then now else pages j)) (sym same.0) (each-here f v f_here v_here)
    | inr other ↦
        subst (λ q. TableStands b new f v (if q then now else pages j)) (sym other.0)
        (each-other j f v other.1 (sym (get-set-other catalog k j (with_ends c ends) other.1) ∙ hf) (sym (get-set-other tables k j u other.1) ∙ hv))
  ]

  apart-with : (i j x : ℕ) → i < length catalog → j < length catalog → i ≢ j → has_page (pages_with pages k now i) x ≡ true
      → has_page (pages_with pages k now j) x ≡ true → ⊥
  apart-with i j x hi hj differ mi mj = elim (eqb_tells i k) [
    | inl same ↦ elim (eqb_tells j k) [
      | inl also ↦ differ (same.1 ∙ sym also.1)
      | inr other ↦ apart-now j x hj other.1 (subst (λ q. has_page (if q then now else pages i) x ≡ true) same.0 mi)
          (subst (λ q. has_page (if q then now else pages j) x ≡ true) other.0 mj)
    ]
    | inr apart ↦ elim (eqb_tells j k) [
      | inl also ↦ apart-now i x hi apart.1 (subst (λ q. has_page (if q then now else pages j) x ≡ true) also.0 mj)
          (subst (λ q. has_page (if q then now else pages i) x ≡ true) apart.0 mi)
      | inr other ↦ stand.apart i j x hi hj differ (subst (λ q. has_page (if q then now else pages i) x ≡ true) apart.0 mi)
          (subst (λ q. has_page (if q then now else pages j) x ≡ true) other.0 mj)
    ]
  ]

  pub tables-then : TablesStand b new (slice_set catalog k (with_ends c ends)) (slice_set tables k u) (pages_with pages k now)
  tables-then = record {
    shape = map-set rowless tables k t u at_t same ∙ stand.shape ∙ sym (map-set table_of catalog k c (with_ends c ends) at_c refl);
    each = each-now;
    apart = λ i j x hi hj. apart-with i j x (subst (λ l. i < l) (length-set catalog k (with_ends c ends)) hi) (subst (λ l. j < l) (length-set catalog k (with_ends c ends)) hj);
  }

-- ---- a table of no page more

get-first : {X : Type 0} (xs : List X) (x : X) (k : ℕ) → k < length xs → slice_get (xs ++ x ∷ []) k ≡ slice_get xs k
get-first [] x k h = absurd (omega arith)
get-first (y ∷ ys) x zero h = refl
get-first (y ∷ ys) x (suc k) h = get-first ys x k (omega arith)

get-last : {X : Type 0} (xs : List X) (x : X) → slice_get (xs ++ x ∷ []) (length xs) ≡ Some x
get-last [] x = refl
get-last (y ∷ ys) x = get-last ys x

-- a table of no page is one of no row
pub new-stands : (s : Space) (marks : List Bool) (c : CatalogTable) (t : TableState) → c.pages ≡ no_pages → t.table.rows ≡ [] → t.versions ≡ 0
    → TableStands s marks c t []
new-stands s marks c t none no_rows no_versions = record {
  chain = subst (λ e. IsChain s e []) (sym none) (empty_chain s);
  rows = λ told. record {
    versions = [];
    table = subst (λ e. IsTableOver s e c.columns [] []) (sym none) (record { table = empty_table s (length c.columns) told; fit = tt });
    past = tt;
    seen = subst (λ rows. IsPermutation rows []) (sym no_rows) (IsPermutation-refl []);
    count = no_versions;
  };
}

module _ (s : Space) (marks : List Bool) (catalog : List CatalogTable) (tables : List TableState) (pages : ℕ → List ℕ) (c : CatalogTable) (t : TableState)
    (stand : TablesStand s marks catalog tables pages) (one : TableStands s marks c t []) (same : rowless t ≡ table_of c) where
  abbrev more-pages : ℕ → List ℕ
  more-pages k = if k == length catalog then [] else pages k

  counted-more : length tables ≡ length catalog
  counted-more = same-count catalog tables stand.shape

  each-more : (k : ℕ) (f : CatalogTable) (u : TableState) → slice_get (catalog ++ c ∷ []) k ≡ Some f → slice_get (tables ++ t ∷ []) k ≡ Some u
      → TableStands s marks f u (more-pages k)
  each-more k f u hf hu = elim (eqb_tells k (length catalog)) [
    | inl same ↦
        let last_f : Some c ≡ Some f = sym (get-last catalog c) ∙ subst (λ i. slice_get (catalog ++ c ∷ []) i ≡ Some f) same.1 hf in
        let last_u : Some t ≡ Some u = sym (get-last tables t) ∙ subst (λ i. slice_get (tables ++ t ∷ []) i ≡ Some u) (same.1 ∙ sym counted-more) hu in
        subst (λ q. TableStands s marks f u (if q then [] else pages k)) (sym same.0)
        (subst (λ w. TableStands s marks f w []) (some-one t u last_u) (subst (λ w. TableStands s marks w t []) (some-one c f last_f) one))
    | inr apart ↦
        let within : k < length (catalog ++ c ∷ []) = slice_get_within (catalog ++ c ∷ []) k f hf in
        let inside : k < length catalog = let n = apart.1 in omega (arith, length-append catalog (c ∷ [])) in
        subst (λ q. TableStands s marks f u (if q then [] else pages k)) (sym apart.0)
        (stand.each k f u (sym (get-first catalog c k inside) ∙ hf) (sym (get-first tables t k (subst (λ n. k < n) (sym counted-more) inside)) ∙ hu))
  ]

  none-on : (k x : ℕ) → k ≡ length catalog → has_page (more-pages k) x ≡ true → ⊥
  none-on k x same h =
      let e : (k == length catalog) ≡ true = grind (arith, nat_tests) in
      false≢true (subst (λ b. has_page (if b then [] else pages k) x ≡ true) e h)

  old-on : (k x : ℕ) → k ≢ length catalog → has_page (more-pages k) x ≡ true → has_page (pages k) x ≡ true
  old-on k x apart h =
      let e : (k == length catalog) ≡ false = grind (arith, nat_tests) in
      subst (λ b. has_page (if b then [] else pages k) x ≡ true) e h

  apart-more : (i j x : ℕ) → i < length (catalog ++ c ∷ []) → j < length (catalog ++ c ∷ []) → i ≢ j → has_page (more-pages i) x ≡ true
      → has_page (more-pages j) x ≡ true → ⊥
  apart-more i j x hi hj differ mi mj = elim (eqb_tells i (length catalog)) [
    | inl same ↦ none-on i x same.1 mi
    | inr apart_i ↦ elim (eqb_tells j (length catalog)) [
      | inl same ↦ none-on j x same.1 mj
      | inr apart_j ↦ stand.apart i j x (let n = apart_i.1 in omega (arith, length-append catalog (c ∷ []))) (let n = apart_j.1 in omega (arith, length-append catalog (c ∷ [])))
          differ (old-on i x apart_i.1 mi) (old-on j x apart_j.1 mj)
    ]
  ]

  pub tables-more : TablesStand s marks (catalog ++ c ∷ []) (tables ++ t ∷ []) more-pages
  tables-more = record {
    shape = map-append rowless tables (t ∷ []) ∙ (λ i. stand.shape i ++ same i ∷ []) ∙ sym (map-append table_of catalog (c ∷ []));
    each = each-more;
    apart = apart-more;
  }
