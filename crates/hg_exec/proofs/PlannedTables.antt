-- The tables of FROM by their numbers: each is there, has the columns that the binder saw, and its rows fit.
use Rattle.std.specs.Prelude.{◌≡◌, ℕ, zero, suc, ◌≤◌, ◌&&◌, not, Bool, true, false, List, [], ◌∷◌, length, map, nat_le, nat_lt, is_some, option_map, slice_get, slice_index, Option, Some, None, if◌then◌else◌}
use Rattle.std.specs.Cmp.{first_so, second_so}
use Rattle.std.specs.List.{AllByRecursion, list_all}
use Rattle.std.specs.List.Sorted.{IsPermutation}
use Rattle.std.proofs.Common.{sym, ◌∙◌, ap, refl, arith, cond}
use Rattle.std.proofs.lemmas.Bool.{false≢true}
use Rattle.std.proofs.lemmas.Bool.Decides.{nat_tests}
use Rattle.std.proofs.lemmas.List.{length-map}
use Rattle.std.proofs.lemmas.List.Sorted.{IsPermutation-sym}
use Rattle.std.proofs.lemmas.Option.{slice_get-map}
use Rattle.hg_bind.specs.Bound.{table_of, tables_of}
use Rattle.hg_bind.specs.BoundMeaning.{AreTablesOf, bare, rows_at, width_at}
use Rattle.hg_bind.specs.BoundSelect.{AreTables, widths_of}
use Rattle.hg_catalog.specs.Contents.{CatalogTable, Contents, IsSound, are_different_names, is_new_table}
use Rattle.hg_model.specs.Binding.{select_refusal, cause_if, unknown_table}
use Rattle.hg_model.specs.Query.{Query}
use Rattle.hg_model.specs.Refusal.{Refusal, TooWide, UnknownTable, first_cause}
use Rattle.hg_model.specs.Scope.{columns_of, rows_of}
use Rattle.hg_model.specs.Tables.{Table, fits_columns, same_name, table_fits, table_named}
use Rattle.hg_model.specs.Types.{all_narrow}
use Rattle.hg_model.specs.declared.trees.Column.{Column}
use Rattle.hg_model.specs.declared.trees.FromTable.{FromTable}
use Rattle.hg_model.specs.declared.values.Value.{Value}
use Rattle.hg_exec.specs.Joins.{TableRows}
use Rattle.hg_exec.specs.Planned.{HoldRows}
use Rattle.hg_exec.proofs.Joining.{fits-length}
use Rattle.hg_exec.proofs.Meaning.{map-map}
use Rattle.hg_exec.proofs.PlannedBags.{list_all-moved}
use Rattle.hg_exec.proofs.PlannedPlaces.{AreWide}

-- ---- causes that are not there

cause-left : (o : Option Refusal) (more : List (Option Refusal)) → first_cause (o ∷ more) ≡ None → (o ≡ None) × (first_cause more ≡ None)
unfolding first_cause
cause-left None more h = (refl, h)
cause-left (Some r) more h = absurd cc

tables-known : (ts : List Table) (q : Query) → select_refusal ts q ≡ None → unknown_table ts q.tables ≡ None
unfolding select_refusal
tables-known ts q h = (cause-left (unknown_table ts q.tables) _ h).0

each-known : (ts : List Table) (froms : List FromTable) → unknown_table ts froms ≡ None → AllByRecursion (λ (f : FromTable). is_some (table_named ts f.table) ≡ true) froms
each-known ts [] h = tt
each-known ts (f ∷ fs) h = by (is_some (table_named ts f.table)) refl h (each-known ts fs)
  where
    by : (b : Bool) → is_some (table_named ts f.table) ≡ b → (if b then unknown_table ts fs else Some (UnknownTable f.table)) ≡ None
        → (unknown_table ts fs ≡ None → AllByRecursion (λ (f : FromTable). is_some (table_named ts f.table) ≡ true) fs)
        → (is_some (table_named ts f.table) ≡ true) × AllByRecursion (λ (f : FromTable). is_some (table_named ts f.table) ≡ true) fs
    by true e h more = (e, more h)
    by false e h more = absurd cc

-- ---- tables by their numbers

abbrev pub IsThere : List Table → ℕ → Type 0
IsThere ts n = is_some (slice_get ts n) ≡ true

numbers-there : (ts : List Table) (froms : List FromTable) (numbers : List ℕ) → map (slice_get ts) numbers ≡ map (λ (f : FromTable). table_named ts f.table) froms
    → AllByRecursion (λ (f : FromTable). is_some (table_named ts f.table) ≡ true) froms → AllByRecursion (IsThere ts) numbers
numbers-there ts [] [] e h = tt
numbers-there ts [] (n ∷ ns) e h = absurd cc
numbers-there ts (f ∷ fs) [] e h = tt
numbers-there ts (f ∷ fs) (n ∷ ns) e h =
    let one : slice_get ts n ≡ table_named ts f.table = cc in
    let others : map (slice_get ts) ns ≡ map (λ (f : FromTable). table_named ts f.table) fs = cc in
    (ap is_some one ∙ h.0, numbers-there ts fs ns others h.1)

pub all-there : (ts : List Table) (q : Query) (numbers : List ℕ) → select_refusal ts q ≡ None → AreTables ts q.tables numbers → AllByRecursion (IsThere ts) numbers
all-there ts q numbers none are = numbers-there ts q.tables numbers are (each-known ts q.tables (tables-known ts q none))

pub as-many : (ts : List Table) (froms : List FromTable) (numbers : List ℕ) → AreTables ts froms numbers → length numbers ≡ length froms
as-many ts froms numbers are = sym (length-map numbers (slice_get ts)) ∙ ap length are ∙ length-map froms (λ (f : FromTable). table_named ts f.table)

pub widths-there : (ts : List Table) (froms : List FromTable) (numbers : List ℕ) → AreTables ts froms numbers → map (width_at ts) numbers ≡ widths_of ts froms
widths-there ts froms numbers are =
    sym (map-map (λ (o : Option Table). length (columns_of o)) (slice_get ts) numbers)
    ∙ ap (map (λ (o : Option Table). length (columns_of o))) are
    ∙ map-map (λ (o : Option Table). length (columns_of o)) (λ (f : FromTable). table_named ts f.table) froms

-- ---- the same tables with other rows

bare-there : (o : Option Table) → is_some (option_map bare o) ≡ is_some o
bare-there None = refl
bare-there (Some t) = refl

bare-columns : (o : Option Table) → columns_of (option_map bare o) ≡ columns_of o
bare-columns None = refl
bare-columns (Some t) = refl

module _ (seen stored : List Table) (alike : map bare stored ≡ map bare seen) where
  bare-at : (n : ℕ) → option_map bare (slice_get stored n) ≡ option_map bare (slice_get seen n)
  bare-at n = sym (slice_get-map bare stored n) ∙ ap (λ ts. slice_get ts n) alike ∙ slice_get-map bare seen n

  there-too : (n : ℕ) → IsThere seen n → IsThere stored n
  there-too n h = sym (bare-there (slice_get stored n)) ∙ ap is_some (bare-at n) ∙ bare-there (slice_get seen n) ∙ h

  pub all-there-too : (ns : List ℕ) → AllByRecursion (IsThere seen) ns → AllByRecursion (IsThere stored) ns
  all-there-too [] h = tt
  all-there-too (n ∷ ns) h = (there-too n h.0, all-there-too ns h.1)

  columns-too : (n : ℕ) → columns_of (slice_get stored n) ≡ columns_of (slice_get seen n)
  columns-too n = sym (bare-columns (slice_get stored n)) ∙ ap columns_of (bare-at n) ∙ bare-columns (slice_get seen n)

  pub widths-too : (ns : List ℕ) → map (width_at stored) ns ≡ map (width_at seen) ns
  widths-too [] = refl
  widths-too (n ∷ ns) =
      ap (λ cs. length cs ∷ map (width_at stored) ns) (columns-too n) ∙ ap (λ r. width_at seen n ∷ r) (widths-too ns)

  pub names-too : map (λ (t : Table). t.name) stored ≡ map (λ (t : Table). t.name) seen
  names-too =
      sym (map-map (λ (t : Table). t.name) bare stored) ∙ ap (map (λ (t : Table). t.name)) alike ∙ map-map (λ (t : Table). t.name) bare seen

-- ---- rows that fit

all-fit : (ts : List Table) → ((k : ℕ) (t : Table) → slice_get ts k ≡ Some t → table_fits t ≡ true) → list_all table_fits ts ≡ true
all-fit [] h = refl
all-fit (t ∷ ts) h = by (table_fits t) (h 0 t refl) (all-fit ts (λ k u e. h (suc k) u e))
  where
    by : (b : Bool) → b ≡ true → list_all table_fits ts ≡ true → (b && list_all table_fits ts) ≡ true
    by true e more = more
    by false e more = absurd (false≢true e)

fit-widths : (cs : List Column) (rows : List (List Value)) → list_all (fits_columns cs) rows ≡ true → AllByRecursion (λ row. length row ≡ length cs) rows
fit-widths cs [] h = tt
fit-widths cs (row ∷ rows) h = (
  fits-length cs row (first_so (fits_columns cs row) (list_all (fits_columns cs) rows) h),
  fit-widths cs rows (second_so (fits_columns cs row) (list_all (fits_columns cs) rows) h),
)

module _ (c : Contents) (stored : List Table) (rows : TableRows) (sound : IsSound c) (held : HoldRows (tables_of c) stored rows) where
  pub are-tables : AreTablesOf (tables_of c) stored
  are-tables = record {
    bare_are = held.bare_are;
    different = ap are_different_names (names-too (tables_of c) stored held.bare_are ∙ map-map (λ (t : Table). t.name) table_of c.tables) ∙ sound.different_names;
    fit = all-fit stored (λ k t e. list_all-moved (fits_columns t.columns) (rows k) t.rows (IsPermutation-sym t.rows (rows k) (held.each k t e)) (held.fit k t e));
  }

  moved-at : (n : ℕ) → IsThere stored n → IsPermutation (rows_at stored n) (rows n)
  moved-at n there = by (slice_get stored n) refl there
    where
      by : (o : Option Table) → slice_get stored n ≡ o → is_some o ≡ true → IsPermutation (rows_of o) (rows n)
      by None e h = absurd (false≢true h)
      by (Some t) e h = held.each n t e

  pub all-moved : (ns : List ℕ) → AllByRecursion (IsThere stored) ns → AllByRecursion (λ n. IsPermutation (rows_at stored n) (rows n)) ns
  all-moved [] h = tt
  all-moved (n ∷ ns) h = (moved-at n h.0, all-moved ns h.1)

  wide-at : (n : ℕ) → IsThere stored n → AllByRecursion (λ row. length row ≡ width_at stored n) (rows n)
  wide-at n there = by (slice_get stored n) refl there
    where
      by : (o : Option Table) → slice_get stored n ≡ o → is_some o ≡ true → AllByRecursion (λ row. length row ≡ length (columns_of o)) (rows n)
      by None e h = absurd (false≢true h)
      by (Some t) e h = fit-widths t.columns (rows n) (held.fit n t e)

  pub all-wide : (ns : List ℕ) → AllByRecursion (IsThere stored) ns → AreWide (map rows ns) (map (width_at stored) ns)
  all-wide [] h = tt
  all-wide (n ∷ ns) h = (wide-at n h.0, all-wide ns h.1)

-- ---- tables of few columns

narrow-table : (ts : List CatalogTable) → list_all is_new_table ts ≡ true → (name : List ℕ) → length (columns_of (table_named (map table_of ts) name)) ≤ 16
narrow-table [] h name = omega arith
narrow-table (t ∷ ts) h name =
    by (same_name t.name name) (first_so (is_new_table t) (list_all is_new_table ts) h) (narrow-table ts (second_so (is_new_table t) (list_all is_new_table ts) h) name)
  where
    by : (b : Bool) → is_new_table t ≡ true → length (columns_of (table_named (map table_of ts) name)) ≤ 16
        → length (columns_of (cond b (Some (table_of t)) (table_named (map table_of ts) name))) ≤ 16
    by true new more =
        let few : nat_le (length t.columns) 16 ≡ true =
        first_so (nat_le (length t.columns) 16) (are_different_names (map (λ (c : Column). c.name) t.columns))
        (second_so (nat_lt 0 (length t.columns)) (nat_le (length t.columns) 16 && are_different_names (map (λ (c : Column). c.name) t.columns)) new) in
        grind (arith, nat_tests)
    by false new more = more

pub narrow-widths : (ts : List CatalogTable) → list_all is_new_table ts ≡ true → (froms : List FromTable) (t : ℕ) → slice_index (widths_of (map table_of ts) froms) t ≤ 16
narrow-widths ts h [] t = omega arith
narrow-widths ts h (f ∷ fs) zero = narrow-table ts h f.table
narrow-widths ts h (f ∷ fs) (suc t) = narrow-widths ts h fs t

-- ---- no number of a SELECT grows too wide

eighth : (a b c d e f g h : Option Refusal) (more : List (Option Refusal)) → first_cause (a ∷ b ∷ c ∷ d ∷ e ∷ f ∷ g ∷ h ∷ more) ≡ None → h ≡ None
eighth a b c d e f g h more none =
    let first = (cause-left a (b ∷ c ∷ d ∷ e ∷ f ∷ g ∷ h ∷ more) none).1 in
    let second = (cause-left b (c ∷ d ∷ e ∷ f ∷ g ∷ h ∷ more) first).1 in
    let third = (cause-left c (d ∷ e ∷ f ∷ g ∷ h ∷ more) second).1 in
    let fourth = (cause-left d (e ∷ f ∷ g ∷ h ∷ more) third).1 in
    let fifth = (cause-left e (f ∷ g ∷ h ∷ more) fourth).1 in
    let sixth = (cause-left f (g ∷ h ∷ more) fifth).1 in
    let seventh = (cause-left g (h ∷ more) sixth).1 in
    (cause-left h more seventh).0

no-cause : (b : Bool) (r : Refusal) → cause_if (not b) r ≡ None → b ≡ true
no-cause true r h = refl
no-cause false r h = absurd cc

pub nodes-narrow : (ts : List Table) (q : Query) → select_refusal ts q ≡ None → all_narrow q.nodes ≡ true
unfolding select_refusal
nodes-narrow ts q h = no-cause (all_narrow q.nodes) TooWide (eighth _ _ _ _ _ _ _ _ _ h)
