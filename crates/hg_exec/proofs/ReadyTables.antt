-- The tables of a planned SELECT's loops are those of FROM.
use Rattle.std.proofs.Common.{◌≡◌, ◌<◌, ◌≤◌, ℕ, zero, suc, ◌+◌, ◌*◌, Bool, true, false, List, [], ◌∷◌, ◌++◌, Option, Some, None, map, refl, sym, ap, subst, ◌∙◌, length, ◌&&◌, is_some, if◌then◌else◌, arith}
use Rattle.std.specs.Prelude.{nat_le, nat_lt, slice_get, slice_index, ⊤}
use Rattle.std.specs.Cmp.{first_so, second_so}
use Rattle.std.specs.List.{AllByRecursion, list_all}
use Rattle.std.proofs.lemmas.Bool.Decides.{nat_tests}
use Rattle.hg_bind.specs.Bound.{table_of}
use Rattle.hg_bind.specs.BoundSelect.{widths_of}
use Rattle.hg_catalog.specs.Contents.{CatalogTable, are_different_names, is_new_table}
use Rattle.hg_expr.specs.Slots.{is_named, named_below, named_columns}
use Rattle.hg_model.specs.Binding.{unknown_table}
use Rattle.hg_model.specs.Refusal.{Refusal, UnknownTable}
use Rattle.hg_model.specs.Scope.{columns_of}
use Rattle.hg_model.specs.Tables.{Table, fits_columns, table_named}
use Rattle.hg_model.specs.declared.trees.Column.{Column}
use Rattle.hg_model.specs.declared.trees.FromTable.{FromTable}
use Rattle.hg_model.specs.declared.trees.Node.{Node}
use Rattle.hg_model.specs.declared.values.Value.{Value}
use Rattle.hg_plan.specs.Planning.{AreNamed}
use Rattle.hg_plan.specs.declared.plan.TableLoop.{TableLoop}
use Rattle.hg_exec.specs.Planned.{IsLoopOver}
use Rattle.hg_exec.specs.Standing.{AreRowsOf, entry}

entry_columns : (ts : List CatalogTable) (k : ℕ) → columns_of (slice_get (map table_of ts) k) ≡ (entry ts k).columns
entry_columns [] k = refl
entry_columns (t ∷ ts) zero = refl
entry_columns (t ∷ ts) (suc k) = entry_columns ts k

new_few : (t : CatalogTable) → is_new_table t ≡ true → length t.columns ≤ 16
new_few t h =
    let rest = second_so (nat_lt 0 (length t.columns)) (nat_le (length t.columns) 16 && are_different_names (map (λ (c : Column). c.name) t.columns)) h in
    let few : nat_le (length t.columns) 16 ≡ true = first_so (nat_le (length t.columns) 16) (are_different_names (map (λ (c : Column). c.name) t.columns)) rest in
    grind (arith, nat_tests)

few_columns : (ts : List CatalogTable) (k : ℕ) → list_all is_new_table ts ≡ true → length (entry ts k).columns ≤ 16
few_columns [] k h = omega arith
few_columns (t ∷ ts) zero h = new_few t (first_so (is_new_table t) (list_all is_new_table ts) h)
few_columns (t ∷ ts) (suc k) h = few_columns ts k (second_so (is_new_table t) (list_all is_new_table ts) h)

entry_inside : (ts : List CatalogTable) (k : ℕ) → is_some (slice_get (map table_of ts) k) ≡ true → k < length ts
entry_inside [] k h = absurd cc
entry_inside (t ∷ ts) zero h = omega arith
entry_inside (t ∷ ts) (suc k) h = let more = entry_inside ts k h in omega (arith, more)

-- each loop is over the table of FROM at its place
abbrev pub AreOver : List CatalogTable → List FromTable → List TableLoop → Type 0
AreOver ts [] [] = ⊤
AreOver ts [] (l ∷ ls) = ⊥
AreOver ts (f ∷ fs) [] = ⊥
AreOver ts (f ∷ fs) (l ∷ ls) = (slice_get (map table_of ts) l.table ≡ table_named (map table_of ts) f.table) × AreOver ts fs ls

pub are_over : (ts : List CatalogTable) (froms : List FromTable) (loops : List TableLoop)
    → map (slice_get (map table_of ts)) (map (λ (l : TableLoop). l.table) loops) ≡ map (λ (f : FromTable). table_named (map table_of ts) f.table) froms → AreOver ts froms loops
are_over ts [] [] h = tt
are_over ts [] (l ∷ ls) h = absurd cc
are_over ts (f ∷ fs) [] h = absurd cc
are_over ts (f ∷ fs) (l ∷ ls) h =
    let here : slice_get (map table_of ts) l.table ≡ table_named (map table_of ts) f.table = cc in
    let more : map (slice_get (map table_of ts)) (map (λ (l : TableLoop). l.table) ls) ≡ map (λ (f : FromTable). table_named (map table_of ts) f.table) fs = cc in
    (here, are_over ts fs ls more)

pub over_count : (ts : List CatalogTable) (froms : List FromTable) (loops : List TableLoop) → AreOver ts froms loops → length loops ≡ length froms
over_count ts [] [] h = refl
over_count ts [] (l ∷ ls) h = absurd h
over_count ts (f ∷ fs) [] h = absurd h
over_count ts (f ∷ fs) (l ∷ ls) h = ap suc (over_count ts fs ls h.1)

-- the columns of a loop's table are those of the table of FROM
columns_alike : (ts : List CatalogTable) (f : FromTable) (l : TableLoop) → slice_get (map table_of ts) l.table ≡ table_named (map table_of ts) f.table
    → (entry ts l.table).columns ≡ columns_of (table_named (map table_of ts) f.table)
columns_alike ts f l h = sym (entry_columns ts l.table) ∙ ap columns_of h

pub few_widths : (ts : List CatalogTable) (froms : List FromTable) (loops : List TableLoop) (k : ℕ) → AreOver ts froms loops → list_all is_new_table ts ≡ true
    → slice_index (widths_of (map table_of ts) froms) k ≤ 16
few_widths ts [] loops k h new = omega arith
few_widths ts (f ∷ fs) [] k h new = absurd h
few_widths ts (f ∷ fs) (l ∷ ls) zero h new = subst (λ cs. length cs ≤ 16) (columns_alike ts f l h.0) (few_columns ts l.table new)
few_widths ts (f ∷ fs) (l ∷ ls) (suc k) h new = few_widths ts fs ls k h.1 new

-- rows of the first tables of FROM, each of which fits its columns
abbrev pub FitFroms : List Table → List FromTable → List (List Value) → Type 0
FitFroms tables froms [] = ⊤
FitFroms tables [] (row ∷ rows) = ⊥
FitFroms tables (f ∷ fs) (row ∷ rows) = (fits_columns (columns_of (table_named tables f.table)) row ≡ true) × FitFroms tables fs rows

pub rows_fit_froms : (ts : List CatalogTable) (froms : List FromTable) (loops : List TableLoop) (rows : List (List Value)) → AreOver ts froms loops → AreRowsOf ts loops rows
    → FitFroms (map table_of ts) froms rows
rows_fit_froms ts froms loops [] h fit = tt
rows_fit_froms ts [] [] (row ∷ rows) h fit = absurd fit
rows_fit_froms ts [] (l ∷ ls) (row ∷ rows) h fit = absurd h
rows_fit_froms ts (f ∷ fs) [] (row ∷ rows) h fit = absurd h
rows_fit_froms ts (f ∷ fs) (l ∷ ls) (row ∷ rows) h fit =
    (subst (λ cs. fits_columns cs row ≡ true) (columns_alike ts f l h.0) fit.0, rows_fit_froms ts fs ls rows h.1 fit.1)

pub rows_few : (tables : List Table) (froms : List FromTable) (rows : List (List Value)) → FitFroms tables froms rows → length rows ≤ length froms
rows_few tables froms [] h = omega arith
rows_few tables [] (row ∷ rows) h = absurd h
rows_few tables (f ∷ fs) (row ∷ rows) h = let more = rows_few tables fs rows h.1 in omega (arith, more)

-- ---- the named columns of a table are there

all_append : {X : Type 0} (P : X → Type 0) (xs ys : List X) → AllByRecursion P xs → AllByRecursion P ys → AllByRecursion P (xs ++ ys)
all_append P [] ys h g = g
all_append P (x ∷ xs) ys h g = (h.0, all_append P xs ys h.1 g)

known_next : (b : Bool) (r : Refusal) (o : Option Refusal) → (if b then o else Some r) ≡ None → (b ≡ true) × (o ≡ None)
known_next true r o h = (refl, h)
known_next false r o h = absurd cc

module _ (ns : List Node) (ps : List (ℕ × ℕ)) where
  named_all : (P : ℕ → Type 0) (t n : ℕ) → ((i : ℕ) → i < n → is_named ns ps (16 * t + i) ≡ true → P i) → AllByRecursion P (named_below ns ps t n)
  named_all P t zero h = tt
  named_all P t (suc n) h =
      all_append P (named_below ns ps t n) (if is_named ns ps (16 * t + n) then n ∷ [] else [])
      (named_all P t n (λ i below. h i (omega (arith, below)))) (last (is_named ns ps (16 * t + n)) (h n (omega arith)))
    where
      last : (b : Bool) → (b ≡ true → P n) → AllByRecursion P (if b then n ∷ [] else [])
      last true g = (g refl, tt)
      last false g = tt

  columns_all : (P : ℕ → Type 0) (t : ℕ) → ((i : ℕ) → i < 16 → is_named ns ps (16 * t + i) ≡ true → P i) → AllByRecursion P (named_columns ns ps t)
  unfolding named_columns
  columns_all P t h = named_all P t 16 h

  pub loops_over : (ts : List CatalogTable) (k : ℕ) (froms : List FromTable) (loops : List TableLoop) → AreOver ts froms loops → unknown_table (map table_of ts) froms ≡ None
      → AreNamed ns ps k loops
      → ((j i : ℕ) → i < 16 → is_named ns ps (16 * (k + j) + i) ≡ true → i < slice_index (widths_of (map table_of ts) froms) j)
      → AllByRecursion (IsLoopOver ts) loops
  loops_over ts k [] [] h known named inside = tt
  loops_over ts k [] (l ∷ ls) h known named inside = absurd h
  loops_over ts k (f ∷ fs) [] h known named inside = absurd h
  loops_over ts k (f ∷ fs) (l ∷ ls) h known named inside =
      let both = known_next (is_some (table_named (map table_of ts) f.table)) (UnknownTable f.table) (unknown_table (map table_of ts) fs) known in
      let z : k + 0 ≡ k = omega arith in
      let there : AllByRecursion (λ i. i < length (entry ts l.table).columns) (named_columns ns ps k) =
      columns_all (λ i. i < length (entry ts l.table).columns) k
      (λ i below is. subst (λ cs. i < length cs) (sym (columns_alike ts f l h.0)) (inside 0 i below (ap (λ m. is_named ns ps (16 * m + i)) z ∙ is))) in (
        record {
          inside = entry_inside ts l.table (ap is_some h.0 ∙ both.0);
          columns = subst (λ cs. AllByRecursion (λ i. i < length (entry ts l.table).columns) cs) (sym named.0) there;
        },
        loops_over ts (suc k) fs ls h.1 both.1 named.1
            (λ j i below is. let s : k + suc j ≡ suc k + j = omega arith in inside (suc j) i below (ap (λ m. is_named ns ps (16 * m + i)) s ∙ is)),
      )
