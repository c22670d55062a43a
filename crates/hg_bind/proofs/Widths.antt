-- Rows and groups are as wide as the columns of FROM.
use Rattle.std.proofs.Common.{◌≡◌, ◌≤◌, ℕ, zero, suc, ◌+◌, Bool, true, false, List, [], ◌∷◌, ◌++◌, Option, Some, None, map, refl, sym, ap, subst, ◌∙◌, length, length-append, cond, not, ◌&&◌, ◌||◌, if◌then◌else◌, arith}
use Rattle.std.specs.Prelude.{⊤, nat_eq, nat_lt, slice_index}
use Rattle.std.specs.List.{AllByRecursion, filter, flat_map, list_all, list_any}
use Rattle.std.specs.Cmp.{first_so, second_so}
use Rattle.std.proofs.lemmas.Bool.Decides.{nat_tests}
use Rattle.hg_model.specs.Binding as binding
use Rattle.std.specs.Cmp.{int_cmp_is, nat_cmp_is}
use Rattle.std.specs.Cmp.Lexicographic.{slice_cmp}
use Rattle.std.specs.Ordering.{is_eq, nat_cmp, ordering_then}
use Rattle.std.specs.declared.cmp.Ordering.TheVariants.{Equal}
use Rattle.hg_model.specs.NullLogic.{same_value}
use Rattle.hg_model.specs.Groups.{firsts, firsts_from, groups_by, same_values}
use Rattle.hg_model.specs.Query.{Query}
use Rattle.hg_model.specs.Scope.{columns_from, columns_of, rows_of, scope_from}
use Rattle.hg_model.specs.SelectMeaning.{first_row, is_grouped}
use Rattle.hg_model.specs.Tables.{Table, cross, fits_columns, fits_type, is_allowed, same_name, table_fits, table_named}
use Rattle.hg_model.specs.declared.tables.FromColumn.{FromColumn}
use Rattle.hg_model.specs.declared.trees.Column.{Column}
use Rattle.hg_model.specs.declared.trees.FromTable.{FromTable}
use Rattle.hg_model.specs.declared.trees.Output.{Output}
use Rattle.hg_model.specs.declared.values.Value.{Value}
use Rattle.hg_model.specs.declared.values.Value.TheVariants.{Null, Int, Text}
use Rattle.hg_bind.proofs.Replacing.{front_all}
use Rattle.hg_bind.proofs.ScopeColumns.{columns_count}

module _ {X : Type 0} (P : X → Type 0) where
  pub all_append : (xs ys : List X) → AllByRecursion P xs → AllByRecursion P ys → AllByRecursion P (xs ++ ys)
  all_append [] ys a b = b
  all_append (x ∷ xs) ys a b = (a.0, all_append xs ys a.1 b)

  filter_step : (p : X → Bool) (x : X) (xs : List X) (b : Bool) → P x → AllByRecursion P (filter p xs) → AllByRecursion P (cond b (x ∷ filter p xs) (filter p xs))
  filter_step p x xs true h a = (h, a)
  filter_step p x xs false h a = a

  pub all_filter : (p : X → Bool) (xs : List X) → AllByRecursion P xs → AllByRecursion P (filter p xs)
  all_filter p [] a = tt
  all_filter p (x ∷ xs) a = filter_step p x xs (p x) a.0 (all_filter p xs a.1)

  pub all_weaken : (Q : X → Type 0) → ((x : X) → P x → Q x) → (xs : List X) → AllByRecursion P xs → AllByRecursion Q xs
  all_weaken Q f [] a = tt
  all_weaken Q f (x ∷ xs) a = (f x a.0, all_weaken Q f xs a.1)

-- rows of a width
abbrev pub Wide : ℕ → List (List Value) → Type 0
Wide w rows = AllByRecursion (λ (row : List Value). length row ≡ w) rows

beside_one : (v w : ℕ) (row : List Value) (more : List (List Value)) → length row ≡ v → Wide w more → Wide (v + w) (map (λ rest. row ++ rest) more)
beside_one v w row [] e a = tt
beside_one v w row (rest ∷ more) e a =
    let whole = length-append row rest in
    let last = a.0 in
    (omega (arith, whole, e, last), beside_one v w row more e a.1)

beside : (v w : ℕ) (rows more : List (List Value)) → Wide v rows → Wide w more → Wide (v + w) (flat_map (λ row. map (λ rest. row ++ rest) more) rows)
beside v w [] more a b = tt
beside v w (row ∷ rows) more a b =
    all_append (λ (r : List Value). length r ≡ v + w) (map (λ rest. row ++ rest) more) (flat_map (λ row. map (λ rest. row ++ rest) more) rows)
    (beside_one v w row more a.0 b) (beside v w rows more a.1 b)

row_width : (cs : List Column) (row : List Value) → fits_columns cs row ≡ true → length row ≡ length cs
row_width [] [] h = refl
row_width [] (v ∷ vs) h = absurd cc
row_width (c ∷ cs) [] h = absurd cc
row_width (c ∷ cs) (v ∷ vs) h =
    ap suc (row_width cs vs (second_so (is_allowed c v) (fits_columns cs vs) (second_so (fits_type c.ty v) (is_allowed c v && fits_columns cs vs) h)))

rows_width : (cs : List Column) (rows : List (List Value)) → list_all (fits_columns cs) rows ≡ true → Wide (length cs) rows
rows_width cs [] h = tt
rows_width cs (row ∷ rows) h =
    (row_width cs row (first_so (fits_columns cs row) (list_all (fits_columns cs) rows) h), rows_width cs rows (second_so (fits_columns cs row) (list_all (fits_columns cs) rows) h))

named_step : (b : Bool) (t : Table) (o : Option Table) → Wide (length t.columns) t.rows → Wide (length (columns_of o)) (rows_of o)
    → Wide (length (columns_of (cond b (Some t) o))) (rows_of (cond b (Some t) o))
named_step true t o here others = here
named_step false t o here others = others

named_width : (tables : List Table) (name : List ℕ) → list_all table_fits tables ≡ true → Wide (length (columns_of (table_named tables name))) (rows_of (table_named tables name))
named_width [] name h = tt
named_width (t ∷ ts) name h =
    named_step (same_name t.name name) t (table_named ts name)
    (rows_width t.columns t.rows (first_so (table_fits t) (list_all table_fits ts) h)) (named_width ts name (second_so (table_fits t) (list_all table_fits ts) h))

-- the rows of FROM are as wide as its columns are many
pub from_width : (tables : List Table) (k : ℕ) (froms : List FromTable) → list_all table_fits tables ≡ true
    → Wide (length (scope_from tables k froms)) (cross (map (λ (f : FromTable). rows_of (table_named tables f.table)) froms))
from_width tables k [] h = (refl, tt)
from_width tables k (f ∷ fs) h =
    let own = columns_from k f.alias 0 (columns_of (table_named tables f.table)) in
    let count : length (columns_of (table_named tables f.table)) + length (scope_from tables (suc k) fs) ≡ length (own ++ scope_from tables (suc k) fs) =
    ap (λ n. n + length (scope_from tables (suc k) fs)) (sym (columns_count k f.alias 0 (columns_of (table_named tables f.table)))) ∙ sym (length-append own (scope_from tables (suc k) fs)) in
    subst (λ w. Wide w (cross (map (λ (f : FromTable). rows_of (table_named tables f.table)) (f ∷ fs)))) count
    (beside (length (columns_of (table_named tables f.table))) (length (scope_from tables (suc k) fs)) (rows_of (table_named tables f.table))
    (cross (map (λ (f : FromTable). rows_of (table_named tables f.table)) fs)) (named_width tables f.table h) (from_width tables (suc k) fs h))

-- a value is the same as itself
text_self : (t : List ℕ) → slice_cmp nat_cmp t t ≡ Equal
text_self [] = refl
text_self (b ∷ bs) = ap (λ o. ordering_then o (slice_cmp nat_cmp bs bs)) (sym (nat_cmp_is b b Equal refl)) ∙ text_self bs

value_self : (v : Value) → same_value v v ≡ true
value_self Null = refl
value_self (Int x) = ap is_eq (sym (int_cmp_is x x Equal refl))
value_self (Text t) = ap is_eq (text_self t)

same_self : (vs : List Value) → same_values vs vs ≡ true
same_self [] = refl
same_self (v ∷ vs) = ap (λ b. b && same_values vs vs) (value_self v) ∙ same_self vs

-- Groups have a first row: each key is that of some row.
module _ (P : List Value → Type 0) where
  any_or : (b c : Bool) → c ≡ true → (b || c) ≡ true
  any_or true c h = refl
  any_or false c h = h

  first_by : (b : Bool) (p : List Value → Bool) (row : List Value) (rows : List (List Value)) → (b || list_any p rows) ≡ true → P row
      → (list_any p rows ≡ true → P (first_row (filter p rows))) → P (first_row (cond b (row ∷ filter p rows) (filter p rows)))
  first_by true p row rows h here later = here
  first_by false p row rows h here later = later h

  first_passes : (p : List Value → Bool) (rows : List (List Value)) → AllByRecursion P rows → list_any p rows ≡ true → P (first_row (filter p rows))
  first_passes p [] a h = absurd cc
  first_passes p (row ∷ rows) a h = first_by (p row) p row rows h a.0 (first_passes p rows a.1)

  abbrev Has : (List Value → List Value) → List (List Value) → List Value → Type 0
  Has key rows k = list_any (λ row. same_values (key row) k) rows ≡ true

  or_first : (b c : Bool) → b ≡ true → (b || c) ≡ true
  or_first true c h = refl
  or_first false c h = absurd cc

  own_keys : (key : List Value → List Value) (rows : List (List Value)) → AllByRecursion (Has key rows) (map key rows)
  own_keys key [] = tt
  own_keys key (row ∷ rows) = (
    or_first (same_values (key row) (key row)) (list_any (λ r. same_values (key r) (key row)) rows) (same_self (key row)),
    all_weaken (Has key rows) (Has key (row ∷ rows)) (λ k h. any_or (same_values (key row) k) (list_any (λ r. same_values (key r) k) rows) h) (map key rows) (own_keys key rows),
  )

  kept_step : (Q : List Value → Type 0) (b : Bool) (kept : List (List Value)) (k : List Value) → AllByRecursion Q kept → Q k → AllByRecursion Q (if b then kept else kept ++ k ∷ [])
  kept_step Q true kept k a h = a
  kept_step Q false kept k a h = all_append Q kept (k ∷ []) a (h, tt)

  all_firsts : (Q : List Value → Type 0) (kept keys : List (List Value)) → AllByRecursion Q kept → AllByRecursion Q keys → AllByRecursion Q (firsts_from kept keys)
  all_firsts Q kept [] a b = a
  all_firsts Q kept (k ∷ ks) a b =
      all_firsts Q (if list_any (same_values k) kept then kept else kept ++ k ∷ []) ks (kept_step Q (list_any (same_values k) kept) kept k a b.0) b.1

  groups_first : (key : List Value → List Value) (rows keys : List (List Value)) → AllByRecursion P rows → AllByRecursion (Has key rows) keys
      → AllByRecursion (λ g. P (first_row g)) (map (λ k. filter (λ row. same_values (key row) k) rows) keys)
  groups_first key rows [] a h = tt
  groups_first key rows (k ∷ ks) a h = (first_passes (λ row. same_values (key row) k) rows a h.0, groups_first key rows ks a h.1)

  alone_first : (rows : List (List Value)) → AllByRecursion P rows → P [] → P (first_row rows)
  alone_first [] a none = none
  alone_first (row ∷ rows) a none = a.0

  -- without GROUP BY there is one group, which may have no row
  pub all_first : (key : List Value → List Value) (rows : List (List Value)) (b : Bool) → AllByRecursion P rows → (b ≡ false → P [])
      → AllByRecursion (λ g. P (first_row g)) (if b then groups_by key rows else rows ∷ [])
  all_first key rows true a none = groups_first key rows (firsts (map key rows)) a (all_firsts (Has key rows) [] (map key rows) tt (own_keys key rows))
  all_first key rows false a none = (alone_first rows a (none refl), tt)

-- a star without GROUP BY stands in a grouped statement only where there is no column
no_group : (ns : List ℕ) → nat_lt 0 (length ns) ≡ false → ns ≡ []
no_group [] h = refl
no_group (n ∷ ns) h = absurd (let none : suc (length ns) ≤ 0 = grind (arith, nat_tests) in omega arith)

no_column : (q : Query) (scope : List FromColumn) → binding.all_among [] (binding.star_places q scope 0) ≡ true → 0 ≡ length scope
no_column q [] h = refl
no_column q (c ∷ cs) h = absurd cc

or_left : (b c : Bool) → (not b || c) ≡ true → b ≡ true → c ≡ true
or_left true c h e = h
or_left false c h e = absurd cc

pub star_alone : (scope : List FromColumn) (positions : List ℕ) (q : Query) → binding.grouping_fits scope positions q ≡ true → is_grouped q ≡ true → nat_lt 0 (length q.group) ≡ false
    → q.star ≡ true → 0 ≡ length scope
star_alone scope positions q fits grouped none star =
    let free = binding.free_from positions q.nodes [] in
    let all : binding.is_all_grouped scope positions q ≡ true =
    or_left (is_grouped q) (binding.is_all_grouped scope positions q) (second_so (binding.aggregates_stand_well q) (not (is_grouped q) || binding.is_all_grouped scope positions q) fits) grouped in
    let outputs : list_all (binding.all_among (binding.group_places positions q)) (binding.output_places q scope free) ≡ true =
    front_all (binding.all_among (binding.group_places positions q)) (binding.output_places q scope free) _ all in
    let stars : list_all (binding.all_among (binding.group_places positions q)) (binding.star_places q scope 0 ∷ []) ≡ true =
    sym (ap (λ b. list_all (binding.all_among (binding.group_places positions q)) (if b then binding.star_places q scope 0 ∷ [] else map (λ (o : Output). binding.columns_at free o.node) q.outputs)) star) ∙ outputs in
    let one : binding.all_among (binding.group_places positions q) (binding.star_places q scope 0) ≡ true =
    first_so (binding.all_among (binding.group_places positions q) (binding.star_places q scope 0)) true stars in
    no_column q scope (sym (ap (λ ns. binding.all_among (map (slice_index positions) ns) (binding.star_places q scope 0)) (no_group q.group none)) ∙ one)
