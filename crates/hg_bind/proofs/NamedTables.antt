-- The table of a name, by its number in the catalog.
use Rattle.std.proofs.Common.{◌≡◌, ◌<◌, ◌≤◌, ℕ, zero, suc, ◌+◌, Bool, true, false, List, [], ◌∷◌, Option, Some, None, map, refl, sym, ap, ◌∙◌, length, cond, not, ltb, arith}
use Rattle.std.specs.Prelude.{slice_get, option_map, is_some}
use Rattle.std.specs.List.{position_or_len, find}
use Rattle.std.proofs.lemmas.Bool.Decides.{nat_tests}
use Rattle.std.proofs.lemmas.Option.{slice_get-map}
use Rattle.hg_catalog.specs.Contents.{Contents, CatalogTable, table_number}
use Rattle.hg_model.specs.Scope.{columns_of, rows_of}
use Rattle.hg_model.specs.Tables.{Table, table_named, same_name}
use Rattle.hg_model.specs.declared.trees.Column.{Column}
use Rattle.hg_bind.specs.Bound.{table_of, tables_of, IsTable}

module _ (name : List ℕ) where
  abbrev has : CatalogTable → Bool
  has t = same_name t.name name

  abbrev seen_has : Table → Bool
  seen_has t = same_name t.name name

  onward : (xs : List CatalogTable) (x : CatalogTable) (n : ℕ) → slice_get (x ∷ xs) (1 + n) ≡ slice_get xs n
  onward xs x n = let e : 1 + n ≡ suc n = omega arith in ap (slice_get (x ∷ xs)) e

  step : (b : Bool) (x : CatalogTable) (xs : List CatalogTable) → find seen_has (map table_of xs) ≡ option_map table_of (slice_get xs (position_or_len has xs))
      → cond b (Some (table_of x)) (find seen_has (map table_of xs)) ≡ option_map table_of (slice_get (x ∷ xs) (cond (not b) (1 + position_or_len has xs) 0))
  step true x xs rest = refl
  step false x xs rest = rest ∙ ap (option_map table_of) (sym (onward xs x (position_or_len has xs)))

  named : (ts : List CatalogTable) → table_named (map table_of ts) name ≡ option_map table_of (slice_get ts (position_or_len has ts))
  named [] = refl
  named (t ∷ ts) = step (has t) t ts (named ts)

  found : (n m : ℕ) (k : ℕ) → cond (ltb n m) (Some n) None ≡ Some k → (n ≡ k) × (k < m)
  found n m k e = by (ltb n m) refl e
    where
      by : (b : Bool) → ltb n m ≡ b → cond b (Some n) None ≡ Some k → (n ≡ k) × (k < m)
      by true t e = let same : n ≡ k = cc in (same, grind (arith, nat_tests))
      by false t e = absurd cc

  outside : (ts : List CatalogTable) (n : ℕ) → length ts ≤ n → slice_get ts n ≡ None
  outside [] n h = refl
  outside (t ∷ ts) zero h = absurd (omega arith)
  outside (t ∷ ts) (suc n) h = outside ts n (omega arith)

  not_found : (n m : ℕ) → cond (ltb n m) (Some n) None ≡ None → m ≤ n
  not_found n m e = by (ltb n m) refl e
    where
      by : (b : Bool) → ltb n m ≡ b → cond b (Some n) None ≡ None → m ≤ n
      by true t e = absurd cc
      by false t e = grind (arith, nat_tests)

  -- no number, no table
  pub unnamed : (c : Contents) → table_number c name ≡ None → table_named (tables_of c) name ≡ None
  unnamed c none = named c.tables ∙ ap (option_map table_of) (outside c.tables (position_or_len has c.tables) (not_found _ _ none))

  -- a number is that of the table
  stands : (o : Option CatalogTable) (cs : List Column) → option_map (λ (x : CatalogTable). x.columns) o ≡ Some cs → (t : Table) × (option_map table_of o ≡ Some t) × (t.columns ≡ cs)
  stands None cs is = absurd cc
  stands (Some x) cs is = (table_of x, refl, cc)

  pub table_is : (c : Contents) (n : ℕ) (cs : List Column) → table_number c name ≡ Some n
      → option_map (λ (x : CatalogTable). x.columns) (slice_get c.tables n) ≡ Some cs → IsTable (tables_of c) name n
  table_is c n cs is columns =
      let s = stands (slice_get c.tables n) cs columns in
      let same : table_named (tables_of c) name ≡ option_map table_of (slice_get c.tables n) =
      named c.tables ∙ ap (λ k. option_map table_of (slice_get c.tables k)) (found _ _ n is).0 in
      record { table = s.0; there = slice_get-map table_of c.tables n ∙ s.1; named = same ∙ s.1 }

  pub columns_are : (c : Contents) (n : ℕ) (cs : List Column) → table_number c name ≡ Some n
      → option_map (λ (x : CatalogTable). x.columns) (slice_get c.tables n) ≡ Some cs → columns_of (table_named (tables_of c) name) ≡ cs
  columns_are c n cs is columns =
      let s = stands (slice_get c.tables n) cs columns in
      ap columns_of (named c.tables ∙ ap (λ k. option_map table_of (slice_get c.tables k)) (found _ _ n is).0 ∙ s.1) ∙ s.2

  inside : (ts : List CatalogTable) (n : ℕ) → n < length ts → is_some (option_map table_of (slice_get ts n)) ≡ true
  inside [] n h = absurd (omega arith)
  inside (t ∷ ts) zero h = refl
  inside (t ∷ ts) (suc n) h = inside ts n (omega arith)

  pub is_there : (c : Contents) (n : ℕ) → table_number c name ≡ Some n → is_some (table_named (tables_of c) name) ≡ true
  is_there c n is =
      let f = found _ _ n is in
      ap is_some (named c.tables ∙ ap (λ k. option_map table_of (slice_get c.tables k)) f.0) ∙ inside c.tables n f.1

  rows_gone : (o : Option CatalogTable) → rows_of (option_map table_of o) ≡ []
  rows_gone None = refl
  rows_gone (Some x) = refl

  -- binding looks at no row
  pub no_rows : (c : Contents) → rows_of (table_named (tables_of c) name) ≡ []
  no_rows c = ap rows_of (named c.tables) ∙ rows_gone (slice_get c.tables (position_or_len has c.tables))

  -- the table of that number is the one of that name
  pub number_is : (c : Contents) (n : ℕ) → table_number c name ≡ Some n → slice_get (tables_of c) n ≡ table_named (tables_of c) name
  number_is c n is = slice_get-map table_of c.tables n ∙ sym (named c.tables ∙ ap (λ k. option_map table_of (slice_get c.tables k)) (found _ _ n is).0)
