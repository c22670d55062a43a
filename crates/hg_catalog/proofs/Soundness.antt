-- What holds of every catalog stays, whatever is put into it.
use Rattle.std.proofs.Common.{◌≡◌, ◌≤◌, ◌<◌, ℕ, zero, suc, Bool, true, false, List, [], ◌∷◌, ◌++◌, Option, Some, None, map, refl, sym, ap, subst, ◌∙◌, ◌+◌, length, arith, ◌&&◌, ◌||◌, not, cond, length-append}
use Rattle.std.specs.Prelude.{nat_lt, nat_le, slice_get, option_map}
use Rattle.std.specs.List.{position, position_or_len, list_all, list_any}
use Rattle.std.proofs.lemmas.Bool.Decides.{nat_tests}
use Rattle.std.proofs.lemmas.List.{map-append}
use Rattle.std.proofs.lemmas.List.Folds.{list_all-append, list_any-append}
use Rattle.hg_base.specs.declared.Index.{Index}
use Rattle.hg_base.specs.declared.Table.{Table as TableData}
use Rattle.std.specs.Cmp.Lexicographic.{nat_list_eq_equiv}
use Rattle.hg_model.specs.Tables.{same_name}
use Rattle.hg_model.specs.Creation.{is_named_so}
use Rattle.hg_model.specs.declared.trees.Column.{Column}
use Rattle.hg_catalog.specs.Contents.{CatalogTable, CatalogIndex, IsSound, IsNewTable, IsNewIndex, table_number, has_index_name, are_different_names, are_different_indexes, columns_of_table, is_new_table, is_index_of, fits_tables, with_pages, with_index}

both : (a b : Bool) → a ≡ true → b ≡ true → (a && b) ≡ true
both true true p q = refl
both true false p q = q
both false b p q = p

first : (a b : Bool) → (a && b) ≡ true → a ≡ true
first true b h = refl
first false b h = h

second : (a b : Bool) → (a && b) ≡ true → b ≡ true
second true b h = h
second false b h = absurd cc

neither : (a b : Bool) → a ≡ false → b ≡ false → (a || b) ≡ false
neither false false p q = refl
neither false true p q = q
neither true b p q = absurd cc

not_true : (a : Bool) → not a ≡ true → a ≡ false
not_true false h = refl
not_true true h = absurd cc

pub neither_first : (a b : Bool) → (a || b) ≡ false → a ≡ false
neither_first false b h = refl
neither_first true b h = h

pub neither_second : (a b : Bool) → (a || b) ≡ false → b ≡ false
neither_second false b h = h
neither_second true b h = absurd cc

below_of : (a b : ℕ) → nat_lt a b ≡ true → a < b
below_of a b h = grind (arith, nat_tests)

test_of : (a b : ℕ) → a < b → nat_lt a b ≡ true
test_of a b h = grind (arith, nat_tests)

test_at_most : (a b : ℕ) → a ≤ b → nat_le a b ≡ true
test_at_most a b h = grind (arith, nat_tests)

-- where no table has a name
module _ (name : List ℕ) where
  abbrev pub has : CatalogTable → Bool
  has t = same_name t.name name

  step : (b : Bool) (n m : ℕ) → cond (not b) (1 + n) 0 ≡ suc m → (b ≡ false) × (n ≡ m)
  step true n m h = absurd cc
  step false n m h = (refl, omega arith)

  not_among : (ts : List CatalogTable) → position_or_len has ts ≡ length ts → list_any has ts ≡ false
  not_among [] h = refl
  not_among (t ∷ ts) h =
      let s = step (has t) (position_or_len has ts) (length ts) h in
      neither (has t) (list_any has ts) s.0 (not_among ts s.1)

  within : (b : Bool) (n m : ℕ) → n ≤ m → cond (not b) (1 + n) 0 ≤ suc m
  within true n m h = omega arith
  within false n m h = omega arith

  place_within : (ts : List CatalogTable) → position_or_len has ts ≤ length ts
  place_within [] = omega arith
  place_within (t ∷ ts) = within (has t) (position_or_len has ts) (length ts) (place_within ts)

  at_end : (ts : List CatalogTable) → position has ts ≡ None → position_or_len has ts ≡ length ts
  at_end ts h = let most = place_within ts in grind (arith, nat_tests)

  pub no_table : (ts : List CatalogTable) → position has ts ≡ None → list_any has ts ≡ false
  no_table ts h = not_among ts (at_end ts h)

abbrev names_of : List CatalogTable → List (List ℕ)
names_of ts = map (λ (t : CatalogTable). t.name) ts

-- one more name
any_more : (n name : List ℕ) (ns : List (List ℕ)) → list_any (same_name n) ns ≡ false → same_name n name ≡ false → list_any (same_name n) (ns ++ name ∷ []) ≡ false
any_more n name ns h e = list_any-append (same_name n) ns (name ∷ []) ∙ neither _ _ h (neither _ _ e refl)

different_more : (t : CatalogTable) (ts : List CatalogTable) → are_different_names (names_of ts) ≡ true → list_any (has t.name) ts ≡ false
    → are_different_names (names_of (ts ++ t ∷ [])) ≡ true
different_more t [] h none = refl
different_more t (x ∷ xs) h none =
    let head : list_any (same_name x.name) (names_of xs) ≡ false = not_true _ (first _ _ h) in
    let rest = different_more t xs (second _ _ h) (neither_second (same_name x.name t.name) _ none) in
    both _ _ (ap not (ap (list_any (same_name x.name)) (map-append (λ (y : CatalogTable). y.name) xs (t ∷ []))
    ∙ any_more x.name t.name (names_of xs) head (neither_first _ _ none))) rest

-- the columns of a table stay, whatever table stands behind
columns_kept : (ts : List CatalogTable) (t : CatalogTable) (k : ℕ) → k < length ts → columns_of_table (ts ++ t ∷ []) k ≡ columns_of_table ts k
columns_kept [] t k h = absurd (omega arith)
columns_kept (x ∷ xs) t zero h = refl
columns_kept (x ∷ xs) t (suc k) h = columns_kept xs t k (omega arith)

index_kept : (ts : List CatalogTable) (t : CatalogTable) (x : CatalogIndex) → fits_tables ts x ≡ true → fits_tables (ts ++ t ∷ []) x ≡ true
index_kept ts t x h =
    let below : x.table < length ts = below_of _ _ (first _ _ h) in
    both _ _ (test_of _ _ (omega (arith, length-append ts (t ∷ []))))
    (ap (λ cs. is_index_of cs x.index.columns.items) (columns_kept ts t x.table below) ∙ second _ _ h)

indexes_kept : (ts : List CatalogTable) (t : CatalogTable) (xs : List CatalogIndex) → list_all (fits_tables ts) xs ≡ true → list_all (fits_tables (ts ++ t ∷ [])) xs ≡ true
indexes_kept ts t [] h = refl
indexes_kept ts t (x ∷ xs) h = both _ _ (index_kept ts t x (first _ _ h)) (indexes_kept ts t xs (second _ _ h))

new_fits : (t : CatalogTable) → IsNewTable t.columns → is_new_table t ≡ true
new_fits t h = both _ _ (test_of _ _ (omega (arith, h.some_columns))) (both _ _ (test_at_most _ _ h.few_columns) h.different)

pub sound_with_table : (tables : List CatalogTable) (indexes : List CatalogIndex) (t : CatalogTable)
    → IsSound (record { tables = tables; indexes = indexes }) → length tables < 64
    → table_number (record { tables = tables; indexes = indexes }) t.name ≡ None → IsNewTable t.columns
    → IsSound (record { tables = tables ++ t ∷ []; indexes = indexes })
sound_with_table tables indexes t s few free new = record {
  few_tables = omega (arith, length-append tables (t ∷ []));
  few_indexes = s.few_indexes;
  different_names = different_more t tables s.different_names (no_table t.name tables free);
  different_index_names = s.different_index_names;
  tables_fit = list_all-append is_new_table tables (t ∷ []) ∙ both _ _ s.tables_fit (both _ _ (new_fits t new) refl);
  indexes_fit = indexes_kept tables t indexes s.indexes_fit;
}

-- other pages for a table change nothing that is said here
names_stay : (ts : List CatalogTable) (k : ℕ) (d : TableData) → names_of (with_pages ts k d) ≡ names_of ts
names_stay [] k d = refl
names_stay (x ∷ xs) zero d = refl
names_stay (x ∷ xs) (suc k) d = ap (λ l. x.name ∷ l) (names_stay xs k d)

pub length_stays : (ts : List CatalogTable) (k : ℕ) (d : TableData) → length (with_pages ts k d) ≡ length ts
length_stays [] k d = refl
length_stays (x ∷ xs) zero d = refl
length_stays (x ∷ xs) (suc k) d = ap suc (length_stays xs k d)

tables_stay : (ts : List CatalogTable) (k : ℕ) (d : TableData) → list_all is_new_table (with_pages ts k d) ≡ list_all is_new_table ts
tables_stay [] k d = refl
tables_stay (x ∷ xs) zero d = refl
tables_stay (x ∷ xs) (suc k) d = ap (λ b. is_new_table x && b) (tables_stay xs k d)

columns_stay : (ts : List CatalogTable) (k : ℕ) (d : TableData) (t : ℕ) → columns_of_table (with_pages ts k d) t ≡ columns_of_table ts t
columns_stay [] k d t = refl
columns_stay (x ∷ xs) zero d zero = refl
columns_stay (x ∷ xs) zero d (suc t) = refl
columns_stay (x ∷ xs) (suc k) d zero = refl
columns_stay (x ∷ xs) (suc k) d (suc t) = columns_stay xs k d t

fits_stay : (ts : List CatalogTable) (k : ℕ) (d : TableData) (xs : List CatalogIndex) → list_all (fits_tables (with_pages ts k d)) xs ≡ list_all (fits_tables ts) xs
fits_stay ts k d [] = refl
fits_stay ts k d (x ∷ xs) =
    ap (λ n. (nat_lt x.table n && is_index_of (columns_of_table (with_pages ts k d) x.table) x.index.columns.items) && list_all (fits_tables (with_pages ts k d)) xs) (length_stays ts k d)
    ∙ ap (λ cs. (nat_lt x.table (length ts) && is_index_of cs x.index.columns.items) && list_all (fits_tables (with_pages ts k d)) xs) (columns_stay ts k d x.table)
    ∙ ap (λ b. fits_tables ts x && b) (fits_stay ts k d xs)

pub sound_with_pages : (tables : List CatalogTable) (indexes : List CatalogIndex) (k : ℕ) (d : TableData)
    → IsSound (record { tables = tables; indexes = indexes }) → IsSound (record { tables = with_pages tables k d; indexes = indexes })
sound_with_pages tables indexes k d s = record {
  few_tables = omega (arith, length_stays tables k d, s.few_tables);
  few_indexes = s.few_indexes;
  different_names = ap are_different_names (names_stay tables k d) ∙ s.different_names;
  different_index_names = s.different_index_names;
  tables_fit = tables_stay tables k d ∙ s.tables_fit;
  indexes_fit = fits_stay tables k d indexes ∙ s.indexes_fit;
}

-- and so does another tree for an index of the same columns
pub index_length_stays : (xs : List CatalogIndex) (i : ℕ) (new : Index) → length (with_index xs i new) ≡ length xs
index_length_stays [] i new = refl
index_length_stays (x ∷ xs) zero new = refl
index_length_stays (x ∷ xs) (suc i) new = ap suc (index_length_stays xs i new)

indexes_stay : (ts : List CatalogTable) (xs : List CatalogIndex) (i : ℕ) (old : CatalogIndex) (new : Index) → slice_get xs i ≡ Some old
    → new.columns ≡ old.index.columns → list_all (fits_tables ts) (with_index xs i new) ≡ list_all (fits_tables ts) xs
indexes_stay ts [] i old new is same = refl
indexes_stay ts (x ∷ xs) zero old new is same =
    let here : x ≡ old = cc in
    let columns : new.columns ≡ x.index.columns = same ∙ ap (λ (o : CatalogIndex). o.index.columns) (sym here) in
    ap (λ cs. (nat_lt x.table (length ts) && is_index_of (columns_of_table ts x.table) cs.items) && list_all (fits_tables ts) xs) columns
indexes_stay ts (x ∷ xs) (suc i) old new is same = ap (λ b. fits_tables ts x && b) (indexes_stay ts xs i old new is same)

has_name_stays : (name : Option (List ℕ)) (xs : List CatalogIndex) (i : ℕ) (new : Index) → has_index_name name (with_index xs i new) ≡ has_index_name name xs
has_name_stays None xs i new = refl
has_name_stays (Some name) [] i new = refl
has_name_stays (Some name) (x ∷ xs) zero new = refl
has_name_stays (Some name) (x ∷ xs) (suc i) new = ap (λ b. is_named_so name x.name || b) (has_name_stays (Some name) xs i new)

different_stay : (xs : List CatalogIndex) (i : ℕ) (new : Index) → are_different_indexes (with_index xs i new) ≡ are_different_indexes xs
different_stay [] i new = refl
different_stay (x ∷ xs) zero new = refl
different_stay (x ∷ xs) (suc i) new =
    ap (λ b. not b && are_different_indexes (with_index xs i new)) (has_name_stays x.name xs i new)
    ∙ ap (λ b. not (has_index_name x.name xs) && b) (different_stay xs i new)

pub sound_with_index : (tables : List CatalogTable) (indexes : List CatalogIndex) (i : ℕ) (old : CatalogIndex) (new : Index)
    → IsSound (record { tables = tables; indexes = indexes }) → slice_get indexes i ≡ Some old → new.columns ≡ old.index.columns
    → IsSound (record { tables = tables; indexes = with_index indexes i new })
sound_with_index tables indexes i old new s is same = record {
  few_tables = s.few_tables;
  few_indexes = omega (arith, index_length_stays indexes i new, s.few_indexes);
  different_names = s.different_names;
  different_index_names = different_stay indexes i new ∙ s.different_index_names;
  tables_fit = s.tables_fit;
  indexes_fit = indexes_stay tables indexes i old new is same ∙ s.indexes_fit;
}

-- one index more, of a name that is free
abbrev shares : Option (List ℕ) → Option (List ℕ) → Bool
shares None other = false
shares (Some name) other = is_named_so name other

shares_symm : (a b : Option (List ℕ)) → shares a b ≡ shares b a
shares_symm None None = refl
shares_symm None (Some b) = refl
shares_symm (Some a) None = refl
shares_symm (Some a) (Some b) = nat_list_eq_equiv.symm a b

none_of_none : (name : Option (List ℕ)) → has_index_name name [] ≡ false
none_of_none None = refl
none_of_none (Some name) = refl

not_first : (name : Option (List ℕ)) (y : CatalogIndex) (ys : List CatalogIndex) → has_index_name name (y ∷ ys) ≡ false → shares name y.name ≡ false
not_first None y ys h = refl
not_first (Some name) y ys h = neither_first (is_named_so name y.name) _ h

not_behind : (name : Option (List ℕ)) (y : CatalogIndex) (ys : List CatalogIndex) → has_index_name name (y ∷ ys) ≡ false → has_index_name name ys ≡ false
not_behind None y ys h = refl
not_behind (Some name) y ys h = neither_second (is_named_so name y.name) _ h

has_name_more : (name : Option (List ℕ)) (ys : List CatalogIndex) (x : CatalogIndex) → has_index_name name ys ≡ false → shares name x.name ≡ false
    → has_index_name name (ys ++ x ∷ []) ≡ false
has_name_more None ys x h e = refl
has_name_more (Some name) ys x h e =
    list_any-append (λ (y : CatalogIndex). is_named_so name y.name) ys (x ∷ []) ∙ neither _ _ h (neither _ _ e refl)

different_with : (x : CatalogIndex) (xs : List CatalogIndex) → are_different_indexes xs ≡ true → has_index_name x.name xs ≡ false
    → are_different_indexes (xs ++ x ∷ []) ≡ true
different_with x [] h free = both _ _ (ap not (none_of_none x.name)) refl
different_with x (y ∷ ys) h free =
    let other : shares y.name x.name ≡ false = shares_symm y.name x.name ∙ not_first x.name y ys free in
    both _ _ (ap not (has_name_more y.name ys x (not_true _ (first _ _ h)) other))
    (different_with x ys (second _ _ h) (not_behind x.name y ys free))

index_fits : (tables : List CatalogTable) (indexes : List CatalogIndex) (x : CatalogIndex)
    → IsNewIndex (record { tables = tables; indexes = indexes }) x.table x.index.columns.items → fits_tables tables x ≡ true
index_fits tables indexes x new =
    both _ _ (test_of _ _ new.table_there)
    (both _ _ (test_of _ _ (omega (arith, new.some_columns)))
    (both _ _ (test_at_most _ _ new.few_columns) (both _ _ new.columns_there (both _ _ new.different (test_at_most _ _ new.not_long)))))

pub sound_with_new_index : (tables : List CatalogTable) (indexes : List CatalogIndex) (x : CatalogIndex)
    → IsSound (record { tables = tables; indexes = indexes }) → length indexes < 64 → has_index_name x.name indexes ≡ false
    → IsNewIndex (record { tables = tables; indexes = indexes }) x.table x.index.columns.items
    → IsSound (record { tables = tables; indexes = indexes ++ x ∷ [] })
sound_with_new_index tables indexes x s few free new = record {
  few_tables = s.few_tables;
  few_indexes = omega (arith, length-append indexes (x ∷ []));
  different_names = s.different_names;
  different_index_names = different_with x indexes s.different_index_names free;
  tables_fit = s.tables_fit;
  indexes_fit = list_all-append (fits_tables tables) indexes (x ∷ []) ∙ both _ _ s.indexes_fit (both _ _ (index_fits tables indexes x new) refl);
}

-- the columns of a table that is there
at_most_of : (a b : ℕ) → nat_le a b ≡ true → a ≤ b
at_most_of a b h = grind (arith, nat_tests)

new_of : (t : CatalogTable) → is_new_table t ≡ true → IsNewTable t.columns
new_of t h = record {
  some_columns = omega (arith, below_of 0 (length t.columns) (first _ _ h));
  few_columns = at_most_of (length t.columns) 16 (first _ _ (second _ _ h));
  different = second _ _ (second _ _ h);
}

pub columns_fit : (ts : List CatalogTable) (n : ℕ) (cs : List Column) → list_all is_new_table ts ≡ true
    → option_map (λ (t : CatalogTable). t.columns) (slice_get ts n) ≡ Some cs → IsNewTable cs
columns_fit [] n cs h is = absurd cc
columns_fit (t ∷ ts) zero cs h is = let here : t.columns ≡ cs = cc in subst IsNewTable here (new_of t (first _ _ h))
columns_fit (t ∷ ts) (suc n) cs h is = columns_fit ts n cs (second _ _ h) is
