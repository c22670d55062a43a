-- The place of a column of FROM, and its position in a row of the cross product.
use Rattle.std.proofs.Common.{◌≡◌, ◌≤◌, ◌<◌, ℕ, zero, suc, ◌+◌, ◌-◌, Bool, true, false, List, [], ◌∷◌, ◌++◌, Option, Some, None, map, refl, sym, ap, ◌∙◌, length, if◌then◌else◌, arith}
use Rattle.std.specs.Prelude.{slice_get, slice_index, nat_lt}
use Rattle.std.proofs.lemmas.Bool.Decides.{nat_tests}
use Rattle.std.proofs.lemmas.List.{length-append, length-map}
use Rattle.hg_model.specs.Query.{Query}
use Rattle.hg_model.specs.Scope.{columns_from, columns_of, scope_from, scope_of, positions_of, target_of}
use Rattle.hg_model.specs.SelectMeaning.{targets_of}
use Rattle.hg_model.specs.Tables.{Table, table_named}
use Rattle.hg_model.specs.declared.tables.FromColumn.{FromColumn}
use Rattle.hg_model.specs.declared.tables.Target.{Target}
use Rattle.hg_model.specs.declared.tables.Target.TheVariants.{ToOutput, ToNode}
use Rattle.hg_model.specs.declared.trees.Column.{Column}
use Rattle.hg_model.specs.declared.trees.FromTable.{FromTable}
use Rattle.hg_model.specs.declared.trees.OrderKey.{OrderKey}
use Rattle.hg_bind.specs.BoundSelect.{IsBoundSelect, bound_key, bound_target, by_target, place_of_column, place_of_found, position_at, sum_before, widths_of}
use Rattle.hg_bind.proofs.FromPlaces.{front_at, behind_at, column_at, is_below, is_not_below}
use Rattle.hg_bind.proofs.ScopeColumns.{columns_count}

-- a column at a place of FROM stands in a table, behind the columns of those before
pub record Stands (tables : List Table) (k : ℕ) (froms : List FromTable) (p : ℕ) : Type 0 where
  pub column : FromColumn
  pub table : ℕ
  pub there : slice_get (scope_from tables k froms) p ≡ Some column
  pub table_is : column.table ≡ k + table
  pub inside : table < length froms
  pub within : column.place < slice_index (widths_of tables froms) table
  pub position : sum_before (widths_of tables froms) table + column.place ≡ p

module _ (tables : List Table) where
  abbrev own : ℕ → FromTable → List FromColumn
  own k f = columns_from k f.alias 0 (columns_of (table_named tables f.table))

  own_count : (k : ℕ) (f : FromTable) → length (own k f) ≡ length (columns_of (table_named tables f.table))
  own_count k f = columns_count k f.alias 0 (columns_of (table_named tables f.table))

  pub stands : (k : ℕ) (froms : List FromTable) (p : ℕ) → p < length (scope_from tables k froms) → Stands tables k froms p
  stands k [] p h = absurd (omega arith)
  stands k (f ∷ fs) p h = by (nat_lt p (length (own k f))) refl (stands (suc k) fs (p - length (own k f)))
    where
      by : (b : Bool) → nat_lt p (length (own k f)) ≡ b
          → (p - length (own k f) < length (scope_from tables (suc k) fs) → Stands tables (suc k) fs (p - length (own k f))) → Stands tables k (f ∷ fs) p
      by true t next =
          let here : p < length (own k f) = grind (arith, nat_tests) in
          let at = column_at k f.alias 0 (columns_of (table_named tables f.table)) p here in
          record {
            column = at.0;
            table = 0;
            there = front_at (own k f) (scope_from tables (suc k) fs) p here ∙ at.1;
            table_is = at.2 ∙ omega arith;
            inside = omega arith;
            within = let q = at.3 in let count = own_count k f in omega (arith, q, count);
            position = let q = at.3 in omega (arith, q);
          }
      by false t next =
          let past : length (own k f) ≤ p = grind (arith, nat_tests) in
          let whole = length-append (own k f) (scope_from tables (suc k) fs) in
          let more = next (omega (arith, whole)) in
          let split : p ≡ length (own k f) + (p - length (own k f)) = omega arith in
          let count = own_count k f in
          record {
            column = more.column;
            table = suc more.table;
            there = ap (slice_get (own k f ++ scope_from tables (suc k) fs)) split ∙ behind_at (own k f) (scope_from tables (suc k) fs) (p - length (own k f)) ∙ more.there;
            table_is = let t' = more.table_is in omega (arith, t');
            inside = let i = more.inside in omega (arith, i);
            within = more.within;
            position = let q = more.position in omega (arith, q, count);
          }

  total : (k : ℕ) (froms : List FromTable) → sum_before (widths_of tables froms) (length (widths_of tables froms)) ≡ length (scope_from tables k froms)
  total k [] = refl
  total k (f ∷ fs) =
      let more = total (suc k) fs in
      let count = own_count k f in
      let whole = length-append (own k f) (scope_from tables (suc k) fs) in
      omega (arith, more, count, whole)

  none_behind : {X : Type 0} (xs : List X) → slice_get xs (length xs) ≡ None
  none_behind [] = refl
  none_behind (x ∷ xs) = none_behind xs

  module _ (froms : List FromTable) (few : length froms ≤ 4) where
    widths_count : length (widths_of tables froms) ≡ length froms
    widths_count = length-map froms (λ (f : FromTable). length (columns_of (table_named tables f.table)))

    inner : Bool → ℕ × ℕ → ℕ
    inner b p = if b then sum_before (widths_of tables froms) p.0 + p.1 else sum_before (widths_of tables froms) (length (widths_of tables froms))

    pub place_is : (p : ℕ) → p ≤ length (scope_from tables 0 froms) → position_at (widths_of tables froms) (place_of_found (slice_get (scope_from tables 0 froms) p)) ≡ p
    place_is p h = by (nat_lt p (length (scope_from tables 0 froms))) refl
      where
        by : (b : Bool) → nat_lt p (length (scope_from tables 0 froms)) ≡ b → position_at (widths_of tables froms) (place_of_found (slice_get (scope_from tables 0 froms) p)) ≡ p
        by true t =
            let here : p < length (scope_from tables 0 froms) = grind (arith, nat_tests) in
            let s = stands 0 froms p here in
            let same : s.column.table ≡ s.table = s.table_is ∙ omega arith in
            let below : s.table < length (widths_of tables froms) = (let i = s.inside in omega (arith, i, widths_count)) in
            ap (λ o. position_at (widths_of tables froms) (place_of_found o)) s.there
            ∙ ap (λ n. position_at (widths_of tables froms) (n, s.column.place)) same
            ∙ ap (λ b. if b then sum_before (widths_of tables froms) s.table + s.column.place else sum_before (widths_of tables froms) (length (widths_of tables froms)))
            (is_below s.table (length (widths_of tables froms)) below)
            ∙ s.position
        by false t =
            let past : p ≡ length (scope_from tables 0 froms) = grind (arith, nat_tests) in
            ap (λ n. position_at (widths_of tables froms) (place_of_found (slice_get (scope_from tables 0 froms) n))) past
            ∙ ap (λ o. position_at (widths_of tables froms) (place_of_found o)) (none_behind (scope_from tables 0 froms))
            ∙ ap (λ b. if b then sum_before (widths_of tables froms) 255 + 255 else sum_before (widths_of tables froms) (length (widths_of tables froms)))
            (is_not_below 255 (length (widths_of tables froms)) (omega (arith, few, widths_count)))
            ∙ total 0 froms ∙ sym past

target_back : (t : Target) → bound_target (by_target t) ≡ t
target_back (ToOutput k) = let e : k + 1 - 1 ≡ k = omega arith in ap ToOutput e
target_back (ToNode n) = refl

abbrev bound_pair : OrderKey → Bool × Target
bound_pair k = (k.descending, bound_target k.by)

module _ (scope : List FromColumn) (positions : List ℕ) (q : Query) where
  abbrev pair : OrderKey → Bool × Target
  pair k = (k.descending, target_of scope positions q k.by)

  pub keys_back : (ks : List OrderKey) → map bound_pair (map (bound_key scope positions q) ks) ≡ map pair ks
  keys_back [] = refl
  keys_back (k ∷ ks) =
      let first : bound_pair (bound_key scope positions q k) ≡ pair k = ap (λ t. (k.descending, t)) (target_back (target_of scope positions q k.by)) in
      ap (λ t. t ∷ map bound_pair (map (bound_key scope positions q) ks)) first ∙ ap (λ l. pair k ∷ l) (keys_back ks)

pub keys_alike : (tables : List Table) (q bound : Query) (numbers : List ℕ) (places : List (ℕ × ℕ)) → IsBoundSelect tables q bound numbers places
    → map bound_pair bound.order ≡ targets_of (scope_of tables q) (positions_of (scope_of tables q) q) q
keys_alike tables q bound numbers places b =
    ap (λ (x : Query). map bound_pair x.order) b.bound_is ∙ keys_back (scope_of tables q) (positions_of (scope_of tables q) q) q q.order
