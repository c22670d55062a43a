-- The first cause against CREATE INDEX.
use Rattle.std.proofs.Common.{◌≡◌, ◌<◌, ◌≤◌, ℕ, zero, suc, ◌+◌, Bool, true, false, List, [], ◌∷◌, Option, Some, None, map, refl, sym, ap, ◌∙◌, length, get_or, drop, not, ◌&&◌, ◌||◌, arith, if◌then◌else◌}
use Rattle.std.specs.Prelude.{is_some, option_map, slice_get, nat_lt, nat_le}
use Rattle.std.specs.List.{list_any}
use Rattle.std.proofs.lemmas.List.{drop_all, drop_more}
use Rattle.hg_catalog.specs.Contents.{CatalogTable, CatalogIndex}
use Rattle.hg_model.specs.Binding.{cause_if, repeated_name}
use Rattle.hg_model.specs.ChangeBinding.{column_number}
use Rattle.hg_model.specs.Changes.{has_double}
use Rattle.hg_model.specs.Creation.{Index, create_index_refusal, is_named_so, unknown_column, index_places, key_length}
use Rattle.hg_model.specs.Refusal.{Refusal, UnknownTable, UnknownColumn, NameTaken, TooMany, DuplicateKey, KeyTooLong, first_cause}
use Rattle.hg_model.specs.Scope.{columns_of, rows_of}
use Rattle.hg_model.specs.Statements.{IndexTree}
use Rattle.hg_model.specs.Tables.{Table, table_named, same_name}
use Rattle.hg_model.specs.declared.trees.Count.TheVariants as count
use Rattle.hg_model.specs.declared.trees.Column.{Column}
use Rattle.hg_bind.specs.Bound.{IsTable, IsPlacedIndex, error_of, index_of, plain_name}
use Rattle.hg_bind.specs.declared.errors.BindError.{BindError}
use Rattle.hg_bind.proofs.NameCauses.{cause_first, cause_later, cause_none, handed}

-- the names of indexes, one after the other
module _ (name : List ℕ) where
  abbrev pub has : Index → Bool
  has x = is_named_so name x.name

  pub index_step : (ts : List CatalogTable) (xs : List CatalogIndex) (k : ℕ) (n : Option (List ℕ)) → option_map (λ (x : CatalogIndex). x.name) (slice_get xs k) ≡ Some n
      → list_any has (drop k (map (index_of ts) xs)) ≡ (is_named_so name n || list_any has (drop (k + 1) (map (index_of ts) xs)))
  index_step ts [] k n is = absurd cc
  index_step ts (x ∷ xs) zero n is =
      let here : x.name ≡ n = cc in
      ap (λ m. is_named_so name m || list_any has (map (index_of ts) xs)) here
  index_step ts (x ∷ xs) (suc k) n is =
      let next : suc (k + 1) ≡ suc k + 1 = omega arith in
      index_step ts xs k n is ∙ ap (λ m. is_named_so name n || list_any has (drop m (map (index_of ts) (x ∷ xs)))) next

  pub index_end : (ts : List CatalogTable) (xs : List CatalogIndex) (k : ℕ) → length xs ≤ k → list_any has (drop k (map (index_of ts) xs)) ≡ false
  index_end ts [] k h = ap (list_any has) (drop_all k [] (omega arith))
  index_end ts (x ∷ xs) zero h = absurd (omega arith)
  index_end ts (x ∷ xs) (suc k) h = index_end ts xs k (omega arith)

-- the columns of an index, one after the other
module _ (cs : List Column) (names : List (List ℕ)) (i : ℕ) (name : List ℕ) (h : i < length names) (is : name ≡ get_or names i name) where
  abbrev named : Column → Bool
  named c = same_name c.name name

  whole : unknown_column cs (drop i names) ≡ (if list_any named cs then unknown_column cs (drop (i + 1) names) else Some (UnknownColumn (plain_name name)))
  whole = ap (unknown_column cs) (drop_more names i name h ∙ ap (λ n. n ∷ drop (i + 1) names) (sym is))

  pub unknown_at : list_any named cs ≡ false → unknown_column cs (drop i names) ≡ Some (UnknownColumn (plain_name name))
  unknown_at none = whole ∙ ap (λ b. if b then unknown_column cs (drop (i + 1) names) else Some (UnknownColumn (plain_name name))) none

  pub known_at : list_any named cs ≡ true → unknown_column cs (drop (i + 1) names) ≡ unknown_column cs (drop i names)
  known_at there = sym (whole ∙ ap (λ b. if b then unknown_column cs (drop (i + 1) names) else Some (UnknownColumn (plain_name name))) there)

module _ (tables : List Table) (indexes : List Index) (i : IndexTree) where
  abbrev taken : Bool → Option Refusal
  taken b = cause_if b (NameTaken i.name)

  abbrev is_taken : Bool
  is_taken = list_any (λ (x : Index). is_named_so i.name x.name) indexes

  abbrev full : Bool → Option Refusal
  full b = cause_if b (TooMany count.Indexes)

  abbrev long : Bool → Option Refusal
  long b = cause_if b KeyTooLong

  abbrev is_long : List Column → Bool
  is_long cs = nat_lt 512 (key_length cs (index_places cs i))

  abbrev double : List Column → Option Refusal
  double cs = cause_if (i.unique && has_double (index_places cs i) (rows_of (table_named tables i.table))) DuplicateKey

  abbrev behind_table : List Column → List (Option Refusal)
  behind_table cs = unknown_column cs i.columns ∷ repeated_name i.columns ∷ long (is_long cs) ∷ double cs ∷ []

  abbrev behind_limit : Option Table → List (Option Refusal)
  behind_limit o = cause_if (not (is_some o)) (UnknownTable i.table) ∷ behind_table (columns_of o)

  opened : create_index_refusal tables indexes i ≡ first_cause (taken is_taken ∷ full (nat_le 64 (length indexes)) ∷ behind_limit (table_named tables i.table))
  unfolding create_index_refusal
  opened = refl

  pub index_taken : is_taken ≡ true → create_index_refusal tables indexes i ≡ Some (NameTaken i.name)
  index_taken is = opened ∙ ap (λ b. first_cause (taken b ∷ full (nat_le 64 (length indexes)) ∷ behind_limit (table_named tables i.table))) is ∙ cause_first _ _

  module _ (free : is_taken ≡ false) where
    behind_name : create_index_refusal tables indexes i ≡ first_cause (full (nat_le 64 (length indexes)) ∷ behind_limit (table_named tables i.table))
    behind_name = opened ∙ ap (λ b. first_cause (taken b ∷ full (nat_le 64 (length indexes)) ∷ behind_limit (table_named tables i.table))) free ∙ cause_later _

    pub no_room : nat_le 64 (length indexes) ≡ true → create_index_refusal tables indexes i ≡ Some (TooMany count.Indexes)
    no_room is = behind_name ∙ ap (λ b. first_cause (full b ∷ behind_limit (table_named tables i.table))) is ∙ cause_first _ _

    module _ (room : nat_le 64 (length indexes) ≡ false) where
      behind_room : create_index_refusal tables indexes i ≡ first_cause (behind_limit (table_named tables i.table))
      behind_room = behind_name ∙ ap (λ b. first_cause (full b ∷ behind_limit (table_named tables i.table))) room ∙ cause_later _

      pub index_unknown : table_named tables i.table ≡ None → create_index_refusal tables indexes i ≡ Some (UnknownTable i.table)
      index_unknown none = behind_room ∙ ap (λ o. first_cause (behind_limit o)) none ∙ cause_first _ _

      module _ (n : ℕ) (cs : List Column) (at : IsTable tables i.table n) (columns : columns_of (table_named tables i.table) ≡ cs) where
        behind : create_index_refusal tables indexes i ≡ first_cause (behind_table cs)
        behind =
            behind_room
            ∙ ap (λ l. first_cause (cause_if (not (is_some (table_named tables i.table))) (UnknownTable i.table) ∷ behind_table l)) columns
            ∙ ap (λ o. first_cause (cause_if (not (is_some o)) (UnknownTable i.table) ∷ behind_table cs)) at.named ∙ cause_later _

        module _ (names : List (List ℕ)) (same : names ≡ i.columns) where
          pub column_unknown : (e : BindError) → option_map error_of (unknown_column cs names) ≡ Some e → option_map error_of (create_index_refusal tables indexes i) ≡ Some e
          column_unknown e is = ap (option_map error_of) behind ∙ handed _ _ e (ap (λ l. option_map error_of (unknown_column cs l)) (sym same) ∙ is)

          module _ (known : unknown_column cs names ≡ None) where
            behind_known : create_index_refusal tables indexes i ≡ first_cause (repeated_name i.columns ∷ long (is_long cs) ∷ double cs ∷ [])
            behind_known =
                behind ∙ ap (λ o. first_cause (o ∷ repeated_name i.columns ∷ long (is_long cs) ∷ double cs ∷ [])) (ap (unknown_column cs) (sym same) ∙ known) ∙ cause_later _

            pub column_twice : (e : BindError) → option_map error_of (repeated_name names) ≡ Some e → option_map error_of (create_index_refusal tables indexes i) ≡ Some e
            column_twice e is = ap (option_map error_of) behind_known ∙ handed _ _ e (ap (λ l. option_map error_of (repeated_name l)) (sym same) ∙ is)

            module _ (once : repeated_name names ≡ None) (numbers : List ℕ) (are : numbers ≡ map (column_number cs) names) where
              placed : numbers ≡ index_places cs i
              placed = are ∙ ap (map (column_number cs)) same

              behind_once : create_index_refusal tables indexes i ≡ first_cause (long (nat_lt 512 (key_length cs numbers)) ∷ double cs ∷ [])
              behind_once =
                  behind_known ∙ ap (λ o. first_cause (o ∷ long (is_long cs) ∷ double cs ∷ [])) (ap repeated_name (sym same) ∙ once) ∙ cause_later _
                  ∙ ap (λ l. first_cause (long (nat_lt 512 (key_length cs l)) ∷ double cs ∷ [])) (sym placed)

              pub index_long : nat_lt 512 (key_length cs numbers) ≡ true → create_index_refusal tables indexes i ≡ Some KeyTooLong
              index_long is = behind_once ∙ ap (λ b. first_cause (long b ∷ double cs ∷ [])) is ∙ cause_first _ _

              none_double : (b : Bool) → (b && false) ≡ false
              none_double true = refl
              none_double false = refl

              pub index_placed : nat_lt 512 (key_length cs numbers) ≡ false → rows_of (table_named tables i.table) ≡ [] → IsPlacedIndex tables indexes i n numbers
              index_placed is gone = record {
                unrefused =
                    behind_once ∙ ap (λ b. first_cause (long b ∷ double cs ∷ [])) is ∙ cause_later _
                    ∙ ap (λ rows. first_cause (cause_if (i.unique && has_double (index_places cs i) rows) DuplicateKey ∷ [])) gone
                    ∙ ap (λ b. first_cause (cause_if b DuplicateKey ∷ [])) (none_double i.unique) ∙ cause_later _ ∙ cause_none;
                table_is = at;
                numbers_are = placed ∙ ap (λ l. index_places l i) (sym columns);
              }
