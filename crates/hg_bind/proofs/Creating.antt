-- The first cause against CREATE TABLE.
use Rattle.std.proofs.Common.{◌≡◌, ◌≤◌, ◌<◌, ℕ, ◌+◌, Bool, true, false, List, [], ◌∷◌, ◌++◌, Option, Some, None, map, refl, sym, ap, ◌∙◌, length, get_or, drop, take, arith, if◌then◌else◌}
use Rattle.std.specs.Prelude.{is_some, option_map, nat_lt, nat_le}
use Rattle.std.specs.List.{count_by, list_any}
use Rattle.std.proofs.lemmas.Bool.Decides.{nat_tests}
use Rattle.std.proofs.lemmas.List.{drop_more, take_more, length-map, get_or-map}
use Rattle.hg_model.specs.Binding.{cause_if, repeated_from, repeated_name}
use Rattle.hg_model.specs.Creation.{Index, create_table_refusal, is_key}
use Rattle.hg_model.specs.Refusal.{Refusal, NameTaken, TooMany, first_cause}
use Rattle.hg_model.specs.Statements.{TableTree}
use Rattle.hg_model.specs.Tables.{Table, table_named, same_name}
use Rattle.hg_model.specs.declared.trees.Count.TheVariants as count
use Rattle.hg_model.specs.declared.trees.NewColumn.{NewColumn}
use Rattle.hg_bind.specs.Bound.{error_of, names_made}
use Rattle.hg_bind.specs.declared.errors.BindError.{BindError}
use Rattle.hg_bind.proofs.NameCauses.{cause_first, cause_later, cause_none, handed}

pub below_test : (a b : ℕ) → a < b → nat_lt a b ≡ true
below_test a b h = grind (arith, nat_tests)

pub not_below_test : (a b : ℕ) → b ≤ a → nat_lt a b ≡ false
not_below_test a b h = grind (arith, nat_tests)

pub at_most_test : (a b : ℕ) → a ≤ b → nat_le a b ≡ true
at_most_test a b h = grind (arith, nat_tests)

pub above_test : (a b : ℕ) → b < a → nat_le a b ≡ false
above_test a b h = grind (arith, nat_tests)

-- the name at a place has stood before, or has not
module _ (names : List (List ℕ)) (i : ℕ) (name : List ℕ) (h : i < length names) (is : name ≡ get_or names i name) where
  abbrev before : List (List ℕ)
  before = take i names

  whole : repeated_from before (drop i names) ≡ (if list_any (same_name name) before then Some (NameTaken name) else repeated_from (before ++ name ∷ []) (drop (i + 1) names))
  whole = ap (repeated_from before) (drop_more names i name h ∙ ap (λ n. n ∷ drop (i + 1) names) (sym is))

  pub repeated_here : list_any (same_name name) before ≡ true → repeated_from before (drop i names) ≡ Some (NameTaken name)
  repeated_here stood = whole ∙ ap (λ b. if b then Some (NameTaken name) else repeated_from (before ++ name ∷ []) (drop (i + 1) names)) stood

  pub fresh_here : list_any (same_name name) before ≡ false → repeated_from (take (i + 1) names) (drop (i + 1) names) ≡ repeated_from before (drop i names)
  fresh_here fresh =
      ap (λ l. repeated_from l (drop (i + 1) names)) (take_more names i name h ∙ ap (λ n. before ++ n ∷ []) (sym is))
      ∙ sym (whole ∙ ap (λ b. if b then Some (NameTaken name) else repeated_from (before ++ name ∷ []) (drop (i + 1) names)) fresh)

abbrev pub name_made : NewColumn → List ℕ
name_made c = c.column.name

pub made_within : (columns : List NewColumn) (i : ℕ) → i < length columns → i < length (names_made columns)
made_within columns i h = omega (arith, length-map columns name_made)

pub made_here : (columns : List NewColumn) (i : ℕ) (d : NewColumn) → i < length columns → (get_or columns i d).column.name ≡ get_or (names_made columns) i (get_or columns i d).column.name
made_here columns i d h = sym (get_or-map name_made columns i d (get_or columns i d).column.name h)

module _ (tables : List Table) (indexes : List Index) (t : TableTree) where
  abbrev taken : Bool → Option Refusal
  taken b = cause_if b (NameTaken t.name)

  abbrev primaries : Bool → Option Refusal
  primaries b = cause_if b (TooMany count.PrimaryKeys)

  abbrev too_many_tables : Bool → Option Refusal
  too_many_tables b = cause_if b (TooMany count.Tables)

  abbrev too_many_indexes : Bool → Option Refusal
  too_many_indexes b = cause_if b (TooMany count.Indexes)

  abbrev is_double : Bool
  is_double = nat_lt 1 (count_by (λ (c : NewColumn). c.primary) t.columns)

  abbrev is_full : Bool
  is_full = nat_le 64 (length tables)

  abbrev is_over : Bool
  is_over = nat_lt 64 (length indexes + count_by is_key t.columns)

  abbrev repeated : Option Refusal
  repeated = repeated_name (map name_made t.columns)

  opened : create_table_refusal tables indexes t ≡ first_cause (taken (is_some (table_named tables t.name)) ∷ repeated ∷ primaries is_double ∷ too_many_tables is_full ∷ too_many_indexes is_over ∷ [])
  unfolding create_table_refusal
  opened = refl

  pub table_taken : is_some (table_named tables t.name) ≡ true → create_table_refusal tables indexes t ≡ Some (NameTaken t.name)
  table_taken is = opened ∙ ap (λ b. first_cause (taken b ∷ repeated ∷ primaries is_double ∷ too_many_tables is_full ∷ too_many_indexes is_over ∷ [])) is ∙ cause_first _ _

  module _ (free : is_some (table_named tables t.name) ≡ false) where
    behind_name : create_table_refusal tables indexes t ≡ first_cause (repeated ∷ primaries is_double ∷ too_many_tables is_full ∷ too_many_indexes is_over ∷ [])
    behind_name = opened ∙ ap (λ b. first_cause (taken b ∷ repeated ∷ primaries is_double ∷ too_many_tables is_full ∷ too_many_indexes is_over ∷ [])) free ∙ cause_later _

    pub column_repeated : (e : BindError) → option_map error_of repeated ≡ Some e → option_map error_of (create_table_refusal tables indexes t) ≡ Some e
    column_repeated e is = ap (option_map error_of) behind_name ∙ handed _ _ e is

    module _ (none : repeated ≡ None) where
      behind_columns : create_table_refusal tables indexes t ≡ first_cause (primaries is_double ∷ too_many_tables is_full ∷ too_many_indexes is_over ∷ [])
      behind_columns = behind_name ∙ ap (λ o. first_cause (o ∷ primaries is_double ∷ too_many_tables is_full ∷ too_many_indexes is_over ∷ [])) none ∙ cause_later _

      pub two_primaries : is_double ≡ true → create_table_refusal tables indexes t ≡ Some (TooMany count.PrimaryKeys)
      two_primaries is = behind_columns ∙ ap (λ b. first_cause (primaries b ∷ too_many_tables is_full ∷ too_many_indexes is_over ∷ [])) is ∙ cause_first _ _

      module _ (single : is_double ≡ false) where
        behind_primaries : create_table_refusal tables indexes t ≡ first_cause (too_many_tables is_full ∷ too_many_indexes is_over ∷ [])
        behind_primaries = behind_columns ∙ ap (λ b. first_cause (primaries b ∷ too_many_tables is_full ∷ too_many_indexes is_over ∷ [])) single ∙ cause_later _

        pub tables_full : is_full ≡ true → create_table_refusal tables indexes t ≡ Some (TooMany count.Tables)
        tables_full is = behind_primaries ∙ ap (λ b. first_cause (too_many_tables b ∷ too_many_indexes is_over ∷ [])) is ∙ cause_first _ _

        module _ (room : is_full ≡ false) where
          behind_tables : create_table_refusal tables indexes t ≡ first_cause (too_many_indexes is_over ∷ [])
          behind_tables = behind_primaries ∙ ap (λ b. first_cause (too_many_tables b ∷ too_many_indexes is_over ∷ [])) room ∙ cause_later _

          pub indexes_full : is_over ≡ true → create_table_refusal tables indexes t ≡ Some (TooMany count.Indexes)
          indexes_full is = behind_tables ∙ ap (λ b. first_cause (too_many_indexes b ∷ [])) is ∙ cause_first _ _

          pub table_allowed : is_over ≡ false → create_table_refusal tables indexes t ≡ None
          table_allowed is = behind_tables ∙ ap (λ b. first_cause (too_many_indexes b ∷ [])) is ∙ cause_later _ ∙ cause_none
