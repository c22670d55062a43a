-- The first cause against an INSERT.
use Rattle.std.proofs.Common.{◌≡◌, ℕ, Bool, true, false, List, [], ◌∷◌, Option, Some, None, sym, ap, ◌∙◌, not}
use Rattle.std.specs.Prelude.{is_some, option_map}
use Rattle.std.specs.List.{list_all}
use Rattle.hg_model.specs.Binding.{cause_if}
use Rattle.hg_model.specs.ChangeBinding.{insert_refusal, columns_cause, insert_targets, tuple_fits}
use Rattle.hg_model.specs.Changes.{tuples_from}
use Rattle.hg_model.specs.Refusal.{Refusal, UnknownTable, TypeMismatch, first_cause}
use Rattle.hg_model.specs.Scope.{columns_of}
use Rattle.hg_model.specs.Statements.{InsertTree}
use Rattle.hg_model.specs.Tables.{Table, table_named}
use Rattle.hg_model.specs.declared.trees.Column.{Column}
use Rattle.hg_model.specs.declared.trees.Literal.{Literal}
use Rattle.hg_bind.specs.Bound.{IsTable, IsPlacedInsert, error_of}
use Rattle.hg_bind.specs.declared.errors.BindError.{BindError}
use Rattle.hg_bind.proofs.NameCauses.{cause_first, cause_later, cause_none, handed}

abbrev fit : List Column → InsertTree → Bool
fit cs i = list_all (tuple_fits cs (insert_targets cs i.columns)) (tuples_from 0 i.ends i.values)

abbrev causes : Option Table → List Column → InsertTree → List (Option Refusal)
causes o cs i = cause_if (not (is_some o)) (UnknownTable i.table) ∷ first_cause (columns_cause cs [] i.columns) ∷ cause_if (not (fit cs i)) TypeMismatch ∷ []

pub insert_unknown : (tables : List Table) (i : InsertTree) → table_named tables i.table ≡ None → insert_refusal tables i ≡ Some (UnknownTable i.table)
unfolding insert_refusal
insert_unknown tables i none =
    ap (λ o. first_cause (causes o (columns_of o) i)) none ∙ cause_first _ _

module _ (tables : List Table) (i : InsertTree) (n : ℕ) (cs : List Column) (at : IsTable tables i.table n) (columns : columns_of (table_named tables i.table) ≡ cs) where
  opened : insert_refusal tables i ≡ first_cause (first_cause (columns_cause cs [] i.columns) ∷ cause_if (not (fit cs i)) TypeMismatch ∷ [])
  unfolding insert_refusal
  opened =
      ap (λ l. first_cause (causes (table_named tables i.table) l i)) columns
      ∙ ap (λ o. first_cause (causes o cs i)) at.named ∙ cause_later _

  pub insert_names : (names : List (List ℕ)) (e : BindError) → names ≡ i.columns → option_map error_of (first_cause (columns_cause cs [] names)) ≡ Some e
      → option_map error_of (insert_refusal tables i) ≡ Some e
  insert_names names e same is =
      ap (option_map error_of) opened
      ∙ handed _ _ e (ap (λ l. option_map error_of (first_cause (columns_cause cs [] l))) (sym same) ∙ is)

  -- a row of constants is looked at with the columns that the names stand for
  module _ (names : List (List ℕ)) (targets ends : List ℕ) (values : List Literal) (same : names ≡ i.columns) (are : targets ≡ insert_targets cs names)
      (ends_are : ends ≡ i.ends) (values_are : values ≡ i.values) (none : first_cause (columns_cause cs [] names) ≡ None) where
    targets_of : targets ≡ insert_targets cs i.columns
    targets_of = are ∙ ap (insert_targets cs) same

    fits_so : list_all (tuple_fits cs targets) (tuples_from 0 ends values) ≡ fit cs i
    fits_so =
        ap (λ l. list_all (tuple_fits cs l) (tuples_from 0 ends values)) targets_of
        ∙ ap (λ l. list_all (tuple_fits cs (insert_targets cs i.columns)) (tuples_from 0 l values)) ends_are
        ∙ ap (λ l. list_all (tuple_fits cs (insert_targets cs i.columns)) (tuples_from 0 i.ends l)) values_are

    types : insert_refusal tables i ≡ first_cause (cause_if (not (fit cs i)) TypeMismatch ∷ [])
    types =
        opened ∙ ap (λ o. first_cause (o ∷ cause_if (not (fit cs i)) TypeMismatch ∷ [])) (ap (λ l. first_cause (columns_cause cs [] l)) (sym same) ∙ none)
        ∙ cause_later _

    pub insert_mixes : list_all (tuple_fits cs targets) (tuples_from 0 ends values) ≡ false → insert_refusal tables i ≡ Some TypeMismatch
    insert_mixes mixed = types ∙ ap (λ b. first_cause (cause_if (not b) TypeMismatch ∷ [])) (sym fits_so ∙ mixed) ∙ cause_first _ _

    pub insert_placed : list_all (tuple_fits cs targets) (tuples_from 0 ends values) ≡ true → IsPlacedInsert tables i n targets
    insert_placed fits = record {
      unrefused = types ∙ ap (λ b. first_cause (cause_if (not b) TypeMismatch ∷ [])) (sym fits_so ∙ fits) ∙ cause_later _ ∙ cause_none;
      table_is = at;
      targets_are = targets_of ∙ ap (λ l. insert_targets l i.columns) (sym columns);
    }
