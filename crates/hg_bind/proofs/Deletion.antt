-- The first cause against a DELETE.
use Rattle.std.proofs.Common.{◌≡◌, ℕ, Bool, true, false, List, ◌∷◌, Option, Some, None, map, sym, ap, ◌∙◌, not, ◌&&◌}
use Rattle.std.specs.Prelude.{is_some, option_map}
use Rattle.hg_model.specs.Binding.{cause_if}
use Rattle.hg_model.specs.ChangeBinding.{delete_refusal, node_name_cause, change_kinds, change_positions, filter_fits}
use Rattle.hg_model.specs.Refusal.{Refusal, UnknownTable, TypeMismatch, first_cause}
use Rattle.hg_model.specs.Scope.{columns_from, columns_of}
use Rattle.hg_model.specs.Statements.{DeleteTree}
use Rattle.hg_model.specs.Tables.{Table, table_named}
use Rattle.hg_model.specs.Types.{Kind, all_well_typed}
use Rattle.hg_model.specs.declared.tables.FromColumn.{FromColumn}
use Rattle.hg_model.specs.declared.trees.Column.{Column}
use Rattle.hg_model.specs.declared.trees.Node.{Node}
use Rattle.hg_bind.specs.Bound.{IsTable, IsPlacedDelete, error_of, row_places, numbers_of, causes_behind_types}
use Rattle.hg_bind.specs.Kinds.{kinds_of_nodes}
use Rattle.hg_bind.specs.declared.errors.BindError.{BindError}
use Rattle.hg_bind.proofs.NameCauses.{cause_first, cause_later, handed}
use Rattle.hg_bind.proofs.NodeKinds.{kinds_are}

abbrev fit : List Node → Option ℕ → List Kind → Bool
fit nodes filter kinds = all_well_typed nodes kinds && filter_fits kinds filter

abbrev causes_from : List FromColumn → DeleteTree → List (Option Refusal)
causes_from scope d =
    first_cause (map (node_name_cause scope) d.nodes)
    ∷ cause_if (not (fit d.nodes d.filter (change_kinds scope d.nodes))) TypeMismatch
    ∷ causes_behind_types d.nodes

abbrev causes : Option Table → DeleteTree → List (Option Refusal)
causes o d = cause_if (not (is_some o)) (UnknownTable d.table) ∷ causes_from (columns_from 0 d.table 0 (columns_of o)) d

pub delete_unknown : (tables : List Table) (d : DeleteTree) → table_named tables d.table ≡ None → delete_refusal tables d ≡ Some (UnknownTable d.table)
unfolding delete_refusal
delete_unknown tables d none = ap (λ o. first_cause (causes o d)) none ∙ cause_first _ _

module _ (tables : List Table) (d : DeleteTree) (n : ℕ) (cs : List Column) (at : IsTable tables d.table n) (columns : columns_of (table_named tables d.table) ≡ cs) where
  abbrev scope : List FromColumn
  scope = columns_from 0 d.table 0 cs

  opened : delete_refusal tables d ≡ first_cause (causes_from scope d)
  unfolding delete_refusal
  opened =
      ap (λ l. first_cause (cause_if (not (is_some (table_named tables d.table))) (UnknownTable d.table) ∷ causes_from (columns_from 0 d.table 0 l) d)) columns
      ∙ ap (λ o. first_cause (cause_if (not (is_some o)) (UnknownTable d.table) ∷ causes_from scope d)) at.named ∙ cause_later _

  module _ (nodes : List Node) (same : nodes ≡ d.nodes) where
    pub delete_names : (e : BindError) → option_map error_of (first_cause (map (node_name_cause scope) nodes)) ≡ Some e → option_map error_of (delete_refusal tables d) ≡ Some e
    delete_names e is =
        ap (option_map error_of) opened
        ∙ handed _ _ e (ap (λ l. option_map error_of (first_cause (map (node_name_cause scope) l))) (sym same) ∙ is)

    module _ (places : List (ℕ × ℕ)) (placed : places ≡ row_places (change_positions scope nodes)) (none : first_cause (map (node_name_cause scope) nodes) ≡ None) where
      abbrev kinds : List Kind
      kinds = kinds_of_nodes cs (numbers_of places) nodes

      kinds_so : kinds ≡ change_kinds scope d.nodes
      kinds_so =
          ap (λ l. kinds_of_nodes cs (numbers_of l) nodes) placed ∙ sym (kinds_are d.table cs nodes) ∙ ap (change_kinds scope) same

      fits_so : fit nodes d.filter kinds ≡ fit d.nodes d.filter (change_kinds scope d.nodes)
      fits_so = ap (fit nodes d.filter) kinds_so ∙ ap (λ l. fit l d.filter (change_kinds scope d.nodes)) same

      types : delete_refusal tables d ≡ first_cause (cause_if (not (fit nodes d.filter kinds)) TypeMismatch ∷ causes_behind_types d.nodes)
      types =
          opened
          ∙ ap (λ o. first_cause (o ∷ cause_if (not (fit d.nodes d.filter (change_kinds scope d.nodes))) TypeMismatch ∷ causes_behind_types d.nodes))
          (ap (λ l. first_cause (map (node_name_cause scope) l)) (sym same) ∙ none)
          ∙ cause_later _ ∙ ap (λ b. first_cause (cause_if (not b) TypeMismatch ∷ causes_behind_types d.nodes)) (sym fits_so)

      pub delete_mixes : fit nodes d.filter kinds ≡ false → delete_refusal tables d ≡ Some TypeMismatch
      delete_mixes mixed = types ∙ ap (λ b. first_cause (cause_if (not b) TypeMismatch ∷ causes_behind_types d.nodes)) mixed ∙ cause_first _ _

      pub delete_behind : fit nodes d.filter kinds ≡ true → delete_refusal tables d ≡ first_cause (causes_behind_types nodes)
      delete_behind fits =
          types ∙ ap (λ b. first_cause (cause_if (not b) TypeMismatch ∷ causes_behind_types d.nodes)) fits ∙ cause_later _
          ∙ ap (λ l. first_cause (causes_behind_types l)) (sym same)

      pub delete_placed : fit nodes d.filter kinds ≡ true → first_cause (causes_behind_types nodes) ≡ None → IsPlacedDelete tables d n places
      delete_placed fits last = record {
        unrefused = delete_behind fits ∙ last;
        table_is = at;
        places_are = placed ∙ ap (λ l. row_places (change_positions scope l)) same ∙ ap (λ l. row_places (change_positions (columns_from 0 d.table 0 l) d.nodes)) (sym columns);
      }
