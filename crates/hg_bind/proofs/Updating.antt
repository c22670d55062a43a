-- The first cause against an UPDATE.
use Rattle.std.proofs.Common.{◌≡◌, ℕ, Bool, true, false, List, [], ◌∷◌, Option, Some, None, map, sym, ap, ◌∙◌, not, ◌&&◌}
use Rattle.std.specs.Prelude.{is_some, option_map}
use Rattle.std.proofs.lemmas.Simd.{map-map}
use Rattle.hg_model.specs.Binding.{cause_if}
use Rattle.hg_model.specs.ChangeBinding.{update_refusal, update_targets, columns_cause, column_number, node_name_cause, change_kinds, change_positions, filter_fits, sets_fit}
use Rattle.hg_model.specs.Refusal.{Refusal, UnknownTable, TypeMismatch, first_cause}
use Rattle.hg_model.specs.Scope.{columns_from, columns_of}
use Rattle.hg_model.specs.Statements.{UpdateTree}
use Rattle.hg_model.specs.Tables.{Table, table_named}
use Rattle.hg_model.specs.Types.{Kind, all_well_typed}
use Rattle.hg_model.specs.declared.tables.FromColumn.{FromColumn}
use Rattle.hg_model.specs.declared.trees.Column.{Column}
use Rattle.hg_model.specs.declared.trees.Node.{Node}
use Rattle.hg_bind.specs.Bound.{IsTable, IsPlacedUpdate, error_of, names_set, row_places, numbers_of, causes_behind_types}
use Rattle.hg_bind.specs.Kinds.{kinds_of_nodes}
use Rattle.hg_bind.specs.declared.errors.BindError.{BindError}
use Rattle.hg_bind.proofs.NameCauses.{cause_first, cause_later, handed}
use Rattle.hg_bind.proofs.NodeKinds.{kinds_are}

abbrev fit : List Column → List (List ℕ × ℕ) → List Node → Option ℕ → List Kind → Bool
fit cs sets nodes filter kinds = all_well_typed nodes kinds && (sets_fit cs kinds sets && filter_fits kinds filter)

abbrev behind_names : List Column → List FromColumn → UpdateTree → List (Option Refusal)
behind_names cs scope u = cause_if (not (fit cs u.sets u.nodes u.filter (change_kinds scope u.nodes))) TypeMismatch ∷ causes_behind_types u.nodes

abbrev causes_from : List Column → List FromColumn → UpdateTree → List (Option Refusal)
causes_from cs scope u = first_cause (columns_cause cs [] (names_set u.sets)) ∷ first_cause (map (node_name_cause scope) u.nodes) ∷ behind_names cs scope u

abbrev causes : Option Table → UpdateTree → List (Option Refusal)
causes o u = cause_if (not (is_some o)) (UnknownTable u.table) ∷ causes_from (columns_of o) (columns_from 0 u.table 0 (columns_of o)) u

pub update_unknown : (tables : List Table) (u : UpdateTree) → table_named tables u.table ≡ None → update_refusal tables u ≡ Some (UnknownTable u.table)
unfolding update_refusal
update_unknown tables u none = ap (λ o. first_cause (causes o u)) none ∙ cause_first _ _

module _ (tables : List Table) (u : UpdateTree) (n : ℕ) (cs : List Column) (at : IsTable tables u.table n) (columns : columns_of (table_named tables u.table) ≡ cs) where
  abbrev scope : List FromColumn
  scope = columns_from 0 u.table 0 cs

  opened : update_refusal tables u ≡ first_cause (causes_from cs scope u)
  unfolding update_refusal
  opened =
      ap (λ l. first_cause (cause_if (not (is_some (table_named tables u.table))) (UnknownTable u.table) ∷ causes_from l (columns_from 0 u.table 0 l) u)) columns
      ∙ ap (λ o. first_cause (cause_if (not (is_some o)) (UnknownTable u.table) ∷ causes_from cs scope u)) at.named ∙ cause_later _

  module _ (sets : List (List ℕ × ℕ)) (same_sets : sets ≡ u.sets) where
    pub update_targets_refused : (e : BindError) → option_map error_of (first_cause (columns_cause cs [] (names_set sets))) ≡ Some e → option_map error_of (update_refusal tables u) ≡ Some e
    update_targets_refused e is =
        ap (option_map error_of) opened
        ∙ handed _ _ e (ap (λ l. option_map error_of (first_cause (columns_cause cs [] (names_set l)))) (sym same_sets) ∙ is)

    module _ (targets : List ℕ) (are : targets ≡ map (column_number cs) (names_set sets)) (no_target : first_cause (columns_cause cs [] (names_set sets)) ≡ None)
        (nodes : List Node) (same : nodes ≡ u.nodes) where
      behind_targets : update_refusal tables u ≡ first_cause (first_cause (map (node_name_cause scope) u.nodes) ∷ behind_names cs scope u)
      behind_targets =
          opened
          ∙ ap (λ o. first_cause (o ∷ first_cause (map (node_name_cause scope) u.nodes) ∷ behind_names cs scope u))
          (ap (λ l. first_cause (columns_cause cs [] (names_set l))) (sym same_sets) ∙ no_target)
          ∙ cause_later _

      pub update_names : (e : BindError) → option_map error_of (first_cause (map (node_name_cause scope) nodes)) ≡ Some e → option_map error_of (update_refusal tables u) ≡ Some e
      update_names e is =
          ap (option_map error_of) behind_targets
          ∙ handed _ _ e (ap (λ l. option_map error_of (first_cause (map (node_name_cause scope) l))) (sym same) ∙ is)

      module _ (places : List (ℕ × ℕ)) (placed : places ≡ row_places (change_positions scope nodes)) (none : first_cause (map (node_name_cause scope) nodes) ≡ None) where
        abbrev kinds : List Kind
        kinds = kinds_of_nodes cs (numbers_of places) nodes

        kinds_so : kinds ≡ change_kinds scope u.nodes
        kinds_so = ap (λ l. kinds_of_nodes cs (numbers_of l) nodes) placed ∙ sym (kinds_are u.table cs nodes) ∙ ap (change_kinds scope) same

        fits_so : fit cs sets nodes u.filter kinds ≡ fit cs u.sets u.nodes u.filter (change_kinds scope u.nodes)
        fits_so =
            ap (fit cs sets nodes u.filter) kinds_so ∙ ap (λ l. fit cs sets l u.filter (change_kinds scope u.nodes)) same
            ∙ ap (λ l. fit cs l u.nodes u.filter (change_kinds scope u.nodes)) same_sets

        types : update_refusal tables u ≡ first_cause (cause_if (not (fit cs sets nodes u.filter kinds)) TypeMismatch ∷ causes_behind_types u.nodes)
        types =
            behind_targets
            ∙ ap (λ o. first_cause (o ∷ behind_names cs scope u)) (ap (λ l. first_cause (map (node_name_cause scope) l)) (sym same) ∙ none)
            ∙ cause_later _ ∙ ap (λ b. first_cause (cause_if (not b) TypeMismatch ∷ causes_behind_types u.nodes)) (sym fits_so)

        pub update_mixes : fit cs sets nodes u.filter kinds ≡ false → update_refusal tables u ≡ Some TypeMismatch
        update_mixes mixed = types ∙ ap (λ b. first_cause (cause_if (not b) TypeMismatch ∷ causes_behind_types u.nodes)) mixed ∙ cause_first _ _

        pub update_behind : fit cs sets nodes u.filter kinds ≡ true → update_refusal tables u ≡ first_cause (causes_behind_types nodes)
        update_behind fits =
            types ∙ ap (λ b. first_cause (cause_if (not b) TypeMismatch ∷ causes_behind_types u.nodes)) fits ∙ cause_later _
            ∙ ap (λ l. first_cause (causes_behind_types l)) (sym same)

        pub update_placed : fit cs sets nodes u.filter kinds ≡ true → first_cause (causes_behind_types nodes) ≡ None → IsPlacedUpdate tables u n targets places
        update_placed fits last = record {
          unrefused = update_behind fits ∙ last;
          table_is = at;
          targets_are = are ∙ ap (λ l. map (column_number cs) (names_set l)) same_sets ∙ map-map (column_number cs) (λ (s : List ℕ × ℕ). s.0) u.sets ∙ ap (λ l. update_targets l u) (sym columns);
          places_are = placed ∙ ap (λ l. row_places (change_positions scope l)) same ∙ ap (λ l. row_places (change_positions (columns_from 0 u.table 0 l) u.nodes)) (sym columns);
        }
