use Rattle.std.proofs.Common.{◌≡◌, [], sym, ◌∙◌, ap, Some, map}
use Rattle.std.specs.Prelude.{option_map}
use Rattle.hg_model.specs.Binding.{leaf_kinds, select_kinds, select_types_fit}
use Rattle.hg_model.specs.Query.{query_of}
use Rattle.hg_model.specs.Types.{all_narrow, kinds_from}
use Rattle.hg_bind.specs.Bound.{error_of}
use Rattle.hg_bind.specs.Kinds.{shown}
use Rattle.hg_bind.proofs.Selection.{last_number, last_types, last_groups, last_wide, last_long, last_none}
use Rattle.hg_bind.proofs.select.last_refusal.Goals as goal

pub returns-then-has_outside : goal.returns-then-has_outside
returns-then-has_outside c =
    let q = query_of c.args.select.now in
    ap Some c.bad_number.ensures ∙ sym (ap (option_map error_of) (last_number c.args.scope.now c.args.positions.now q
    (sym c.has_outside.ensures ∙ c.if-has_outside.true)))

pub returns-then-not-select_types_fit : goal.returns-then-not-select_types_fit
returns-then-not-select_types_fit c =
    let q = query_of c.args.select.now in
    let kinds : map shown c.as_slice.result.now ≡ select_kinds c.args.scope.now c.args.positions.now q =
    ap (map shown) c.as_slice.ensures.value ∙ c.list_select_kinds.ensures ∙ ap (λ l. kinds_from (leaf_kinds c.args.scope.now c.args.positions.now) l []) c.as_slice-nodes.ensures.value in
    ap Some c.type_mismatch.ensures ∙ sym (ap (option_map error_of) (last_types c.args.scope.now c.args.positions.now q
    (sym c.has_outside.ensures ∙ c.if-has_outside.false)
    (ap (select_types_fit q) (sym kinds) ∙ sym c.select_types_fit.ensures ∙ c.if-not-select_types_fit.true)))

pub returns-then-not-grouping_fits : goal.returns-then-not-grouping_fits
returns-then-not-grouping_fits c =
    let q = query_of c.args.select.now in
    let kinds : map shown c.as_slice.result.now ≡ select_kinds c.args.scope.now c.args.positions.now q =
    ap (map shown) c.as_slice.ensures.value ∙ c.list_select_kinds.ensures ∙ ap (λ l. kinds_from (leaf_kinds c.args.scope.now c.args.positions.now) l []) c.as_slice-nodes.ensures.value in
    ap Some c.not_grouped.ensures ∙ sym (ap (option_map error_of) (last_groups c.args.scope.now c.args.positions.now q
    (sym c.has_outside.ensures ∙ c.if-has_outside.false)
    (ap (select_types_fit q) (sym kinds) ∙ sym c.select_types_fit.ensures ∙ c.if-not-select_types_fit.false)
    (sym c.grouping_fits.ensures ∙ c.if-not-grouping_fits.true)))

pub returns-then-not-all_narrow : goal.returns-then-not-all_narrow
returns-then-not-all_narrow c =
    let q = query_of c.args.select.now in
    let kinds : map shown c.as_slice.result.now ≡ select_kinds c.args.scope.now c.args.positions.now q =
    ap (map shown) c.as_slice.ensures.value ∙ c.list_select_kinds.ensures ∙ ap (λ l. kinds_from (leaf_kinds c.args.scope.now c.args.positions.now) l []) c.as_slice-nodes.ensures.value in
    ap Some c.too_wide.ensures ∙ sym (ap (option_map error_of) (last_wide c.args.scope.now c.args.positions.now q
    (sym c.has_outside.ensures ∙ c.if-has_outside.false)
    (ap (select_types_fit q) (sym kinds) ∙ sym c.select_types_fit.ensures ∙ c.if-not-select_types_fit.false)
    (sym c.grouping_fits.ensures ∙ c.if-not-grouping_fits.false)
    (ap all_narrow (sym c.as_slice-nodes.ensures.value) ∙ sym c.all_narrow.ensures ∙ c.if-not-all_narrow.true)))

pub returns-then-not-lengths_fit : goal.returns-then-not-lengths_fit
returns-then-not-lengths_fit c =
    let q = query_of c.args.select.now in
    let kinds : map shown c.as_slice.result.now ≡ select_kinds c.args.scope.now c.args.positions.now q =
    ap (map shown) c.as_slice.ensures.value ∙ c.list_select_kinds.ensures ∙ ap (λ l. kinds_from (leaf_kinds c.args.scope.now c.args.positions.now) l []) c.as_slice-nodes.ensures.value in
    ap Some c.row_too_long.ensures ∙ sym (ap (option_map error_of) (last_long c.args.scope.now c.args.positions.now q
    (sym c.has_outside.ensures ∙ c.if-has_outside.false)
    (ap (select_types_fit q) (sym kinds) ∙ sym c.select_types_fit.ensures ∙ c.if-not-select_types_fit.false)
    (sym c.grouping_fits.ensures ∙ c.if-not-grouping_fits.false)
    (ap all_narrow (sym c.as_slice-nodes.ensures.value) ∙ sym c.all_narrow.ensures ∙ c.if-not-all_narrow.false)
    (sym c.lengths_fit.ensures ∙ c.if-not-lengths_fit.true)))

pub returns : goal.returns
returns c =
    let q = query_of c.args.select.now in
    let kinds : map shown c.as_slice.result.now ≡ select_kinds c.args.scope.now c.args.positions.now q =
    ap (map shown) c.as_slice.ensures.value ∙ c.list_select_kinds.ensures ∙ ap (λ l. kinds_from (leaf_kinds c.args.scope.now c.args.positions.now) l []) c.as_slice-nodes.ensures.value in
    sym (ap (option_map error_of) (last_none c.args.scope.now c.args.positions.now q
    (sym c.has_outside.ensures ∙ c.if-has_outside.false)
    (ap (select_types_fit q) (sym kinds) ∙ sym c.select_types_fit.ensures ∙ c.if-not-select_types_fit.false)
    (sym c.grouping_fits.ensures ∙ c.if-not-grouping_fits.false)
    (ap all_narrow (sym c.as_slice-nodes.ensures.value) ∙ sym c.all_narrow.ensures ∙ c.if-not-all_narrow.false)
    (sym c.lengths_fit.ensures ∙ c.if-not-lengths_fit.false)))
