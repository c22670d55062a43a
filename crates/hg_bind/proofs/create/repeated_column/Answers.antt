use Rattle.std.proofs.Common.{sym, ◌∙◌, ap, Some, get_or}
use Rattle.std.specs.Prelude.{option_map}
use Rattle.std.specs.List.{list_any}
use Rattle.std.proofs.lemmas.List.{take-map}
use Rattle.hg_model.specs.Tables.{same_name}
use Rattle.hg_bind.specs.Bound.{error_of, names_made}
use Rattle.hg_bind.proofs.Creating.{repeated_here, fresh_here, name_made, made_within, made_here}
use Rattle.hg_bind.proofs.create.repeated_column.Goals as goal

pub returns-then-is_new_column : goal.returns-then-is_new_column
returns-then-is_new_column c =
    ap Some c.name_taken.ensures
    ∙ sym (ap (option_map error_of) (sym c.loop-place.invariant ∙ repeated_here (names_made c.args.columns.now) c.loop-place.place (get_or c.args.columns.now c.loop-place.place c.index-columns-place.result).column.name
    (made_within c.args.columns.now c.loop-place.place c.loop-place-test.true)
    (made_here c.args.columns.now c.loop-place.place c.index-columns-place.result c.loop-place-test.true)
    (ap (list_any (same_name (get_or c.args.columns.now c.loop-place.place c.index-columns-place.result).column.name)) (take-map name_made c.loop-place.place c.args.columns.now) ∙ sym c.is_new_column.ensures ∙ c.if-is_new_column.true)))

pub loop-place-preserved : goal.loop-place-preserved
loop-place-preserved c = fresh_here (names_made c.args.columns.now) c.loop-place.place (get_or c.args.columns.now c.loop-place.place c.index-columns-place.result).column.name
    (made_within c.args.columns.now c.loop-place.place c.loop-place-test.true)
    (made_here c.args.columns.now c.loop-place.place c.index-columns-place.result c.loop-place-test.true)
    (ap (list_any (same_name (get_or c.args.columns.now c.loop-place.place c.index-columns-place.result).column.name)) (take-map name_made c.loop-place.place c.args.columns.now) ∙ sym c.is_new_column.ensures ∙ c.if-is_new_column.false) ∙ c.loop-place.invariant
