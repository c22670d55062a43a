use Rattle.std.proofs.Common.{sym, ◌∙◌, ap, Some, get_or, map}
use Rattle.std.specs.Prelude.{option_map}
use Rattle.std.specs.List.{list_any}
use Rattle.std.proofs.lemmas.List.{take-map}
use Rattle.hg_model.specs.Tables.{same_name}
use Rattle.hg_bind.specs.Bound.{error_of}
use Rattle.hg_bind.proofs.Creating.{repeated_here, fresh_here}
use Rattle.hg_bind.proofs.Aliases.{alias_of, alias_within, alias_here}
use Rattle.hg_bind.proofs.select.repeated_alias.Goals as goal

pub returns-then-is_alias : goal.returns-then-is_alias
returns-then-is_alias c =
    ap Some c.name_taken.ensures
    ∙ sym (ap (option_map error_of) (sym c.loop-place.invariant ∙ repeated_here (map alias_of c.args.froms.now) c.loop-place.place (get_or c.args.froms.now c.loop-place.place c.index-froms-place.result).alias
    (alias_within c.args.froms.now c.loop-place.place c.loop-place-test.true)
    (alias_here c.args.froms.now c.loop-place.place c.index-froms-place.result c.loop-place-test.true)
    (ap (list_any (same_name (get_or c.args.froms.now c.loop-place.place c.index-froms-place.result).alias)) (take-map alias_of c.loop-place.place c.args.froms.now) ∙ sym c.is_alias.ensures ∙ c.if-is_alias.true)))

pub loop-place-preserved : goal.loop-place-preserved
loop-place-preserved c = fresh_here (map alias_of c.args.froms.now) c.loop-place.place (get_or c.args.froms.now c.loop-place.place c.index-froms-place.result).alias
    (alias_within c.args.froms.now c.loop-place.place c.loop-place-test.true)
    (alias_here c.args.froms.now c.loop-place.place c.index-froms-place.result c.loop-place-test.true)
    (ap (list_any (same_name (get_or c.args.froms.now c.loop-place.place c.index-froms-place.result).alias)) (take-map alias_of c.loop-place.place c.args.froms.now) ∙ sym c.is_alias.ensures ∙ c.if-is_alias.false) ∙ c.loop-place.invariant
