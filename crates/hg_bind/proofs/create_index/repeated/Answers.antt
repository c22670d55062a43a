use Rattle.std.proofs.Common.{sym, ◌∙◌, ap, Some}
use Rattle.std.specs.Prelude.{option_map}
use Rattle.hg_bind.specs.Bound.{error_of}
use Rattle.hg_bind.proofs.Creating.{repeated_here, fresh_here}
use Rattle.hg_bind.proofs.create_index.repeated.Goals as goal

pub returns-then-is_among : goal.returns-then-is_among
returns-then-is_among c =
    ap Some c.name_taken.ensures
    ∙ sym (ap (option_map error_of) (sym c.loop-place.invariant
    ∙ repeated_here c.args.names.now c.loop-place.place c.index-names-place.result c.loop-place-test.true c.index-names-place.is (sym c.is_among.ensures ∙ c.if-is_among.true)))

pub loop-place-preserved : goal.loop-place-preserved
loop-place-preserved c =
    fresh_here c.args.names.now c.loop-place.place c.index-names-place.result c.loop-place-test.true c.index-names-place.is (sym c.is_among.ensures ∙ c.if-is_among.false)
    ∙ c.loop-place.invariant
