use Rattle.std.proofs.Common.{sym, ◌∙◌, map, length}
use Rattle.std.specs.Prelude.{nat_eq, slice_index}
use Rattle.std.specs.List.{list_any}
use Rattle.hg_bind.proofs.ScopeColumns.{all_next}
use Rattle.hg_bind.proofs.grouping.all_grouped.Goals as goal

pub loop-place-preserved : goal.loop-place-preserved
loop-place-preserved c =
    all_next (λ p. list_any (nat_eq p) (map (slice_index c.args.positions.now) c.args.group.now)) c.loop-place.place (length c.args.scope.now) c.loop-place-test.true
    (sym c.is_group_place.ensures ∙ c.if-not-is_group_place.false) ∙ c.loop-place.invariant
