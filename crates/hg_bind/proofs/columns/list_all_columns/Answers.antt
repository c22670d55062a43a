use Rattle.std.proofs.Common.{ap, ◌∙◌, sym, arith, length, ◌++◌, ◌∷◌, []}
use Rattle.std.proofs.lemmas.List.FromFn.{length-range_with_len}
use Rattle.hg_bind.proofs.Lookups.{range_more}
use Rattle.hg_bind.proofs.columns.list_all_columns.Goals as goal

pub push-requires : goal.push-requires
push-requires c = (omega arith, omega (arith, ap length c.loop-place.invariant ∙ length-range_with_len 0 c.loop-place.place))

pub loop-place-preserved : goal.loop-place-preserved
loop-place-preserved c = c.push.ensures.items ∙ ap (λ l. l ++ c.loop-place.place ∷ []) c.loop-place.invariant ∙ sym (range_more c.loop-place.place)
