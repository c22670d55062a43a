use Rattle.std.proofs.Common.{ap, ◌∙◌, sym, arith, length, ◌++◌, ◌∷◌, []}
use Rattle.hg_dml.specs.Tuples.{sources_of}
use Rattle.hg_dml.proofs.Sources.{sources-more, length-sources}
use Rattle.hg_dml.proofs.tuples.list_sources.Goals as goal

pub push-requires : goal.push-requires
push-requires c = (omega arith, omega (arith, ap length c.loop-column.invariant ∙ length-sources c.args.targets.now c.loop-column.column))

pub loop-column-preserved : goal.loop-column-preserved
loop-column-preserved c =
    c.push.ensures.items
    ∙ ap (λ l. l ++ c.source_of.result ∷ []) c.loop-column.invariant
    ∙ ap (λ s. sources_of c.args.targets.now c.loop-column.column ++ s ∷ []) c.source_of.ensures
    ∙ sym (sources-more c.args.targets.now c.loop-column.column)
