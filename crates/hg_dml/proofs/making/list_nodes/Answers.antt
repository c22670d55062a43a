use Rattle.std.proofs.Common.{ap, ◌∙◌, arith, length, ◌++◌, ◌∷◌, [], None}
use Rattle.hg_dml.proofs.MakingLaws.{no_nodes-more, length-no_nodes}
use Rattle.hg_dml.proofs.making.list_nodes.Goals as goal

pub push-requires : goal.push-requires
push-requires c = (omega arith, omega (arith, ap length c.loop-column.invariant, length-no_nodes c.loop-column._column, c.requires.few, c.loop-column-test.true))

pub loop-column-preserved : goal.loop-column-preserved
loop-column-preserved c = c.push.ensures.items ∙ ap (λ l. l ++ None ∷ []) c.loop-column.invariant ∙ no_nodes-more c.loop-column._column
