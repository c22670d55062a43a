use Rattle.std.specs.Prelude.{length}
use Rattle.std.proofs.Common.{refl, ◌∙◌, arith}
use Rattle.std.proofs.lemmas.Option.{slice_get_read}
use Rattle.hg_exec.proofs.Taking.{column-at}
use Rattle.hg_exec.proofs.whole.is_column_at.Goals as goal

pub returns-in-Col : goal.returns-in-Col
returns-in-Col c =
    let nodes = c.args.statement.now.nodes.now in
    let inside = c.if-node-statement.false in
    column-at c.args.statement.now.texts.now c.args.statement.now.slots.now nodes c.args.node c.args.place c.index-statement-node.result c.in-Col.field-0
    (slice_get_read nodes (length nodes) c.args.node c.index-statement-node.result refl (omega arith) c.index-statement-node.is) (c.index-statement-node.is ∙ c.in-Col.is) c.requires (omega arith)
