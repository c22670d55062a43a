use Rattle.std.proofs.Common.{◌≡◌, ap, ◌∙◌, arith}
use Rattle.hg_expr.specs.Slots.{named_below, named_columns}
use Rattle.hg_expr.proofs.slots.put_columns.Goals as goal

pub returns : goal.returns
unfolding named_columns
returns c ns ps m =
    let all : c.loop-column.column ≡ 16 = omega (arith, c.loop-column.auto.column-end, c.loop-column-test.false) in
    c.loop-column.invariant.columns ns ps m ∙ ap (named_below ns ps c.args.table) all
