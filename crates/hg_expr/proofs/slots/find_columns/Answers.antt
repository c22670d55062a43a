use Rattle.std.proofs.Common.{◌∙◌}
use Rattle.hg_expr.specs.Slots.{named_columns}
use Rattle.hg_expr.proofs.Marking.{unmarked_all}
use Rattle.hg_expr.proofs.slots.find_columns.Goals as goal

pub mark_all-requires-clause-none : goal.mark_all-requires-clause-none
mark_all-requires-clause-none c = unmarked_all

pub returns : goal.returns
returns c =
    let n = c.as_slice.ensures.value in
    let p = c.as_slice-2.ensures.value in
    c.put_columns.ensures c.as_slice.result.now c.as_slice-2.result.now c.mark_all.ensures
    ∙ (λ i. named_columns (n i) (p i) c.args.table)
