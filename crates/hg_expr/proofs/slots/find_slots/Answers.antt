use Rattle.std.proofs.Common.{◌∙◌}
use Rattle.hg_expr.specs.Slots.{slots_from, slots_of}
use Rattle.hg_expr.proofs.Marking.{unmarked_all}
use Rattle.hg_expr.proofs.slots.find_slots.Goals as goal

pub mark_all-requires-clause-none : goal.mark_all-requires-clause-none
mark_all-requires-clause-none c = unmarked_all

pub put_slots-requires-clause-numbers : goal.put_slots-requires-clause-numbers
put_slots-requires-clause-numbers c = c.number_all.ensures c.as_slice-nodes.result.now c.as_slice-places.result.now c.mark_all.ensures

pub returns : goal.returns
unfolding slots_of
returns c =
    let n = c.as_slice-nodes.ensures.value in
    let p = c.as_slice-places.ensures.value in
    c.put_slots.ensures ∙ (λ i. slots_from (n i) (p i) (n i) (p i))
