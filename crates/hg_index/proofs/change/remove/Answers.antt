use Rattle.std.proofs.Common.{◌∙◌, ap}
use Rattle.hg_base.specs.Space.{Space}
use Rattle.hg_index.specs.Entering.{row_key}
use Rattle.hg_index.proofs.Changing.{takes_entry, index_gone, index_absent, ready_gone, ready_looked}
use Rattle.hg_index.proofs.change.remove.Goals as goal

pub returns-in-Ok-clause-gone : goal.returns-in-Ok-clause-gone
returns-in-Ok-clause-gone g c =
    let a : Space = g.S.Pages.state c.args.space.now in
    let b : Space = g.S.Pages.state c.delete.new.space in
    index_gone a b c.args.index.now c.args.row.now c.args.at c.in-Ok.field-0
    (takes_entry a b c.args.index.now c.args.row.now c.args.at c.in-Ok.field-0 c.as_slice-2.result.now c.entry_place.result
    (c.as_slice-2.ensures.value ∙ c.put_row_key.ensures ∙ ap (λ l. row_key l c.args.row.now) c.as_slice.ensures.value) c.entry_place.ensures.number c.in-Ok.ensures.gone)

pub returns-in-Ok-clause-absent : goal.returns-in-Ok-clause-absent
returns-in-Ok-clause-absent g c =
    let a : Space = g.S.Pages.state c.args.space.now in
    let b : Space = g.S.Pages.state c.delete.new.space in
    index_absent a b c.args.index.now c.args.row.now c.args.at c.in-Ok.field-0 c.entry_place.ensures.proper
    (takes_entry a b c.args.index.now c.args.row.now c.args.at c.in-Ok.field-0 c.as_slice-2.result.now c.entry_place.result
    (c.as_slice-2.ensures.value ∙ c.put_row_key.ensures ∙ ap (λ l. row_key l c.args.row.now) c.as_slice.ensures.value) c.entry_place.ensures.number c.in-Ok.ensures.gone)

pub returns-in-Ok-clause-ready : goal.returns-in-Ok-clause-ready
returns-in-Ok-clause-ready g c =
    let a : Space = g.S.Pages.state c.args.space.now in
    let b : Space = g.S.Pages.state c.delete.new.space in
    ready_gone a b c.args.index.now c.args.row.now c.args.at c.in-Ok.field-0
    (takes_entry a b c.args.index.now c.args.row.now c.args.at c.in-Ok.field-0 c.as_slice-2.result.now c.entry_place.result
    (c.as_slice-2.ensures.value ∙ c.put_row_key.ensures ∙ ap (λ l. row_key l c.args.row.now) c.as_slice.ensures.value) c.entry_place.ensures.number c.in-Ok.ensures.gone)
    c.in-Ok.ensures.steady c.delete.ensures.line

pub returns-in-Err-clause-ready : goal.returns-in-Err-clause-ready
returns-in-Err-clause-ready g c = ready_looked (g.S.Pages.state c.args.space.now) (g.S.Pages.state c.delete.new.space) c.args.index.now c.in-Err.ensures.err
