use Rattle.std.proofs.Common.{◌∙◌, ap, subst}
use Rattle.hg_base.specs.Space.{Space}
use Rattle.hg_index.specs.Entering.{row_key}
use Rattle.hg_index.proofs.Changing.{PutsEntry, puts_entry, index_added, index_refused, ready_added}
use Rattle.hg_index.proofs.change.add.Goals as goal

pub returns-in-Ok-clause-added : goal.returns-in-Ok-clause-added
returns-in-Ok-clause-added g c =
    let a : Space = g.S.Pages.state c.args.space.now in
    let b : Space = g.S.Pages.state c.insert.new.space in
    let puts = puts_entry a b c.args.index.now c.args.row.now c.args.at c.insert.result c.as_slice-2.result.now c.entry_place.result
    (c.as_slice-2.ensures.value ∙ c.put_row_key.ensures ∙ ap (λ l. row_key l c.args.row.now) c.as_slice.ensures.value) c.entry_place.ensures.number c.insert.ensures.inserts in
    index_added a b c.args.index.now c.args.row.now c.args.at c.in-Ok.field-0 c.entry_place.ensures.proper c.requires.may
    (subst (PutsEntry a b c.args.index.now c.args.row.now c.args.at) c.in-Ok.is puts)

pub returns-in-Ok-clause-ready : goal.returns-in-Ok-clause-ready
returns-in-Ok-clause-ready g c =
    let a : Space = g.S.Pages.state c.args.space.now in
    let b : Space = g.S.Pages.state c.insert.new.space in
    let puts = puts_entry a b c.args.index.now c.args.row.now c.args.at c.insert.result c.as_slice-2.result.now c.entry_place.result
    (c.as_slice-2.ensures.value ∙ c.put_row_key.ensures ∙ ap (λ l. row_key l c.args.row.now) c.as_slice.ensures.value) c.entry_place.ensures.number c.insert.ensures.inserts in
    ready_added a b c.args.index.now c.args.row.now c.args.at c.insert.result c.entry_place.ensures.proper c.requires.may puts c.insert.ensures.line

pub returns-in-Err-clause-err : goal.returns-in-Err-clause-err
returns-in-Err-clause-err g c =
    let a : Space = g.S.Pages.state c.args.space.now in
    let b : Space = g.S.Pages.state c.insert.new.space in
    let puts = puts_entry a b c.args.index.now c.args.row.now c.args.at c.insert.result c.as_slice-2.result.now c.entry_place.result
    (c.as_slice-2.ensures.value ∙ c.put_row_key.ensures ∙ ap (λ l. row_key l c.args.row.now) c.as_slice.ensures.value) c.entry_place.ensures.number c.insert.ensures.inserts in
    index_refused a b c.args.index.now c.args.row.now c.args.at c.in-Err.fault
    (subst (PutsEntry a b c.args.index.now c.args.row.now c.args.at) c.in-Err.is puts)

pub returns-in-Err-clause-ready : goal.returns-in-Err-clause-ready
returns-in-Err-clause-ready g c =
    let a : Space = g.S.Pages.state c.args.space.now in
    let b : Space = g.S.Pages.state c.insert.new.space in
    let puts = puts_entry a b c.args.index.now c.args.row.now c.args.at c.insert.result c.as_slice-2.result.now c.entry_place.result
    (c.as_slice-2.ensures.value ∙ c.put_row_key.ensures ∙ ap (λ l. row_key l c.args.row.now) c.as_slice.ensures.value) c.entry_place.ensures.number c.insert.ensures.inserts in
    ready_added a b c.args.index.now c.args.row.now c.args.at c.insert.result c.entry_place.ensures.proper c.requires.may puts c.insert.ensures.line
