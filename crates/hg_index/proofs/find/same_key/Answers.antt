use Rattle.std.proofs.Common.{◌∙◌, ap}
use Rattle.hg_base.specs.Space.{Space}
use Rattle.hg_index.specs.Entering.{row_key}
use Rattle.hg_index.proofs.Looking.{ok_both}
use Rattle.hg_index.proofs.Telling.{asked_places, same_answer}
use Rattle.hg_index.proofs.find.same_key.Goals as goal

pub least_of_key-requires-clause-there : goal.least_of_key-requires-clause-there
least_of_key-requires-clause-there g c = λ told. asked_places (g.S.Pages.state c.args.space.now) c.args.index.now (c.requires.there told)

pub returns-clause-same : goal.returns-clause-same
returns-clause-same g c =
    let s : Space = g.S.Pages.state c.args.space.now in
    ok_both c.least_of_key.result _ _ _ c.least_of_key.ensures.found c.least_of_key.ensures.proper
    (λ found a proper. same_answer c.index_keys_compare.ensures.tell s c.args.index.now c.args.row.now c.args.after c.number_behind.result c.as_slice-2.result.now found
    c.requires.may.indexed (c.as_slice-2.ensures.value ∙ c.put_row_key.ensures ∙ ap (λ l. row_key l c.args.row.now) c.as_slice.ensures.value) c.number_behind.ensures a proper)
