use Rattle.std.proofs.Common.{sym, ◌∙◌}
use Rattle.hg_base.specs.Space.{Space}
use Rattle.hg_index.proofs.Looking.{ok_both}
use Rattle.hg_index.proofs.Telling.{asked_places, first_answer, single_answer}
use Rattle.hg_index.proofs.find.first_from.Goals as goal

pub least_of_key-requires-clause-there : goal.least_of_key-requires-clause-there
least_of_key-requires-clause-there g c = λ told. asked_places (g.S.Pages.state c.args.space.now) c.args.index.now (c.requires.there told)

pub least_of_prefix-requires-clause-there : goal.least_of_prefix-requires-clause-there
least_of_prefix-requires-clause-there g c = λ told. asked_places (g.S.Pages.state c.args.space.now) c.args.index.now (c.requires.there told)

pub returns-then-len-eq1-clause-first : goal.returns-then-len-eq1-clause-first
returns-then-len-eq1-clause-first g c =
    let s : Space = g.S.Pages.state c.args.space.now in
    ok_both c.least_of_key.result _ _ _ c.least_of_key.ensures.found c.least_of_key.ensures.proper
    (λ found a proper. single_answer c.index_keys_compare.ensures.tell s c.args.index.now c.args.first.now c.args.after c.number_behind-low.result c.as_slice.result.now found
    (sym c.len.ensures.value ∙ c.if-len-eq1.true) c.if-not-put_first_key.ensures.indexed (c.as_slice.ensures.value ∙ c.if-not-put_first_key.ensures.key)
    c.number_behind-low.ensures a proper)

pub returns-else-len-eq1-clause-first : goal.returns-else-len-eq1-clause-first
returns-else-len-eq1-clause-first g c =
    let s : Space = g.S.Pages.state c.args.space.now in
    ok_both c.least_of_prefix.result _ _ _ c.least_of_prefix.ensures.found c.least_of_prefix.ensures.proper
    (λ found a proper. first_answer c.index_keys_compare.ensures.tell s c.args.index.now c.args.first.now c.args.after c.number_behind-low.result c.as_slice-else-len-eq1.result.now found
    c.if-not-put_first_key.ensures.indexed (c.as_slice-else-len-eq1.ensures.value ∙ c.if-not-put_first_key.ensures.key)
    c.number_behind-low.ensures a proper)
