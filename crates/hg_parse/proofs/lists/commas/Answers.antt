use Rattle.std.proofs.Common.{◌∙◌, arith, ap, sym}
use Rattle.hg_parse.proofs.Turns.{far, eaten_far, comma_go, comma_fail, comma_stop}
use Rattle.hg_parse.specs.Kept.{kept}
use Rattle.hg_parse.specs.Steps.{got}
use Rattle.hg_parse.proofs.lists.commas.Goals as goal

pub items-preserved : goal.items-preserved
items-preserved g c =
    let short = c.items-test.ensures.shorter in
    let on = c.in-Ok.ensures.moves in
    let less = on.goes_on.tokens in
    record {
      reads = c.items.invariant.reads ∙ comma_go g.I.Item.rule _ _ _ _ _ c.items-test.ensures.found c.items-test.ensures.rest c.in-Ok.ensures.reads (omega arith);
      moves = far _ _ _ _ _ _ (eaten_far _ _ _ _ _ c.items.invariant.moves c.items-test.ensures.goes_on) on;
    }

pub returns-clause-reads : goal.returns-clause-reads
returns-clause-reads g c = c.items.invariant.reads ∙ (comma_stop g.I.Item.rule _ _ c.items-test.ensures.found ∙ ap (got (kept c.items.room) tt) (sym c.items-test.ensures.rest))

pub returns-in_default-clause-reads : goal.returns-in_default-clause-reads
returns-in_default-clause-reads g c =
    c.items.invariant.reads ∙ comma_fail g.I.Item.rule _ _ _ c.items-test.ensures.found c.items-test.ensures.rest c.in_default.ensures.reads
