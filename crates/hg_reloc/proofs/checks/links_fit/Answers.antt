use Rattle.std.proofs.Common.{arith}
use Rattle.hg_reloc.proofs.Linking.{row_links, directory_links, words_inside}
use Rattle.hg_reloc.proofs.checks.links_fit.Goals as goal

pub returns-then-page-at-eq-ROW : goal.returns-then-page-at-eq-ROW
returns-then-page-at-eq-ROW c =
    row_links c.args.page.now c.args.at c.args.own c.args.max c.args.begins.now c.may_lead.result c.get_u64-link.result c.get_u64-link.ensures.value c.if-page-at-eq-ROW.true c.may_lead.ensures

pub words_may_lead-requires-clause-inside : goal.words_may_lead-requires-clause-inside
words_may_lead-requires-clause-inside c =
    omega (arith, words_inside c.args.page.now c.args.at c.get_u16.result c.requires.begins c.requires.whole c.if-page-at-eq-ROW.false c.get_u16.ensures.value, c.requires.whole)

pub returns : goal.returns
returns c =
    directory_links c.args.page.now c.args.at c.args.own c.args.max c.args.begins.now c.words_may_lead.result c.get_u64-link.result c.get_u16.result
    c.get_u64-link.ensures.value c.if-page-at-eq-ROW.false c.if-link-ne0.false c.get_u16.ensures.value c.words_may_lead.ensures
