use Rattle.std.proofs.Common.{◌∙◌, sym, subst, refl, arith, ◌+◌}
use Rattle.std.proofs.lemmas.Bool.{false≢true}
use Rattle.hg_reloc.specs.Checks.{starts}
use Rattle.hg_reloc.proofs.Checking.{end_at}
use Rattle.hg_reloc.proofs.Linking.{IsLinking, link_start, link_begins, link_on, link_odd, roots_odd, link_end, head_inside}
use Rattle.hg_reloc.proofs.checks.are_linked.Goals as goal

pub returns-then-not-words_may_lead : goal.returns-then-not-words_may_lead
returns-then-not-words_may_lead c =
    roots_odd c.args.page.now c.args.own c.args.max c.args.begins.now c.requires.marked c.requires.below c.requires.own
    (λ a. false≢true ((c.if-not-words_may_lead.ensures (starts 64 c.requires.marked.blocks) c.requires.marked.marked).1 a))

pub loop-at-init : goal.loop-at-init
loop-at-init c =
    link_start c.args.page.now c.args.own c.args.max c.args.begins.now c.get_u16-end.result c.requires.marked c.requires.own
    ((c.if-not-words_may_lead.ensures (starts 64 c.requires.marked.blocks) c.requires.marked.marked).0 refl)
    (c.get_u16-end.ensures.value ∙ end_at c.args.page.now)

pub links_fit-requires-clause-begins : goal.links_fit-requires-clause-begins
links_fit-requires-clause-begins c = link_begins c.args.page.now c.args.own c.args.max c.args.begins.now c.loop-at.at c.get_u16-end.result c.loop-at.invariant c.loop-at-test.true

pub returns-then-not-links_fit : goal.returns-then-not-links_fit
returns-then-not-links_fit c =
    link_odd c.args.page.now c.args.own c.args.max c.args.begins.now c.loop-at.at c.get_u16-end.result c.requires.below c.loop-at.invariant c.loop-at-test.true c.if-not-links_fit.ensures

pub get_u16-requires : goal.get_u16-requires
get_u16-requires c =
    omega (
      arith,
      head_inside c.args.page.now c.loop-at.at
          (link_begins c.args.page.now c.args.own c.args.max c.args.begins.now c.loop-at.at c.get_u16-end.result c.loop-at.invariant c.loop-at-test.true) c.requires.marked.has.whole,
      c.requires.marked.has.whole,
    )

pub loop-at-preserved : goal.loop-at-preserved
loop-at-preserved c =
    subst (λ n. IsLinking c.args.page.now c.args.own c.args.max c.args.begins.now (c.loop-at.at + n) c.get_u16-end.result) (sym c.size_for-at.ensures)
    (link_on c.args.page.now c.args.own c.args.max c.args.begins.now c.loop-at.at c.get_u16-end.result c.get_u16.result c.loop-at.invariant c.loop-at-test.true
    c.get_u16.ensures.value c.if-not-links_fit.ensures).on

pub returns : goal.returns
returns c = link_end c.args.page.now c.args.own c.args.max c.args.begins.now c.loop-at.at c.get_u16-end.result c.requires.below c.loop-at.invariant c.loop-at-test.false
