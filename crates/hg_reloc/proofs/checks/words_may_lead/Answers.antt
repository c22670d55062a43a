use Rattle.std.proofs.Common.{refl}
use Rattle.std.proofs.lemmas.Bool.{false≢true}
use Rattle.hg_reloc.proofs.Linking.{rest_start, rest_on, rest_odd, rest_end}
use Rattle.hg_reloc.proofs.checks.words_may_lead.Goals as goal

pub loop-k-init : goal.loop-k-init
loop-k-init c places m = rest_start c.args.own c.args.max places c.args.page.now c.args.at c.args.count

pub returns-then-not-may_lead : goal.returns-then-not-may_lead
returns-then-not-may_lead c places m = (
  λ e. absurd (false≢true e),
  λ a. absurd (rest_odd c.args.own c.args.max places c.args.page.now c.args.at c.args.count c.loop-k.k c.get_u64.result c.loop-k-test.true c.get_u64.ensures.value
      (λ f. false≢true ((c.if-not-may_lead.ensures places m).1 f)) (c.loop-k.invariant places m) a),
)

pub loop-k-preserved : goal.loop-k-preserved
loop-k-preserved c places m =
    rest_on c.args.own c.args.max places c.args.page.now c.args.at c.args.count c.loop-k.k c.get_u64.result c.loop-k-test.true c.get_u64.ensures.value
    ((c.if-not-may_lead.ensures places m).0 refl) (c.loop-k.invariant places m)

pub returns : goal.returns
returns c places m = (
  λ e. rest_end c.args.own c.args.max places c.args.page.now c.args.at c.args.count c.loop-k.k c.loop-k-test.false (c.loop-k.invariant places m),
  λ a. refl,
)
