use Rattle.std.proofs.Common.{◌≡◌, ◌∙◌, true, sym, ap, subst}
use Rattle.hg_raw.specs.Frames.{numbers, is_in}
use Rattle.hg_raw.specs.Links.{first_of}
use Rattle.hg_raw.proofs.Chains.{real-in, rest-smaller, seen-from-first, seen-first}
use Rattle.hg_raw.proofs.tests.has.Goals as goal

pub loop-at-init : goal.loop-at-init
loop-at-init c = seen-first c.chain.inside c.chain.invariant c.args.chain.now c.chain.view_is ∙ ap first_of (sym (seen-from-first c.chain.inside c.chain.invariant c.args.chain.now c.chain.view_is))

pub next-at-requires : goal.next-at-requires
next-at-requires c = real-in c.loop-at.at (numbers c.args.chain.now.frames) c.loop-at.invariant c.loop-at-test.true

pub loop-at-smaller : goal.loop-at-smaller
loop-at-smaller c = rest-smaller (numbers c.args.chain.now.frames) c.loop-at.at c.next-at.result (real-in c.loop-at.at (numbers c.args.chain.now.frames) c.loop-at.invariant c.loop-at-test.true) c.next-at.ensures.rest

pub loop-at-preserved : goal.loop-at-preserved
loop-at-preserved c = c.next-at.ensures.next ∙ ap first_of (sym c.next-at.ensures.rest)

pub returns-then-at-f : goal.returns-then-at-f
returns-then-at-f c = λ _. subst (λ n. is_in n (numbers c.args.chain.now.frames) ≡ true) c.if-at-f.true (real-in c.loop-at.at (numbers c.args.chain.now.frames) c.loop-at.invariant c.loop-at-test.true)
