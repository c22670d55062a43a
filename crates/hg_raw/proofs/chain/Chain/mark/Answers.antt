use Rattle.std.proofs.Common.{◌∙◌, sym, ap}
use Rattle.hg_raw.specs.Frames.{numbers}
use Rattle.hg_raw.specs.Links.{first_of, marked}
use Rattle.hg_raw.proofs.Chains.{real-in, rest-smaller, seen-from-nil, seen-from-first, seen-first, marks-next}
use Rattle.hg_raw.proofs.chain.Chain.mark.Goals as goal

pub next-next-requires : goal.next-next-requires
next-next-requires c = real-in c.loop-at.at (numbers c.args.self.now.frames) c.loop-at.invariant.here c.loop-at-test.true

pub loop-at-smaller : goal.loop-at-smaller
loop-at-smaller c =
    rest-smaller (numbers c.args.self.now.frames) c.loop-at.at c.next-next.result (real-in c.loop-at.at (numbers c.args.self.now.frames) c.loop-at.invariant.here c.loop-at-test.true) c.next-next.ensures.rest

pub loop-at-init : goal.loop-at-init
loop-at-init c = record {
  here = seen-first c.self.inside c.self.invariant c.args.self.now c.self.view_is ∙ ap first_of (sym (seen-from-first c.self.inside c.self.invariant c.args.self.now c.self.view_is));
  marks = ap (marked c.args.flags.now) (seen-from-first c.self.inside c.self.invariant c.args.self.now c.self.view_is);
}

pub loop-at-preserved : goal.loop-at-preserved
loop-at-preserved c = record {
  here = c.next-next.ensures.next ∙ ap first_of (sym c.next-next.ensures.rest);
  marks = marks-next c.loop-at.flags (numbers c.args.self.now.frames) c.loop-at.at c.next-next.result (real-in c.loop-at.at (numbers c.args.self.now.frames) c.loop-at.invariant.here c.loop-at-test.true) c.next-next.ensures.rest ∙ c.loop-at.invariant.marks;
}

pub returns : goal.returns
returns c = sym (ap (marked c.loop-at.flags) (seen-from-nil c.self.inside c.self.invariant c.args.self.now c.self.view_is c.loop-at.at c.loop-at-test.false)) ∙ c.loop-at.invariant.marks
