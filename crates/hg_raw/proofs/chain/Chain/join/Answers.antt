use Rattle.std.proofs.Common.{ℕ, ◌++◌, ◌∙◌, refl, sym, ap, subst, arith}
use Rattle.hg_raw.specs.Frames.{ChainSeen, numbers}
use Rattle.hg_raw.specs.Links.{Sized}
use Rattle.hg_raw.proofs.Chains.{last-there, first-there, words-no-nil, worded, worded-link, joined, seen-joined, has-joined, bytes-joined}
use Rattle.hg_raw.proofs.chain.Chain.join.Goals as goal

pub link-requires-clause-there : goal.link-requires-clause-there
link-requires-clause-there c = last-there c.self.inside c.self.invariant

pub link-requires-clause-no_nil : goal.link-requires-clause-no_nil
link-requires-clause-no_nil c = words-no-nil c.self.inside c.self.invariant

pub link-requires-2-clause-there : goal.link-requires-2-clause-there
link-requires-2-clause-there c = first-there c.other.inside c.other.invariant

pub link-requires-2-clause-no_nil : goal.link-requires-2-clause-no_nil
link-requires-2-clause-no_nil c = words-no-nil c.other.inside c.other.invariant

pub append-requires-clause-sized : goal.append-requires-clause-sized
append-requires-clause-sized c =
    let w = worded-link c.self.inside.words c.link.new.words (numbers c.self.inside.pages.held) (worded c.self.inside c.self.invariant) c.self.inside.last 4 c.other.inside.first (omega arith) c.link.ensures in
    subst (λ (n : ℕ). Sized n c.link.new.words.held) (sym w.size) w.sized

pub append-requires-clause-other_sized : goal.append-requires-clause-other_sized
append-requires-clause-other_sized c =
    let w = worded-link c.self.inside.words c.link.new.words (numbers c.self.inside.pages.held) (worded c.self.inside c.self.invariant) c.self.inside.last 4 c.other.inside.first (omega arith) c.link.ensures in
    let z = worded-link c.other.inside.words c.link-2.new.words (numbers c.other.inside.pages.held) (worded c.other.inside c.other.invariant) c.other.inside.first 0 c.self.inside.last (omega arith) c.link-2.ensures in
    subst (λ (n : ℕ). Sized n c.link-2.new.words.held) (sym w.size) z.sized

pub invariant_of-self : goal.invariant_of-self
invariant_of-self c =
    let region : _ = ap (λ (v : ChainSeen). v.region) c.other.view_is ∙ c.requires ∙ sym (ap (λ (v : ChainSeen). v.region) c.self.view_is) in
    joined c.self.inside c.other.inside c.self.invariant c.other.invariant region c.append-2.ensures.apart
    (record { words = c.append.new.self; pages = c.append-2.new.self; frames = c.self.inside.frames; first = c.replaced-self-inside.result; last = c.replaced-self-inside-2.result })
    (c.append.ensures.all ∙ (λ i. record { base = (c.link.ensures i).base; size = (c.link.ensures i).size; held = (c.link.ensures i).held ++ (c.link-2.ensures i).held }))
    c.append-2.ensures.all refl c.replaced-self-inside.ensures c.replaced-self-inside-2.ensures

pub returns-clause-distinct : goal.returns-clause-distinct
returns-clause-distinct c = (invariant_of-self c).distinct

pub returns-clause-has : goal.returns-clause-has
returns-clause-has c =
    has-joined c.args.self.now.frames c.args.other.frames c.append-2.new.self.held (seen-joined c.self.inside c.other.inside c.args.self.now c.args.other c.self.view_is c.other.view_is c.append-2.new.self c.append-2.ensures.all)

pub returns-clause-bytes : goal.returns-clause-bytes
returns-clause-bytes c =
    bytes-joined c.args.self.now.frames c.args.other.frames c.append-2.new.self.held (seen-joined c.self.inside c.other.inside c.args.self.now c.args.other c.self.view_is c.other.view_is c.append-2.new.self c.append-2.ensures.all)
