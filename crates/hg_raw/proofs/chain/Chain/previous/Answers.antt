use Rattle.std.proofs.Common.{◌≡◌, subst}
use Rattle.hg_raw.specs.Frames.{ChainSeen, numbers}
use Rattle.hg_raw.specs.Links.{before, nil}
use Rattle.hg_raw.proofs.Chains.{word-there, previous-is, in-seen}
use Rattle.hg_raw.proofs.chain.Chain.previous.Goals as goal

pub get_half-requires-clause-there : goal.get_half-requires-clause-there
get_half-requires-clause-there c = word-there c.self.inside c.self.invariant c.args.f (in-seen c.self.inside c.args.self.now c.self.view_is c.args.f c.requires)

pub returns : goal.returns
returns c =
    subst (λ (v : ChainSeen). c.get_half.result ≡ before nil (numbers v.frames) c.args.f) c.self.view_is
    (previous-is c.self.inside c.self.invariant c.args.f c.get_half.result (in-seen c.self.inside c.args.self.now c.self.view_is c.args.f c.requires) c.get_half.type_inv c.get_half.ensures)
