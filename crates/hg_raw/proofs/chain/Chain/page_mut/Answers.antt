use Rattle.std.proofs.Common.{◌∙◌, sym}
use Rattle.hg_raw.proofs.Chains.{page-there, page-lent, in-seen}
use Rattle.hg_raw.proofs.chain.Chain.page_mut.Goals as goal

pub get_mut-requires-clause-there : goal.get_mut-requires-clause-there
get_mut-requires-clause-there c = page-there c.self.inside c.self.invariant c.args.f.0 (in-seen c.self.inside c.args.self.now c.self.view_is c.args.f.0 c.requires) ∙ sym c.self.invariant.page_size

pub invariant_of-self-lent : goal.invariant_of-self-lent
invariant_of-self-lent c = λ w. page-lent c.self.inside c.self.invariant c.args.f.0 w (in-seen c.self.inside c.args.self.now c.self.view_is c.args.f.0 c.requires)
