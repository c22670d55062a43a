use Rattle.std.proofs.Common.{◌∙◌, sym}
use Rattle.hg_raw.proofs.Chains.{page-there, in-seen}
use Rattle.hg_raw.proofs.chain.Chain.page.Goals as goal

pub get-requires-clause-there : goal.get-requires-clause-there
get-requires-clause-there c = page-there c.self.inside c.self.invariant c.args.f.0 (in-seen c.self.inside c.args.self.now c.self.view_is c.args.f.0 c.requires) ∙ sym c.self.invariant.page_size
