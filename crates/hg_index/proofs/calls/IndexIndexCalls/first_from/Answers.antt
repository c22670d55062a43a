use Rattle.hg_index.proofs.Changing.{ready_looked}
use Rattle.hg_index.proofs.calls.IndexIndexCalls.first_from.Goals as goal

pub returns-clause-ready : goal.returns-clause-ready
returns-clause-ready g c r = ready_looked (g.S.Pages.state c.args.space.now) (g.S.Pages.state c.first_from.new.space) c.args.self.now c.first_from.ensures.looks r
