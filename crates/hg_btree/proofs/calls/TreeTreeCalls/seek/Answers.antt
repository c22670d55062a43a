use Rattle.hg_btree.proofs.Keeping.{ready_looked}
use Rattle.hg_btree.proofs.calls.TreeTreeCalls.seek.Goals as goal

pub returns-clause-ready : goal.returns-clause-ready
returns-clause-ready g c r = ready_looked (g.S.Pages.state c.args.space.now) (g.S.Pages.state c.seek.new.space) c.args.self.now c.seek.ensures.looks r
