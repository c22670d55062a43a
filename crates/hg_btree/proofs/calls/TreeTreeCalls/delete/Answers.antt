use Rattle.hg_btree.proofs.Keeping.{ready_deleted}
use Rattle.hg_btree.proofs.calls.TreeTreeCalls.delete.Goals as goal

pub returns-clause-ready : goal.returns-clause-ready
returns-clause-ready g c r = ready_deleted (g.S.Pages.state c.args.space.now) (g.S.Pages.state c.delete.new.space) c.args.self.now
    (record { key = c.args.key.now; place = c.args.at; child = 0 }) c.delete.result c.delete.ensures.gone c.delete.ensures.steady c.delete.ensures.err c.delete.ensures.line r
