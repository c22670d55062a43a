use Rattle.hg_btree.proofs.Keeping.{ready_inserted}
use Rattle.hg_btree.proofs.calls.TreeTreeCalls.insert.Goals as goal

pub returns-clause-ready : goal.returns-clause-ready
returns-clause-ready g c r = ready_inserted (g.S.Pages.state c.args.space.now) (g.S.Pages.state c.insert.new.space) c.args.self.now
    (record { key = c.args.key.now; place = c.args.at; child = 0 }) c.insert.result c.insert.ensures.inserts c.insert.ensures.line r
