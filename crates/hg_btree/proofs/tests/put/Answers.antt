use Rattle.hg_btree.proofs.Keeping.{ready_inserted}
use Rattle.hg_btree.proofs.tests.put.Goals as goal

pub returns : goal.returns
returns g c = ready_inserted (g.S.Pages.state c.args.space.now) (g.S.Pages.state c.insert.new.space) c.args.tree (record { key = c.args.key.now; place = c.args.place; child = 0 }) c.insert.result
    c.insert.ensures.inserts c.insert.ensures.line c.requires.ready
