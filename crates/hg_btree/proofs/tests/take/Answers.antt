use Rattle.hg_btree.proofs.Keeping.{ready_deleted}
use Rattle.hg_btree.proofs.tests.take.Goals as goal

pub returns : goal.returns
returns g c = ready_deleted (g.S.Pages.state c.args.space.now) (g.S.Pages.state c.delete.new.space) c.args.tree (record { key = c.args.key.now; place = c.args.place; child = 0 }) c.delete.result
    c.delete.ensures.gone c.delete.ensures.steady c.delete.ensures.err c.delete.ensures.line c.requires
