use Rattle.hg_btree.proofs.Keeping.{ready_looked}
use Rattle.hg_btree.proofs.tests.next.Goals as goal

pub returns : goal.returns
returns g c = ready_looked (g.S.Pages.state c.args.space.now) (g.S.Pages.state c.seek.new.space) c.args.tree c.seek.ensures.looks c.requires
