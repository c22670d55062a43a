use Rattle.hg_index.proofs.Changing.{ready_made}
use Rattle.hg_index.proofs.life.make.Goals as goal

pub returns-clause-ready : goal.returns-clause-ready
returns-clause-ready g c = ready_made (g.S.Pages.state c.args.space.now) (g.S.Pages.state c.make.new.space) (record { tree = c.in_ok-tree.tree; columns = c.args.columns; unique = c.args.unique }) c.in_ok-tree.ensures.made
