use Rattle.hg_btree.proofs.Keeping.{ready_made}
use Rattle.hg_btree.proofs.Living.{makes}
use Rattle.hg_btree.proofs.life.make.Goals as goal

pub returns-clause-made : goal.returns-clause-made
returns-clause-made g c =
    makes c.args.file (g.S.Pages.state c.args.space.now) (g.S.Pages.state c.make_leaf.new.space) c.in_ok-page.page c.requires.numbers c.in_ok-page.ensures.made

pub returns-clause-ready : goal.returns-clause-ready
returns-clause-ready g c = ready_made c.args.file (g.S.Pages.state c.args.space.now) (g.S.Pages.state c.make_leaf.new.space)
    (record { file = c.args.file; top = c.in_ok-page.page.no }) (returns-clause-made g c)
