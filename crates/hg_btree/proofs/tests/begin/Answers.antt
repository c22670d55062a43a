use Rattle.hg_base.specs.declared.File.TheVariants.{Temp}
use Rattle.hg_btree.proofs.Keeping.{ready_begun}
use Rattle.hg_btree.proofs.tests.begin.Goals as goal

pub returns : goal.returns
returns g c = ready_begun Temp (g.S.Pages.state c.args.space.now) (g.S.Pages.state c.make.new.space) c.make.result c.make.ensures.made
