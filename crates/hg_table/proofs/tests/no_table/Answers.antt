use Rattle.hg_table.specs.Kept.{ready_empty}
use Rattle.hg_table.proofs.tests.no_table.Goals as goal

pub returns : goal.returns
returns g c = ready_empty (g.S.Pages.state c.args.space.now) 4 c.requires
