use Rattle.hg_table.proofs.Standing.{stands_looked}
use Rattle.hg_table.proofs.tests.version_at.Goals as goal

pub returns-clause-there : goal.returns-clause-there
returns-clause-there g c =
    stands_looked (g.S.Pages.state c.args.space.now) (g.S.Pages.state c.version.new.space) c.args.table.now 4 c.args.place c.in_ok-born.ensures.steady c.requires.there
