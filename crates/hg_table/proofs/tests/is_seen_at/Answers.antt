use Rattle.hg_table.proofs.Standing.{on_ok_any, stands_page, stands_looked}
use Rattle.hg_table.proofs.tests.is_seen_at.Goals as goal

pub read-requires-clause-page : goal.read-requires-clause-page
read-requires-clause-page g c = stands_page (g.S.Pages.state c.args.space.now) c.args.table.now 4 c.args.place c.requires.there

pub returns-clause-there : goal.returns-clause-there
returns-clause-there g c =
    on_ok_any c.read.result
    (stands_looked (g.S.Pages.state c.args.space.now) (g.S.Pages.state c.read.new.space) c.args.table.now 4 c.args.place c.read.ensures.steady c.requires.there)
