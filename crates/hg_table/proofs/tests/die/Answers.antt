use Rattle.hg_table.proofs.Standing.{on_ok_both, stands_killed}
use Rattle.hg_table.proofs.tests.die.Goals as goal

pub returns-clause-there : goal.returns-clause-there
returns-clause-there g c =
    on_ok_both c.kill.result
    (λ known steady. stands_killed (g.S.Pages.state c.args.space.now) (g.S.Pages.state c.kill.new.space) c.args.table.now c.kill.new.self 4 c.args.place c.args.died.0
    steady.told known c.requires.there)
    c.kill.ensures.ok c.kill.ensures.steady
