use Rattle.hg_run.specs.Kept.{ready_looked, way_after}
use Rattle.hg_run.proofs.tests.take.Goals as goal

pub returns-clause-way : goal.returns-clause-way
returns-clause-way g c =
    way_after (g.S.Pages.state c.args.space.now) (g.S.Pages.state c.read.new.space) c.args.run.now c.args.at.now c.read.new.at c.read.new.out.items c.read.result
    c.read.ensures.steady c.read.ensures.on_pages c.read.ensures.read c.read.ensures.end c.read.ensures.err c.requires.way

pub returns-clause-ready : goal.returns-clause-ready
returns-clause-ready g c = λ h. ready_looked (g.S.Pages.state c.args.space.now) (g.S.Pages.state c.read.new.space) c.args.run.now c.read.ensures.steady h
