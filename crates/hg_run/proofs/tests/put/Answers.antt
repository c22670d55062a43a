use Rattle.hg_run.specs.Calls.{append_mine}
use Rattle.hg_run.specs.Kept.{ready_put}
use Rattle.hg_run.proofs.tests.put.Goals as goal

pub returns : goal.returns
returns g c =
    ready_put (g.S.Pages.state c.args.space.now) (g.S.Pages.state c.append.new.space) c.args.run.now c.append.new.self c.args.bytes.now
    (append_mine c.args.run.now c.append.new.self) c.append.result c.append.ensures.ok c.append.ensures.steady c.append.ensures.err c.append.ensures.err_steady c.requires.ready
