use Rattle.hg_engine.proofs.EngineSteps.{counted-steps}
use Rattle.hg_engine.proofs.kept.Kept.answer.Goals as goal

pub returns-clause-step : goal.returns-clause-step
returns-clause-step g c =
    counted-steps g.M.PageDevice g.T.PageDevice c.args.self.now c.begin_read.new.self c.count.new.self c.begin_read.new.reply _ _ c.begin_read.ensures.step c.count.ensures.tables c.count.ensures.pool
