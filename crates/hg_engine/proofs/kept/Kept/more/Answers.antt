use Rattle.hg_engine.proofs.EngineSteps.{counted-steps}
use Rattle.hg_engine.proofs.kept.Kept.more.Goals as goal

pub returns-clause-turns : goal.returns-clause-turns
returns-clause-turns g c =
    counted-steps g.M.PageDevice g.T.PageDevice c.args.self.now c.turn.new.self c.count.new.self c.turn.new.reply _ _ c.turn.ensures.turns c.count.ensures.tables c.count.ensures.pool
