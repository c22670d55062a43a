use Rattle.hg_pool.specs.Shown.{state_of}
use Rattle.hg_engine.proofs.EngineSteps.{is-later}
use Rattle.hg_engine.proofs.kept.Kept.update.Goals as goal

pub returns-clause-later : goal.returns-clause-later
returns-clause-later g c =
    is-later (state_of g.M.PageDevice g.T.PageDevice c.args.self.now.pool) (state_of g.M.PageDevice g.T.PageDevice c.update.new.space) c.update.ensures.same

pub returns-clause-step : goal.returns-clause-step
returns-clause-step g c =
    let s = c.update.ensures.step in
    record {
      lines = s.0;
      says = record { said = s.1; counted = s.2.devices };
      full = s.2.full;
      moves = record { to = λ before st. let there = s.3.to before st in (there.0, there.1, there.2) };
      damage = s.4;
    }
