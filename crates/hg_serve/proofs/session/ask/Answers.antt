use Rattle.std.proofs.Common.{sym}
use Rattle.hg_serve.proofs.Beginnings.{read-same, begins-same}
use Rattle.hg_serve.proofs.Moving.{moves-as}
use Rattle.hg_serve.proofs.session.ask.Goals as goal

pub answer-requires-clause-read : goal.answer-requires-clause-read
answer-requires-clause-read g c =
    read-same (g.E.Machine.frames c.args.engine.now) _ _ _ _ (sym c.asked_in-asked.ensures.command) (sym c.asked_in-asked.ensures.texts) c.requires.read

pub returns-clause-step : goal.returns-clause-step
returns-clause-step g c =
    let step = c.answer.ensures.step in (
      step.0,
      step.1,
      moves-as _ _ _ _ _ step.0
          (λ a b stood begins. begins-same (g.E.Machine.tells c.args.engine.now) _ _ _ _ a b step.0 c.asked_in-asked.ensures.command c.asked_in-asked.ensures.texts begins)
          step.2,
    )
