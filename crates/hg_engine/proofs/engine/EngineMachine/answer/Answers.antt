use Rattle.std.proofs.Common.{subst}
use Rattle.hg_reply.specs.Asked.{command_in, texts_in}
use Rattle.hg_reply.specs.Steps.{BeginsRead}
use Rattle.hg_engine.specs.Shown.{space_of, tells_of, IsSomeEngine, EngineSteps}
use Rattle.hg_engine.specs.Stepping.{CommandFinds}
use Rattle.hg_engine.proofs.engine.EngineMachine.answer.Goals as goal

pub invariant_of-self : goal.invariant_of-self
invariant_of-self g c =
    let old = c.self.invariant in
    let now = c.answer.ensures.step.moves.to old.0 old.1 in
    (now.0, now.1)

pub returns-clause-step : goal.returns-clause-step
returns-clause-step g c =
    let step =
    subst (λ k. EngineSteps g.M.PageDevice g.T.PageDevice k c.answer.new.self c.answer.new.reply
    (BeginsRead (tells_of g.M.PageDevice g.T.PageDevice k) (command_in c.args.asked.now.command) (texts_in c.args.asked.now))
    (λ now. CommandFinds (space_of g.M.PageDevice g.T.PageDevice k) k.tables now (command_in c.args.asked.now.command)))
    c.self.view_is c.answer.ensures.step
    in
    (step.lines, step.says, step.moves, step.full, step.damage)

pub returns-clause-stood : goal.returns-clause-stood
returns-clause-stood g c = subst (IsSomeEngine g.M.PageDevice g.T.PageDevice) c.self.view_is c.self.invariant
