use Rattle.std.proofs.Common.{subst}
use Rattle.hg_reply.specs.Steps.{ContinuesSo}
use Rattle.hg_engine.specs.Shown.{space_of, tells_of, IsSomeEngine, EngineSteps}
use Rattle.hg_engine.specs.Stepping.{TurnFinds}
use Rattle.hg_engine.proofs.engine.Engine.more.Goals as goal

pub invariant_of-self : goal.invariant_of-self
invariant_of-self g c =
    let old = c.self.invariant in
    let now = c.more.ensures.turns.moves.to old.0 old.1 in
    (now.0, now.1)

pub returns-clause-turns : goal.returns-clause-turns
returns-clause-turns g c =
    subst (λ k. EngineSteps g.M.PageDevice g.T.PageDevice k c.more.new.self c.more.new.reply (ContinuesSo (tells_of g.M.PageDevice g.T.PageDevice k)) (λ now. TurnFinds (space_of g.M.PageDevice g.T.PageDevice k) k.tables))
    c.self.view_is c.more.ensures.turns

pub returns-clause-stood : goal.returns-clause-stood
returns-clause-stood g c = subst (IsSomeEngine g.M.PageDevice g.T.PageDevice) c.self.view_is c.self.invariant
