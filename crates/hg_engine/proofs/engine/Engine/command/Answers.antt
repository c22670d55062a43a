use Rattle.std.proofs.Common.{sym, subst}
use Rattle.hg_model.specs.Statements.{command_tree}
use Rattle.hg_reply.specs.Asked.{command_in, texts_in, IsReadAs}
use Rattle.hg_reply.specs.Steps.{BeginsRead}
use Rattle.hg_engine.specs.Shown.{space_of, tells_of, frames_of, IsSomeEngine, IsStill, EngineSteps}
use Rattle.hg_engine.specs.Stepping.{CommandFinds, StillWhere}
use Rattle.hg_engine.proofs.EngineSteps.{is-still, still-where}
use Rattle.hg_engine.proofs.engine.Engine.command.Goals as goal

pub answer-requires-clause-read : goal.answer-requires-clause-read
answer-requires-clause-read g c =
    let max = frames_of c.args.self.now in
    let asked = c.asked_by-asked.result in
    subst (λ k. IsReadAs (frames_of k) (command_in asked.command) (texts_in asked)) (sym c.self.view_is)
    (subst (λ z. IsReadAs max (command_in asked.command) z) (sym c.asked_by-asked.ensures.texts)
    (subst (λ z. IsReadAs max z c.args.parsed.texts.bytes) (sym c.asked_by-asked.ensures.command) c.requires.read))

pub invariant_of-self : goal.invariant_of-self
invariant_of-self g c =
    let old = c.self.invariant in
    let now = c.answer.ensures.step.moves.to old.0 old.1 in
    (now.0, now.1)

pub returns-clause-step : goal.returns-clause-step
returns-clause-step g c =
    let m = g.M.PageDevice in
    let t = g.T.PageDevice in
    let old = c.args.self.now in
    let new = c.answer.new.self in
    let asked = c.asked_by-asked.result in
    subst (λ x. EngineSteps m t old new c.answer.new.reply (BeginsRead (tells_of m t old) (command_tree c.args.parsed.command) x)
    (λ now. CommandFinds (space_of m t old) old.tables now (command_tree c.args.parsed.command))) c.asked_by-asked.ensures.texts
    (subst (λ u. EngineSteps m t old new c.answer.new.reply (BeginsRead (tells_of m t old) u (texts_in asked))
    (λ now. CommandFinds (space_of m t old) old.tables now u)) c.asked_by-asked.ensures.command
    (subst (λ k. EngineSteps m t k new c.answer.new.reply (BeginsRead (tells_of m t k) (command_in asked.command) (texts_in asked))
    (λ now. CommandFinds (space_of m t k) k.tables now (command_in asked.command))) c.self.view_is c.answer.ensures.step))

pub returns-clause-stood : goal.returns-clause-stood
returns-clause-stood g c = subst (IsSomeEngine g.M.PageDevice g.T.PageDevice) c.self.view_is c.self.invariant

pub returns-clause-still : goal.returns-clause-still
returns-clause-still g c =
    let m = g.M.PageDevice in
    let t = g.T.PageDevice in
    let old = c.args.self.now in
    let new = c.answer.new.self in
    subst (λ u. StillWhere u (IsStill m t old new)) c.asked_by-asked.ensures.command
    (subst (λ k. StillWhere (command_in c.asked_by-asked.result.command) (IsStill m t k new)) c.self.view_is
    (still-where (command_in c.asked_by-asked.result.command) _ _ (is-still m t c.self.inside.kept new) c.answer.ensures.still))
