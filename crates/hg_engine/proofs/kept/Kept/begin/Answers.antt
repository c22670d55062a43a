use Rattle.std.proofs.Common.{sym, subst}
use Rattle.hg_reply.specs.Asked.{command_in, texts_in, IsReadAs}
use Rattle.hg_reply.specs.Steps.{BeginsSo}
use Rattle.hg_reply.specs.declared.asked.CommandAt.{CommandAt}
use Rattle.hg_engine.specs.Shown.{space_of, tells_of, EngineSteps}
use Rattle.hg_engine.specs.Stepping.{CommandFinds}
use Rattle.hg_engine.proofs.ReadLaws.{pool-range}
use Rattle.hg_engine.proofs.kept.Kept.begin.Goals as goal

pub returns-in-CreateTable-clause-step : goal.returns-in-CreateTable-clause-step
returns-in-CreateTable-clause-step g c =
    let old = c.args.self.now in
    let P : CommandAt → Type 0 = λ k. EngineSteps g.M.PageDevice g.T.PageDevice old c.create.new.self c.create.new.reply
    (BeginsSo (tells_of g.M.PageDevice g.T.PageDevice old) (command_in k) (texts_in c.args.asked.now)) (λ now. CommandFinds (space_of g.M.PageDevice g.T.PageDevice old) old.tables now (command_in k)) in
    subst P (sym c.in-CreateTable.is) (c.create.ensures.step (texts_in c.args.asked.now))

pub returns-in-Insert-clause-step : goal.returns-in-Insert-clause-step
returns-in-Insert-clause-step g c =
    let old = c.args.self.now in
    let P : CommandAt → Type 0 = λ k. EngineSteps g.M.PageDevice g.T.PageDevice old c.insert.new.self c.insert.new.reply
    (BeginsSo (tells_of g.M.PageDevice g.T.PageDevice old) (command_in k) (texts_in c.args.asked.now)) (λ now. CommandFinds (space_of g.M.PageDevice g.T.PageDevice old) old.tables now (command_in k)) in
    subst P (sym c.in-Insert.is) c.insert.ensures.step

pub returns-in-Update-clause-step : goal.returns-in-Update-clause-step
returns-in-Update-clause-step g c =
    let old = c.args.self.now in
    let P : CommandAt → Type 0 = λ k. EngineSteps g.M.PageDevice g.T.PageDevice old c.update.new.self c.update.new.reply
    (BeginsSo (tells_of g.M.PageDevice g.T.PageDevice old) (command_in k) (texts_in c.args.asked.now)) (λ now. CommandFinds (space_of g.M.PageDevice g.T.PageDevice old) old.tables now (command_in k)) in
    subst P (sym c.in-Update.is) c.update.ensures.step

pub returns-in-Delete-clause-step : goal.returns-in-Delete-clause-step
returns-in-Delete-clause-step g c =
    let old = c.args.self.now in
    let P : CommandAt → Type 0 = λ k. EngineSteps g.M.PageDevice g.T.PageDevice old c.delete.new.self c.delete.new.reply
    (BeginsSo (tells_of g.M.PageDevice g.T.PageDevice old) (command_in k) (texts_in c.args.asked.now)) (λ now. CommandFinds (space_of g.M.PageDevice g.T.PageDevice old) old.tables now (command_in k)) in
    subst P (sym c.in-Delete.is) c.delete.ensures.step

pub returns-in-Select-clause-step : goal.returns-in-Select-clause-step
returns-in-Select-clause-step g c =
    let old = c.args.self.now in
    let P : CommandAt → Type 0 = λ k. EngineSteps g.M.PageDevice g.T.PageDevice old c.select.new.self c.select.new.reply
    (BeginsSo (tells_of g.M.PageDevice g.T.PageDevice old) (command_in k) (texts_in c.args.asked.now)) (λ now. CommandFinds (space_of g.M.PageDevice g.T.PageDevice old) old.tables now (command_in k)) in
    subst P (sym c.in-Select.is) c.select.ensures.step

pub returns-in-Pool-clause-step : goal.returns-in-Pool-clause-step
returns-in-Pool-clause-step g c =
    let old = c.args.self.now in
    let P : CommandAt → Type 0 = λ k. EngineSteps g.M.PageDevice g.T.PageDevice old c.resize.new.self c.resize.new.reply
    (BeginsSo (tells_of g.M.PageDevice g.T.PageDevice old) (command_in k) (texts_in c.args.asked.now)) (λ now. CommandFinds (space_of g.M.PageDevice g.T.PageDevice old) old.tables now (command_in k)) in
    subst P (sym c.in-Pool.is) (c.resize.ensures.step (texts_in c.args.asked.now))

pub resize-requires-clause-at_least : goal.resize-requires-clause-at_least
resize-requires-clause-at_least g c =
    (pool-range c.args.self.now.tables.max c.in-Pool.frames (texts_in c.args.asked.now)
    (subst (λ k. IsReadAs c.args.self.now.tables.max (command_in k) (texts_in c.args.asked.now)) c.in-Pool.is c.requires.read)).0

pub resize-requires-clause-at_most : goal.resize-requires-clause-at_most
resize-requires-clause-at_most g c =
    (pool-range c.args.self.now.tables.max c.in-Pool.frames (texts_in c.args.asked.now)
    (subst (λ k. IsReadAs c.args.self.now.tables.max (command_in k) (texts_in c.args.asked.now)) c.in-Pool.is c.requires.read)).1
