use Rattle.std.proofs.Common.{◌∙◌, None, [], ◌∷◌, ◌||◌, refl, ap, sym}
use Rattle.hg_machine.specs.Plain.Replies.{row, ended, closed}
use Rattle.hg_engine.specs.Stepping.{line_of}
use Rattle.hg_engine.proofs.SelectLaws.{look-cause, turn-ends, turn-faults, turn-found, turn-gives}
use Rattle.hg_engine.proofs.Saying.{tells-one, tells-two, counted-plain, turn-counted, or-false, error-of-fault, sound-line}
use Rattle.hg_engine.proofs.tables.Tables.turn.Goals as goal

pub returns-in-Row-clause-step : goal.returns-in-Row-clause-step
returns-in-Row-clause-step g c =
    let a = g.S.Pages.state c.args.space.now in
    let b = g.S.Pages.state c.turn.new.space in
    let old = c.args.self.now in
    let line = row None c.turn.new.out in
    let t = c.in-Row.ensures {u = tt} in (
      line ∷ [],
      tells-one c.args.reply.now c.say_row.new.self line c.requires.empty c.requires.no_error c.say_row.ensures.text (c.say_row.ensures.errors ∙ or-false c.args.reply.now.has_error),
      counted-plain a b line t.steady.counts (record { main = refl; temp = refl; main_full = refl; temp_full = refl }),
      turn-gives a b old _ c.requires.open refl refl refl refl t.steady t.takes_none c.turn.new.out c.requires.open (record { select = t.select; texts = t.texts; plan = t.plan })
          (λ pages left work owes. t.owed pages left work owes) (λ pages work. t.work pages work),
      sound-line _ line refl,
    )

pub returns-in-End-clause-step : goal.returns-in-End-clause-step
returns-in-End-clause-step g c =
    let a = g.S.Pages.state c.args.space.now in
    let b = g.S.Pages.state c.turn.new.space in
    let old = c.args.self.now in
    let t = c.in-End.ensures {u = tt} in (
      ended None ∷ [],
      tells-one c.args.reply.now c.say.new.self (ended None) c.requires.empty c.requires.no_error c.say.ensures.text c.say.ensures.errors,
      counted-plain a b (ended None) t.steady.counts (record { main = refl; temp = refl; main_full = refl; temp_full = refl }),
      turn-ends a b old _ c.requires.open refl refl refl refl t.steady t.takes_none refl (λ pages left work owes. t.owed pages left work owes),
      sound-line _ (ended None) refl,
    )

pub returns-in-Fault-clause-step : goal.returns-in-Fault-clause-step
returns-in-Fault-clause-step g c =
    let a = g.S.Pages.state c.args.space.now in
    let b = g.S.Pages.state c.turn.new.space in
    let old = c.args.self.now in
    let f = c.in-Fault.fault in
    let t = c.in-Fault.ensures {u = tt} in
    let cause = look-cause a b f t.check t.cause in (
      line_of f ∷ closed None ∷ [],
      tells-two c.args.reply.now c.say_fault.new.reply c.say-in-Fault.new.self (line_of f) (closed None) c.requires.empty c.requires.no_error
          c.say_fault.ensures.text (c.say_fault.ensures.errors ∙ ap (λ b. c.args.reply.now.has_error || b) (sym (error-of-fault f))) c.say-in-Fault.ensures.text c.say-in-Fault.ensures.errors,
      turn-counted a b f t.steady.counts cause,
      turn-faults a b old _ c.requires.open refl refl refl refl t.steady t.takes_none f refl cause,
      turn-found a b old c.requires.stands.0 f c.requires.open c.requires.stands.1 cause t.check (λ pages work. t.page pages work),
    )
