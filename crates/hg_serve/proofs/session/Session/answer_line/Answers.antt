use Rattle.std.proofs.Common.{◌++◌, ◌∙◌, sym, subst, arith}
use Rattle.hg_model.specs.Script.{Line}
use Rattle.hg_reply.specs.Steps.{Says, Moves}
use Rattle.hg_serve.specs.Output.{moment}
use Rattle.hg_serve.specs.Session.{BreaksOff, Finishing, StoppingTurns}
use Rattle.hg_serve.proofs.Telling.{on_err, tells-then, tells-put, part-put, stops-put}
use Rattle.hg_serve.proofs.Breaking.{breaks-begin, breaks-line}
use Rattle.hg_serve.proofs.Moving.{moves-line}
use Rattle.hg_serve.proofs.session.Session.answer_line.Goals as goal

pub returns-in-Err-clause-part : goal.returns-in-Err-clause-part
returns-in-Err-clause-part g c = λ whole is.
    let line : Line = record { bytes = whole; ended = c.args.ended } in
    let begun = c.begin-next.ensures.step whole (c.as_slice-line.ensures.value ∙ is) in
    let broke = c.in-Err.ensures {u = tt} in
    let dropped = c.stop.ensures in
    let f0 = g.E.Machine.faults c.args.engine.now in
    let says = subst (λ f. Says c.begin-next.new.reply f0 f begun.0) (sym dropped.faults_stay) begun.1 in
    breaks-begin _ _ _ _ _ _ _ _ line begun.0 begun.2 dropped.stops
    (part-put _ _ _ _ _ _ _ c.begin-next.new.reply begun.0 says broke.part)
    (stops-put _ _ _ _ _ _ c.args.self.now.output.bytes.items c.begin-next.new.reply.text.items broke.part (omega (arith, c.begin-next.ensures.said, dropped.says_nothing)) broke.few)

pub returns-in_err-give_turns-clause-part : goal.returns-in_err-give_turns-clause-part
returns-in_err-give_turns-clause-part g c =
    on_err c.from_residual.result (λ whole is.
    let line : Line = record { bytes = whole; ended = c.args.ended } in
    let begun = c.begin-next.ensures.step whole (c.as_slice-line.ensures.value ∙ is) in
    let put = c.in_default.ensures {u = tt} in
    let told = tells-put _ _ _ _ _ _ c.args.self.now.output c.put.new.self _ begun.0 begun.1 put.ok put.errors c.begin-next.ensures.said in
    breaks-line _ _ _ _ _ _ _ c.args.self.now.output.bytes.items c.put.new.self.bytes.items _ line begun.0 begun.2
    told.passes told.counted told.said
    (subst (λ t. BreaksOff g.E.Machine.stands c.begin-next.new.engine c.give_turns.new.engine
    (moment (g.K.Sink.written c.put.new.sink) (g.E.Machine.faults c.begin-next.new.engine) (g.E.Machine.said c.begin-next.new.engine))
    (moment (g.K.Sink.written c.give_turns.new.sink) (g.E.Machine.faults c.give_turns.new.engine) (g.E.Machine.said c.give_turns.new.engine))
    c.put.new.self.bytes.items (StoppingTurns t)) c.begin-next.ensures.tells_stay (c.in_err-give_turns.ensures {u = tt}).part))

pub returns-clause-ok : goal.returns-clause-ok
returns-clause-ok g c = λ whole is.
    let line : Line = record { bytes = whole; ended = c.args.ended } in
    let begun = c.begin-next.ensures.step whole (c.as_slice-line.ensures.value ∙ is) in
    let put = c.in_default.ensures {u = tt} in
    let given = (c.in_ok-give_turns.ensures {u = tt}).ok in
    record {
      replies = begun.0 ++ given.0;
      moves = moves-line _ _ _ _ _ line begun.0 given.0 begun.2
          (subst (λ t. Moves g.E.Machine.stands c.begin-next.new.engine c.give_turns.new.engine (Finishing t) given.0) c.begin-next.ensures.tells_stay given.2);
      told = tells-then _ _ _ _ c.put.new.self _ begun.0 given.0 (tells-put _ _ _ _ _ _ c.args.self.now.output c.put.new.self _ begun.0 begun.1 put.ok put.errors c.begin-next.ensures.said) given.1;
    }
