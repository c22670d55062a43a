use Rattle.std.proofs.Common.{[], ◌++◌, refl, ◌∙◌, sym, subst, arith}
use Rattle.hg_reply.specs.Steps.{Says, Moves, ContinuesSo}
use Rattle.hg_serve.specs.Output.{moment}
use Rattle.hg_serve.proofs.Telling.{tells-none, tells-then, tells-put, part-put, part-then, stops-put, stops-later, fell-none, fell-then}
use Rattle.hg_serve.proofs.Breaking.{breaks-turns}
use Rattle.hg_serve.proofs.Moving.{at-rest, moves-no_turn, moves-turn, moves-ends}
use Rattle.hg_serve.proofs.session.give_turns.Goals as goal

pub loop-left-init : goal.loop-left-init
loop-left-init g c = record {
  given = ([], tells-none _ _, moves-no_turn _ _ _);
  more = c.requires.more;
  tells_same = refl;
  later = fell-none _;
  sink_same = refl;
}

pub loop-left-preserved : goal.loop-left-preserved
loop-left-preserved g c =
    let so_far = c.loop-left.invariant in
    let given = so_far.given in
    let step = c.more-left.ensures.step in
    let put = c.in_default-put.ensures {u = tt} in
    let turn = subst (λ t. Moves g.E.Machine.stands c.loop-left.engine c.more-left.new.self (ContinuesSo t) step.0) so_far.tells_same step.2 in
    record {
      given = (
        given.0 ++ step.0,
        tells-then _ _ _ _ c.loop-left.output _ given.0 step.0 given.1
            (tells-put _ _ _ _ _ _ c.loop-left.output _ _ step.0 step.1 put.ok put.errors (omega (arith, c.more-left.ensures.said_more))),
        moves-turn _ _ _ _ _ given.0 step.0 _ (so_far.more.0 c.in-More.is) (g.met.E.Machine.pends c.loop-left.engine) given.2 turn,
      );
      more = c.more-left.ensures.more;
      tells_same = c.more-left.ensures.tells_stay ∙ so_far.tells_same;
      later = fell-then _ _ _ so_far.later c.more-left.ensures.later;
      sink_same = put.cause.stays ∙ so_far.sink_same;
    }

pub returns-in-Err-clause-part : goal.returns-in-Err-clause-part
returns-in-Err-clause-part g c =
    let so_far = c.loop-left.invariant in
    let given = so_far.given in
    let step = c.more-left.ensures.step in
    let broke = c.in-Err.ensures {u = tt} in
    let dropped = c.stop.ensures in
    let f0 = g.E.Machine.faults c.loop-left.engine in
    let turn = subst (λ t. Moves g.E.Machine.stands c.loop-left.engine c.more-left.new.self (ContinuesSo t) step.0) so_far.tells_same step.2 in
    let says = subst (λ f. Says c.more-left.new.reply f0 f step.0) (sym dropped.faults_stay) step.1 in
    breaks-turns _ _ _ _ _ _ c.args.output.now.bytes.items _ (given.0 ++ step.0)
    (moves-turn _ _ _ _ _ given.0 step.0 _ (so_far.more.0 c.in-More.is) (g.met.E.Machine.pends c.loop-left.engine) given.2 turn) dropped.stops
    (part-then _ _ _ c.args.output.now c.loop-left.output given.0 step.0 given.1 (part-put _ _ _ _ _ _ _ c.more-left.new.reply step.0 says broke.part))
    (stops-later _ (moment (g.K.Sink.written c.loop-left.sink) (g.E.Machine.faults c.loop-left.engine) (g.E.Machine.said c.loop-left.engine)) _ _ _ _ given.1.passes given.1.said
    (stops-put _ _ _ _ _ _ c.loop-left.output.bytes.items c.more-left.new.reply.text.items broke.part (omega (arith, c.more-left.ensures.said_more, dropped.says_nothing)) broke.few))

pub returns-clause-ok : goal.returns-clause-ok
returns-clause-ok g c =
    let given = c.loop-left.invariant.given in (
      given.0,
      given.1,
      moves-ends _ _ _ _ given.0 _ (at-rest _ _ c.loop-left.invariant.more.1 c.in_default.not-More) (g.met.E.Machine.pends c.loop-left.engine) given.2,
    )
