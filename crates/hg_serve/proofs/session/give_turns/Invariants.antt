use Rattle.std.proofs.Common.{◌≡◌, ◌↔◌, List, true}
use Rattle.hg_machine.specs.Plain.Replies.{ReplyLine}
use Rattle.hg_reply.specs.declared.machine.Next.TheVariants.{More}
use Rattle.hg_reply.specs.Steps.{Moves, NoneFell}
use Rattle.hg_serve.specs.Output.{moment, Tells}
use Rattle.hg_serve.proofs.Moving.{Giving}
use Rattle.hg_serve.proofs.session.give_turns.Given as goal

abbrev pub invariant-loop-left : goal.invariant-loop-left
invariant-loop-left g l = record {
  given : (lines : List ReplyLine)
      × Tells (moment (g.K.Sink.written l.fn.sink) (g.E.Machine.faults l.fn.engine) (g.E.Machine.said l.fn.engine)) (moment (g.K.Sink.written l.sink) (g.E.Machine.faults l.engine) (g.E.Machine.said l.engine)) l.fn.output l.output lines
      × Moves g.E.Machine.stands l.fn.engine l.engine (Giving (g.E.Machine.tells l.fn.engine)) lines;
  more : (l.left ≡ More) ↔ (g.E.Machine.pending l.engine ≡ true);
  tells_same : g.E.Machine.tells l.engine ≡ g.E.Machine.tells l.fn.engine;
  later : NoneFell (g.E.Machine.faults l.fn.engine) (g.E.Machine.faults l.engine);
  sink_same : g.K.Sink.faults l.sink ≡ g.K.Sink.faults l.fn.sink;
}

abbrev pub decreases-loop-left : goal.decreases-loop-left
decreases-loop-left g l = g.E.Machine.turns l.engine
