use Rattle.std.proofs.Common.{◌≡◌, ◌++◌, List, ℕ, length, false}
use Rattle.hg_serve.specs.Output.{Moment, moment}
use Rattle.hg_reply.specs.Steps.{NoneFell}
use Rattle.hg_serve.specs.Serving.{Serves}
use Rattle.hg_serve.proofs.session.Session.feed.Given as goal

abbrev pub invariant-loop-front : goal.invariant-loop-front
invariant-loop-front g l = record {
  done : List ℕ;
  parts : l.fn.bytes ≡ done ++ l.rest;
  idle : g.E.Machine.pending l.engine ≡ false;
  serves : (first : g.row.E.Denot) (w : Moment) (taken : List ℕ)
      → Serves g.E.Machine.stands (g.E.Machine.tells l.fn.engine) first l.fn.engine w (moment (g.K.Sink.written l.fn.sink) (g.E.Machine.faults l.fn.engine) (g.E.Machine.said l.fn.engine)) l.fn.self taken
      → Serves g.E.Machine.stands (g.E.Machine.tells l.fn.engine) first l.engine w (moment (g.K.Sink.written l.sink) (g.E.Machine.faults l.engine) (g.E.Machine.said l.engine)) l.self (taken ++ done);
  tells_same : g.E.Machine.tells l.engine ≡ g.E.Machine.tells l.fn.engine;
  later : NoneFell (g.E.Machine.faults l.fn.engine) (g.E.Machine.faults l.engine);
  sink_same : g.K.Sink.faults l.sink ≡ g.K.Sink.faults l.fn.sink;
}

abbrev pub decreases-loop-front : goal.decreases-loop-front
decreases-loop-front g l = length l.rest
