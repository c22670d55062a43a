use Rattle.std.proofs.Common.{◌≡◌, ◌≤◌, ◌-◌, ◌^◌, ℕ, List, length, false}
use Rattle.hg_machine.specs.Plain.Outcome.{Took}
use Rattle.hg_serve.specs.Ending.{outside}
use Rattle.hg_serve.specs.Output.{moment}
use Rattle.hg_reply.specs.Steps.{NoneFell}
use Rattle.hg_serve.specs.Serving.{Serves}
use Rattle.hg_serve.proofs.serving.read_and_answer.Given as goal

abbrev pub invariant-loop-taken : goal.invariant-loop-taken
invariant-loop-taken g l = record {
  served : (bytes : List ℕ)
      × Took (outside (g.S.Source.left l.fn.source) (g.S.Source.given l.fn.source) (g.K.Sink.written l.fn.sink) (g.E.Machine.faults l.fn.engine))
      (outside (g.S.Source.left l.source) (g.S.Source.given l.source) (g.K.Sink.written l.sink) (g.E.Machine.faults l.engine)) bytes
      × (length bytes ≡ l.taken)
      × Serves g.E.Machine.stands (g.E.Machine.tells l.fn.engine) l.fn.engine l.engine
      (moment (g.K.Sink.written l.fn.sink) (g.E.Machine.faults l.fn.engine) (g.E.Machine.said l.fn.engine)) (moment (g.K.Sink.written l.sink) (g.E.Machine.faults l.engine) (g.E.Machine.said l.engine)) l.session bytes;
  idle : g.E.Machine.pending l.engine ≡ false;
  within : l.taken ≤ 2 ^ 32;
  tells_same : g.E.Machine.tells l.engine ≡ g.E.Machine.tells l.fn.engine;
  later : NoneFell (g.E.Machine.faults l.fn.engine) (g.E.Machine.faults l.engine);
  source_same : g.S.Source.faults l.source ≡ g.S.Source.faults l.fn.source;
  sink_same : g.K.Sink.faults l.sink ≡ g.K.Sink.faults l.fn.sink;
}

abbrev pub decreases-loop-taken : goal.decreases-loop-taken
decreases-loop-taken g l = 2 ^ 32 - l.taken
