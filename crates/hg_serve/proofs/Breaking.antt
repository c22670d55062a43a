-- a sink that fails within a step
use Rattle.std.proofs.Common.{ℕ, ◌+◌, ◌≤◌, Bool, List, [], ◌∷◌, ◌++◌, length}
use Rattle.hg_machine.specs.Plain.Replies.{ReplyLine, text_of}
use Rattle.hg_machine.specs.Plain.Run.{between_lines}
use Rattle.hg_machine.specs.Plain.State.{State}
use Rattle.hg_model.specs.Script.{Line}
use Rattle.hg_reply.specs.Steps.{Moves, Counted, manner}
use Rattle.hg_serve.specs.Asking.{Beginning}
use Rattle.hg_serve.specs.Output.{Moment, Passes, TellsInPart, Stops}
use Rattle.hg_serve.specs.Session.{BreaksOff, StopsWork, StoppingTurns, StoppingLine, stopped}
use Rattle.hg_serve.specs.Serving.{Running, Halting}
use Rattle.hg_serve.proofs.Moving.{Giving}
use Rattle.hg_serve.proofs.Running.{closes-well, some-stops, stops-line, stops-begun}
use Rattle.hg_serve.proofs.Scripts.{stops-push}
use Rattle.hg_serve.proofs.Telling.{text_of-append, breaks-then, counted-then, stops-later}

module _ {E : Type 0} (Stands : E → State → Type 0) where
  -- it fails in the lines of a step, and the command at work is dropped
  breaks-here : (e0 e1 e2 : E) (old new : Moment) (waiting : List ℕ) (P R : State → List ReplyLine → State → Type 0) (rs : List ReplyLine)
      → ((a b : State) → P a rs b → R a rs (stopped b))
      → Moves Stands e0 e1 P rs → StopsWork Stands e1 e2 → TellsInPart old new waiting rs → Stops old new waiting
      → BreaksOff Stands e0 e2 old new waiting R
  breaks-here e0 e1 e2 old new waiting P R rs stopping moves drops told stops = record {
    from = λ before stood.
        let m = moves.to before stood in
        record { replies = rs; after = stopped m.0; stands = drops.to m.0 m.1; step = stopping before m.0 m.2; told = told };
    stops = stops;
  }

  -- it fails between two lines
  pub breaks-between : (e0 e1 : E) (old new : Moment) (waiting : List ℕ) (tells : Bool) (lines : List Line) (rs : List ReplyLine)
      → Moves Stands e0 e1 (Running tells lines) rs → TellsInPart old new waiting rs → Stops old new waiting
      → BreaksOff Stands e0 e1 old new waiting (Halting tells lines)
  breaks-between e0 e1 old new waiting tells lines rs moves told stops = record {
    from = λ before stood.
        let m = moves.to before stood in
        record { replies = rs; after = m.0; stands = m.1; step = between_lines m.2; told = told };
    stops = stops;
  }

  -- it fails in the second of two steps
  breaks-later : (e0 e1 e2 : E) (old mid new : Moment) (b0 b1 : List ℕ) (P Q R : State → List ReplyLine → State → Type 0) (rs : List ReplyLine)
      → ((a b c : State) (ss : List ReplyLine) → P a rs b → Q b ss c → R a (rs ++ ss) c)
      → Moves Stands e0 e1 P rs → Passes old.written mid.written b0 b1 (text_of rs) → Counted old.faults mid.faults rs
      → mid.said ≤ old.said + length (text_of rs) → BreaksOff Stands e1 e2 mid new b1 Q → BreaksOff Stands e0 e2 old new b0 R
  breaks-later e0 e1 e2 old mid new b0 b1 P Q R rs both moves passes counted said breaks = record {
    from = λ before stood.
        let m = moves.to before stood in
        let late = breaks.from m.0 m.1 in
        record {
          replies = rs ++ late.replies;
          after = late.after;
          stands = late.stands;
          step = both before m.0 late.after late.replies m.2 late.step;
          told = record {
            breaks = rw (text_of-append rs late.replies) (breaks-then _ _ _ _ _ (text_of rs) (text_of late.replies) passes late.told.breaks);
            counted = counted-then _ _ _ rs late.replies counted late.told.counted;
          };
        };
    stops = stops-later old mid new b0 b1 (text_of rs) passes said breaks.stops;
  }

  -- in the turns that were given
  pub breaks-turns : (e0 e1 e2 : E) (old new : Moment) (waiting : List ℕ) (tells : Bool) (rs : List ReplyLine) → Moves Stands e0 e1 (Giving tells) rs
      → StopsWork Stands e1 e2 → TellsInPart old new waiting rs → Stops old new waiting
      → BreaksOff Stands e0 e2 old new waiting (StoppingTurns tells)
  breaks-turns e0 e1 e2 old new waiting tells rs =
      breaks-here e0 e1 e2 old new waiting (Giving tells) (StoppingTurns tells) rs
      (λ a b so_far. some-stops (manner tells) (closes-well tells) a b rs so_far)

  -- in the immediate replies of a line
  pub breaks-begin : (e0 e1 e2 : E) (old new : Moment) (waiting : List ℕ) (tells : Bool) (line : Line) (rs : List ReplyLine)
      → Moves Stands e0 e1 (Beginning tells line) rs → StopsWork Stands e1 e2 → TellsInPart old new waiting rs
      → Stops old new waiting → BreaksOff Stands e0 e2 old new waiting (StoppingLine tells line)
  breaks-begin e0 e1 e2 old new waiting tells line rs =
      breaks-here e0 e1 e2 old new waiting (Beginning tells line) (StoppingLine tells line) rs
      (λ a b begins. stops-begun (manner tells) (closes-well tells) a b line rs begins)

  -- in its turns
  pub breaks-line : (e0 e1 e2 : E) (old mid new : Moment) (b0 b1 : List ℕ) (tells : Bool) (line : Line) (rs : List ReplyLine)
      → Moves Stands e0 e1 (Beginning tells line) rs → Passes old.written mid.written b0 b1 (text_of rs)
      → Counted old.faults mid.faults rs → mid.said ≤ old.said + length (text_of rs)
      → BreaksOff Stands e1 e2 mid new b1 (StoppingTurns tells) → BreaksOff Stands e0 e2 old new b0 (StoppingLine tells line)
  breaks-line e0 e1 e2 old mid new b0 b1 tells line rs =
      breaks-later e0 e1 e2 old mid new b0 b1 (Beginning tells line) (StoppingTurns tells) (StoppingLine tells line) rs
      (λ a b c ss begins turns. stops-line (manner tells) a b c line rs ss begins turns)

  -- in the last of several lines
  pub breaks-lines : (e0 e1 e2 : E) (old mid new : Moment) (b0 b1 : List ℕ) (tells : Bool) (lines : List Line) (line : Line) (rs : List ReplyLine)
      → Moves Stands e0 e1 (Running tells lines) rs → Passes old.written mid.written b0 b1 (text_of rs) → Counted old.faults mid.faults rs
      → mid.said ≤ old.said + length (text_of rs) → BreaksOff Stands e1 e2 mid new b1 (StoppingLine tells line)
      → BreaksOff Stands e0 e2 old new b0 (Halting tells (lines ++ line ∷ []))
  breaks-lines e0 e1 e2 old mid new b0 b1 tells lines line rs =
      breaks-later e0 e1 e2 old mid new b0 b1 (Running tells lines) (StoppingLine tells line) (Halting tells (lines ++ line ∷ [])) rs
      (λ a b c ss run last. stops-push (manner tells) a b c lines line rs ss run last)
