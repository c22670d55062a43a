-- What was answered by a run of one meaning was answered by a run of every wider one.
use Rattle.std.specs.Prelude.{◌≡◌, ℕ, Bool, List, Option}
use Rattle.std.proofs.Common.{subst, sym}
use Rattle.hg_machine.specs.Plain.Outcome.{Meaning, Outside, AreRepliesTo, AnswersScript, AnswersAll, AnswersWholeLines, AnswersUpToLimit, AnswersInPart}
use Rattle.hg_machine.specs.Plain.Replies.{ReplyLine}
use Rattle.hg_machine.specs.Plain.Run.{IsRun, RunsLines, StopsIn}
use Rattle.hg_machine.specs.Plain.State.{State, Sizes, first_state}
use Rattle.hg_model.specs.Script.{Line}
use Rattle.hg_reply.specs.Steps.{DeviceFacts, manner}
use Rattle.hg_serve.specs.Ending.{Ends, outside}
use Rattle.hg_serve.specs.Run.{Reaches, StopsAt, IsStopped}
use Rattle.hg_serve.specs.declared.statuses.Status.{Status}
use Rattle.hg_serve.specs.declared.statuses.Status.TheVariants as status

module _ (P Q : Meaning) (old new : Outside) (wider : (script : List Line) (lines : List ReplyLine) → P script lines → Q script lines) where
  says-as : (script : List Line) (lines : List ReplyLine) → AreRepliesTo P old new script lines → AreRepliesTo Q old new script lines
  says-as script lines r = record { run = wider script lines r.run; main_faults = r.main_faults; temp_faults = r.temp_faults }

  answers-as : (script : List Line) (lines : List ReplyLine) → AnswersScript P old new script lines → AnswersScript Q old new script lines
  answers-as script lines a = record { of_run = says-as script lines a.of_run; text = a.text }

  all-as : (errors : Bool) → AnswersAll P old new errors → AnswersAll Q old new errors
  all-as errors a = record {
    taken = a.taken;
    took = a.took;
    few = a.few;
    at_end = a.at_end;
    lines = a.lines;
    answers = answers-as _ a.lines a.answers;
    errors_shown = a.errors_shown;
  }

  whole-as : AnswersWholeLines P old new → AnswersWholeLines Q old new
  whole-as a = record { taken = a.taken; took = a.took; few = a.few; lines = a.lines; answers = answers-as _ a.lines a.answers }

  limit-as : AnswersUpToLimit P old new → AnswersUpToLimit Q old new
  limit-as a = record { taken = a.taken; took = a.took; all = a.all; lines = a.lines; answers = answers-as _ a.lines a.answers }

  part-as : AnswersInPart P old new → AnswersInPart Q old new
  part-as a = record {
    taken = a.taken;
    took = a.took;
    few = a.few;
    script = a.script;
    later = a.later;
    first = a.first;
    lines = a.lines;
    of_run = says-as a.script a.lines a.of_run;
    front = a.front;
    rest = a.rest;
    parts = a.parts;
    text = a.text;
  }

module _ (P Q P' Q' : Meaning) (old new : Outside)
    (wider : (script : List Line) (lines : List ReplyLine) → P script lines → Q script lines)
    (wider' : (script : List Line) (lines : List ReplyLine) → P' script lines → Q' script lines) where
  ends-as : (s : Status) → Ends P P' old new s → Ends Q Q' old new s
  ends-as status.Clean a = all-as P Q old new wider _ a
  ends-as status.Errors a = all-as P Q old new wider _ a
  ends-as status.Usage never = never
  ends-as status.SourceFault a = whole-as P Q old new wider a
  ends-as status.SinkFault a = part-as P' Q' old new wider' a
  ends-as status.NoMemory never = never
  ends-as status.TooLong a = limit-as P Q old new wider a

module _ {E : Type 0} (Stands : E → State → Type 0) (now : E) (told tells : Bool) (made sizes : Sizes) (told_is : told ≡ tells) (made_is : made ≡ sizes) where
  -- a run of an engine of no table is one over its devices
  over-devices : (script : List Line) (lines : List ReplyLine) → Reaches Stands told now (first_state made) script lines → IsRun (manner tells) sizes script lines
  over-devices script lines reached = record {
    last = reached.last;
    runs = subst (λ n. RunsLines (manner tells) (first_state n) script lines reached.last) made_is
        (subst (λ t. RunsLines (manner t) (first_state made) script lines reached.last) told_is reached.runs);
  }

  stopped-over : (script : List Line) (lines : List ReplyLine) → StopsAt Stands told now (first_state made) script lines → IsStopped tells sizes script lines
  stopped-over script lines reached = record {
    last = reached.last;
    runs = subst (λ n. StopsIn (manner tells) (first_state n) script lines reached.last) made_is
        (subst (λ t. StopsIn (manner t) (first_state made) script lines reached.last) told_is reached.runs);
  }

  pub ends-over : (s : Status) (left0 left1 : Option (List ℕ)) (given0 given1 : ℕ) (w0 w1 : Option (List ℕ)) (f0 f1 e0 e1 : DeviceFacts) → f0 ≡ e0 → f1 ≡ e1
      → Ends (Reaches Stands told now (first_state made)) (StopsAt Stands told now (first_state made)) (outside left0 given0 w0 f0) (outside left1 given1 w1 f1) s
      → Ends (IsRun (manner tells) sizes) (IsStopped tells sizes) (outside left0 given0 w0 e0) (outside left1 given1 w1 e1) s
  ends-over s left0 left1 given0 given1 w0 w1 f0 f1 e0 e1 before after ends =
      let Q : Meaning = IsRun (manner tells) sizes in
      let Q' : Meaning = IsStopped tells sizes in
      subst (λ f. Ends Q Q' (outside left0 given0 w0 f) (outside left1 given1 w1 e1) s) before
      (subst (λ f. Ends Q Q' (outside left0 given0 w0 f0) (outside left1 given1 w1 f) s) after
      (ends-as (Reaches Stands told now (first_state made)) Q (StopsAt Stands told now (first_state made)) Q' (outside left0 given0 w0 f0) (outside left1 given1 w1 f1)
      over-devices stopped-over s ends))
