-- from where a session stands to how a script ends
use Rattle.std.proofs.Common.{◌≡◌, ◌≢◌, ℕ, ◌<◌, ◌≤◌, ◌+◌, ◌-◌, ◌^◌, Bool, List, [], ◌++◌, length, take, Option, None, Some, refl, sym, ap, ◌∙◌, arith, inl, inr, ◌⊎◌, append-nil, length-append}
use Rattle.hg_io.specs.Bytes.{then, before, AtEnd, before-before}
use Rattle.hg_base.specs.Count.{raised}
use Rattle.hg_base.specs.declared.File.TheVariants.{Main, Temp}
use Rattle.hg_model.specs.Script.{Line, whole_lines, lines_of}
use Rattle.hg_machine.specs.Plain.State.{State}
use Rattle.hg_machine.specs.Plain.Replies.{ReplyLine, text_of, fault_lines}
use Rattle.hg_machine.specs.Plain.Outcome.{Outside, Took, AreRepliesTo, AnswersAll, AnswersWholeLines, AnswersUpToLimit, AnswersInPart}
use Rattle.hg_reply.specs.Steps.{Moves, DeviceFacts}
use Rattle.hg_serve.specs.declared.session.Session.{Session}
use Rattle.hg_serve.specs.declared.statuses.Status.{Status}
use Rattle.hg_serve.specs.declared.statuses.Status.TheVariants as status
use Rattle.hg_serve.specs.Output.{Moment, moment, Stops}
use Rattle.hg_serve.specs.Session.{TellsFront}
use Rattle.hg_serve.specs.Serving.{Serves, Halts, AllAnswered, Closes, Running, Halting}
use Rattle.hg_serve.specs.Ending.{Ends, TakesSoMany, outside}
use Rattle.hg_serve.specs.Run.{Reaches, StopsAt}

-- counts

raised-raised : (g m n : ℕ) → raised (raised g m) n ≡ raised g (m + n)
raised-raised g m n = omega arith

-- what was taken

before-nil : (told : Option (List ℕ)) → told ≡ before [] told
before-nil None = refl
before-nil (Some bytes) = refl

pub took-none : (old : Outside) → old.given < 2 ^ 64 → Took old old []
took-none old small = record { left = before-nil old.left; given = omega arith }

pub took-more : (old mid new : Outside) (taken bytes : List ℕ) (n : ℕ) → Took old mid taken → mid.left ≡ before bytes new.left
    → length bytes ≡ n → new.given ≡ raised mid.given n → Took old new (taken ++ bytes)
took-more old mid new taken bytes n t left count given = record {
  left = t.left ∙ ap (before taken) left ∙ before-before new.left taken bytes;
  given =
      given ∙ ap (λ g. raised g n) t.given ∙ raised-raised old.given (length taken) n
      ∙ ap (raised old.given) (ap (λ k. length taken + k) (sym count) ∙ sym (length-append taken bytes));
}

pub took-same : (old mid new : Outside) (taken : List ℕ) → Took old mid taken → new.left ≡ mid.left → new.given ≡ mid.given
    → Took old new taken
took-same old mid new taken t left given =
    record { left = t.left ∙ ap (before taken) (sym left); given = given ∙ t.given }

pub took-end : (old mid new : Outside) (taken buffer : List ℕ) (n : ℕ) → Took old mid taken → mid.left ≡ before (take n buffer) new.left
    → n ≡ 0 → new.given ≡ raised mid.given n → mid.given < 2 ^ 64 → Took old new taken
took-end old mid new taken buffer n t left none given small =
    took-same old mid new taken t
    (sym (left ∙ ap (λ k. before (take k buffer) new.left) none ∙ sym (before-nil new.left)))
    (omega (arith, given, none, small))

-- the limit of bytes

pub comes-at-limit : (old new : Outside) (taken : List ℕ) (s : Status) → TakesSoMany s (length taken) → Took old new taken
    → new.given < 2 ^ 64 - 1 → new.given ≡ old.given + 2 ^ 32 → (s ≡ status.TooLong) ⊎ (s ≡ status.SinkFault)
comes-at-limit old new taken status.Clean few took small all = absurd (omega (arith, took.given))
comes-at-limit old new taken status.Errors few took small all = absurd (omega (arith, took.given))
comes-at-limit old new taken status.Usage never took small all = absurd never
comes-at-limit old new taken status.SourceFault few took small all = absurd (omega (arith, took.given))
comes-at-limit old new taken status.SinkFault few took small all = inr refl
comes-at-limit old new taken status.NoMemory never took small all = absurd never
comes-at-limit old new taken status.TooLong is took small all = inl refl

pub never-usage : (n : ℕ) (s : Status) → TakesSoMany s n → s ≢ status.Usage
never-usage n status.Usage never is = never
never-usage n status.Clean few is = cc
never-usage n status.Errors few is = cc
never-usage n status.SourceFault few is = cc
never-usage n status.SinkFault few is = cc
never-usage n status.NoMemory never is = never
never-usage n status.TooLong few is = cc

pub never-no_memory : (n : ℕ) (s : Status) → TakesSoMany s n → s ≢ status.NoMemory
never-no_memory n status.Usage never is = never
never-no_memory n status.Clean few is = cc
never-no_memory n status.Errors few is = cc
never-no_memory n status.SourceFault few is = cc
never-no_memory n status.SinkFault few is = cc
never-no_memory n status.NoMemory never is = never
never-no_memory n status.TooLong few is = cc

-- how it ends

module _ {E : Type 0} (Stands : E → State → Type 0) (tells : Bool) (first now : E) (start : State) where
  the-replies : (old new : Outside) (lines : List Line) (replies : List ReplyLine) → Stands first start
      → Moves Stands first now (Running tells lines) replies
      → raised old.main_faults (fault_lines Main replies) ≤ new.main_faults → raised old.temp_faults (fault_lines Temp replies) ≤ new.temp_faults
      → AreRepliesTo (Reaches Stands tells now start) old new lines replies
  the-replies old new lines replies stood moves main temp =
      let there = moves.to start stood in
      record {
        run = record { last = there.0; stands = there.1; runs = there.2 };
        main_faults = main;
        temp_faults = temp;
      }

  module _ (left0 left1 : Option (List ℕ)) (given0 given1 : ℕ) (w0 w1 : Option (List ℕ)) (f0 f1 : DeviceFacts) (n0 n1 : ℕ) (taken : List ℕ)
      (stood : Stands first start) (took : Took (outside left0 given0 w0 f0) (outside left1 given1 w1 f1) taken) where
    -- the lines of which a front was written
    front-replies : (lines : List Line) (t : TellsFront Stands now (moment w0 f0 n0) (moment w1 f1 n1) [] (Halting tells lines start))
        → AreRepliesTo (StopsAt Stands tells now start) (outside left0 given0 w0 f0) (outside left1 given1 w1 f1) lines t.replies
    front-replies lines t = record {
      run = record { last = t.after; stands = t.stands; runs = t.step };
      main_faults = t.told.counted.main;
      temp_faults = t.told.counted.temp;
    }

    pub breaks-off : length taken ≤ 2 ^ 32 → Halts Stands tells first now (moment w0 f0 n0) (moment w1 f1 n1) (whole_lines taken)
        → AnswersInPart (StopsAt Stands tells now start) (outside left0 given0 w0 f0) (outside left1 given1 w1 f1)
    breaks-off few h = record {
      taken = taken;
      took = took;
      few = few;
      script = h.front;
      later = h.later;
      first = inl h.parts;
      lines = (h.breaks.from start stood).replies;
      of_run = front-replies h.front (h.breaks.from start stood);
      front = (h.breaks.from start stood).told.breaks.front;
      rest = (h.breaks.from start stood).told.breaks.rest;
      parts = (h.breaks.from start stood).told.breaks.parts;
      text = (h.breaks.from start stood).told.breaks.written;
    }

    answers-all : (errors : Bool) → length taken < 2 ^ 32 → AtEnd left1
        → AllAnswered Stands tells first now (moment w0 f0 n0) (moment w1 f1 n1) (lines_of taken) errors
        → AnswersAll (Reaches Stands tells now start) (outside left0 given0 w0 f0) (outside left1 given1 w1 f1) errors
    answers-all errors few last a = record {
      taken = taken;
      took = took;
      few = few;
      at_end = last;
      lines = a.replies;
      answers = record { of_run = the-replies _ _ (lines_of taken) a.replies stood a.moves a.counted.main a.counted.temp; text = a.text };
      errors_shown = a.shown;
    }

    pub closes : (s : Status) → length taken < 2 ^ 32 → AtEnd left1
        → Closes Stands tells first now (moment w0 f0 n0) (moment w1 f1 n1) (lines_of taken) s
        → Ends (Reaches Stands tells now start) (StopsAt Stands tells now start) (outside left0 given0 w0 f0) (outside left1 given1 w1 f1) s
    closes status.Clean few last a = answers-all _ few last a
    closes status.Errors few last a = answers-all _ few last a
    closes status.Usage few last never = absurd never
    closes status.SourceFault few last never = absurd never
    closes status.SinkFault few last h = record {
      taken = taken;
      took = took;
      few = omega (arith, few);
      script = h.front;
      later = h.later;
      first = inr (last, h.parts);
      lines = (h.breaks.from start stood).replies;
      of_run = front-replies h.front (h.breaks.from start stood);
      front = (h.breaks.from start stood).told.breaks.front;
      rest = (h.breaks.from start stood).told.breaks.rest;
      parts = (h.breaks.from start stood).told.breaks.parts;
      text = (h.breaks.from start stood).told.breaks.written;
    }
    closes status.NoMemory few last never = absurd never
    closes status.TooLong few last never = absurd never

    module _ (s : Session) (serves : Serves Stands tells first now (moment w0 f0 n0) (moment w1 f1 n1) s taken) (empty : s.output.bytes.items ≡ []) where
      all_text : w1 ≡ then w0 (text_of serves.replies)
      all_text =
          serves.passes.written
          ∙ ap (then w0) (sym (serves.passes.parts ∙ ap (λ l. serves.passes.passed ++ l) empty ∙ append-nil serves.passes.passed))

      pub source-breaks : length taken < 2 ^ 32 → AnswersWholeLines (Reaches Stands tells now start) (outside left0 given0 w0 f0) (outside left1 given1 w1 f1)
      source-breaks few = record {
        taken = taken;
        took = took;
        few = few;
        lines = serves.replies;
        answers = record { of_run = the-replies _ _ (whole_lines taken) serves.replies stood serves.moves serves.counted.main serves.counted.temp; text = all_text };
      }

      pub limit-comes : length taken ≡ 2 ^ 32 → AnswersUpToLimit (Reaches Stands tells now start) (outside left0 given0 w0 f0) (outside left1 given1 w1 f1)
      limit-comes all = record {
        taken = taken;
        took = took;
        all = all;
        lines = serves.replies;
        answers = record { of_run = the-replies _ _ (whole_lines taken) serves.replies stood serves.moves serves.counted.main serves.counted.temp; text = all_text };
      }

-- how a session that was closed took its bytes
pub closes-so_many : {E : Type 0} (Stands : E → State → Type 0) (tells : Bool) (first now : E) (old new : Moment) (lines : List Line) (n : ℕ) (s : Status)
    → n < 2 ^ 32 → Closes Stands tells first now old new lines s → TakesSoMany s n
closes-so_many Stands tells first now old new lines n status.Clean few a = few
closes-so_many Stands tells first now old new lines n status.Errors few a = few
closes-so_many Stands tells first now old new lines n status.Usage few never = never
closes-so_many Stands tells first now old new lines n status.SourceFault few never = absurd never
closes-so_many Stands tells first now old new lines n status.SinkFault few h = omega arith
closes-so_many Stands tells first now old new lines n status.NoMemory few never = never
closes-so_many Stands tells first now old new lines n status.TooLong few never = absurd never

-- nothing more was run where the sink failed
pub closes-stops : {E : Type 0} (Stands : E → State → Type 0) (tells : Bool) (first now : E) (old new : Moment) (lines : List Line) (s : Status)
    → Closes Stands tells first now old new lines s → s ≡ status.SinkFault → Stops old new []
closes-stops Stands tells first now old new lines status.Clean a is = absurd (let h : status.Clean ≡ status.SinkFault = is in cc)
closes-stops Stands tells first now old new lines status.Errors a is = absurd (let h : status.Errors ≡ status.SinkFault = is in cc)
closes-stops Stands tells first now old new lines status.Usage never is = absurd never
closes-stops Stands tells first now old new lines status.SourceFault never is = absurd never
closes-stops Stands tells first now old new lines status.SinkFault h is = h.breaks.stops
closes-stops Stands tells first now old new lines status.NoMemory never is = absurd never
closes-stops Stands tells first now old new lines status.TooLong never is = absurd never
