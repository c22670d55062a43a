-- how a session is closed
use Rattle.std.proofs.Common.{◌≡◌, ℕ, ◌<◌, ◌≤◌, ◌+◌, Bool, true, false, List, [], ◌∷◌, ◌++◌, ◌||◌, length, take, Option, refl, sym, ap, ◌∙◌, subst, arith, append-nil, length-take}
use Rattle.std.proofs.lemmas.List.{nil_from_length}
use Rattle.hg_io.specs.Bytes.{then}
use Rattle.hg_model.specs.Script.{Line, last_part, unended, whole_lines, lines_of}
use Rattle.hg_machine.specs.Plain.State.{State}
use Rattle.hg_machine.specs.Plain.Replies.{ReplyLine, text_of, has_error}
use Rattle.hg_reply.specs.Steps.{DeviceFacts, Counted, Moves}
use Rattle.hg_serve.specs.declared.output.Output.{Output}
use Rattle.hg_serve.specs.declared.session.Session.{Session}
use Rattle.hg_serve.specs.declared.statuses.Status.{Status}
use Rattle.hg_serve.specs.declared.statuses.Status.TheVariants as status
use Rattle.hg_serve.specs.Output.{Moment, moment, Passes, Breaks}
use Rattle.hg_serve.specs.Session.{AnswersLine, StoppingLine, BreaksOff}
use Rattle.hg_serve.specs.Serving.{Running, Halting, Serves, Halts, AnswersLines, AllAnswered, Finishes, Closes}
use Rattle.hg_serve.proofs.Telling.{passes-then, breaks-then, text_of-append, has_error-append, counted-then, said-then, stops-put, stops-later}
use Rattle.hg_serve.proofs.Breaking.{breaks-between, breaks-lines}
use Rattle.hg_serve.proofs.Moving.{moves-lines}

passes-empty : (w0 w1 : Option (List ℕ)) (t : List ℕ) → Passes w0 w1 [] [] t → w1 ≡ then w0 t
passes-empty w0 w1 t p =
    let same : p.passed ≡ t = sym (p.parts ∙ append-nil p.passed) in
    p.written ∙ ap (then w0) same

-- all of it was written
written-all : (w0 w1 w2 : Option (List ℕ)) (waiting t : List ℕ) → Passes w0 w1 [] waiting t → Passes w1 w2 waiting [] [] → w2 ≡ then w0 t
written-all w0 w1 w2 waiting t p q =
    passes-empty w0 w2 t (subst (λ l. Passes w0 w2 [] [] l) (append-nil t) (passes-then w0 w1 w2 [] waiting [] t [] p q))

-- a front of it was written
broke-all : (w0 w1 w2 : Option (List ℕ)) (waiting t : List ℕ) → Passes w0 w1 [] waiting t → Breaks w1 w2 waiting [] → Breaks w0 w2 [] t
broke-all w0 w1 w2 waiting t p q = subst (λ l. Breaks w0 w2 [] l) (append-nil t) (breaks-then w0 w1 w2 [] waiting t [] p q)

-- the script ends with a line feed, or has no byte
no-last-line : (taken : List ℕ) → last_part [] taken ≡ [] → lines_of taken ≡ whole_lines taken
unfolding lines_of
no-last-line taken none = rw none (append-nil (whole_lines taken))

pub nothing-kept : (kept part : List ℕ) → kept ≡ take 4097 part → length kept ≡ 0 → part ≡ []
nothing-kept kept part is none = nil_from_length part (omega (arith, ap length is, length-take 4097 part))

unended-some : (p : List ℕ) → 0 < length p → unended p ≡ (record { bytes = p; ended = false }) ∷ []
unended-some [] some = absurd (omega arith)
unended-some (b ∷ bs) some = refl

abbrev pub last_line : List ℕ → Line
last_line taken = record { bytes = last_part [] taken; ended = false }

with-last-line : (taken : List ℕ) → 0 < length (last_part [] taken) → lines_of taken ≡ whole_lines taken ++ last_line taken ∷ []
unfolding lines_of
with-last-line taken some = ap (λ l. whole_lines taken ++ l) (unended-some (last_part [] taken) some)

pub something-kept : (kept part : List ℕ) → kept ≡ take 4097 part → 0 < length kept → 0 < length part
something-kept kept part is some = omega (arith, ap length is, length-take 4097 part)

module _ {E : Type 0} (Stands : E → State → Type 0) where
  -- the sink failed as what waited was written
  broke-off : (tells : Bool) (first now : E) (old : Moment) (w1 w2 : Option (List ℕ)) (f : DeviceFacts) (n : ℕ) (waiting : List ℕ) (lines : List Line) (replies : List ReplyLine)
      → Moves Stands first now (Running tells lines) replies → Passes old.written w1 [] waiting (text_of replies)
      → Counted old.faults f replies → n ≤ old.said + length (text_of replies) → Breaks w1 w2 waiting [] → length waiting ≤ 49152
      → BreaksOff Stands first now old (moment w2 f n) [] (Halting tells lines)
  broke-off tells first now old w1 w2 f n waiting lines replies moves passes counted said broke few =
      breaks-between Stands first now old (moment w2 f n) [] tells lines replies moves
      (record { breaks = broke-all _ _ _ _ _ passes broke; counted = counted })
      (stops-later old (moment w1 f n) (moment w2 f n) [] waiting (text_of replies) passes said
      (stops-put w1 w2 f f n n waiting [] broke (omega arith) (omega (arith, few))))

  pub breaks-serves : (tells : Bool) (first now : E) (old : Moment) (w1 w2 : Option (List ℕ)) (f : DeviceFacts) (n : ℕ) (s : Session) (taken : List ℕ)
      → Serves Stands tells first now old (moment w1 f n) s taken → Breaks w1 w2 s.output.bytes.items [] → length s.output.bytes.items ≤ 49152
      → Halts Stands tells first now old (moment w2 f n) (whole_lines taken)
  breaks-serves tells first now old w1 w2 f n s taken serves broke few = record {
    front = whole_lines taken;
    later = [];
    parts = sym (append-nil (whole_lines taken));
    breaks =
        broke-off tells first now old w1 w2 f n s.output.bytes.items (whole_lines taken) serves.replies serves.moves serves.passes serves.counted serves.said
        broke few;
  }

  pub answers-serves : (tells : Bool) (first now : E) (old new : Moment) (s : Session) (taken : List ℕ) → Serves Stands tells first now old new s taken
      → last_part [] taken ≡ [] → AnswersLines Stands tells first now old new s.output (lines_of taken)
  answers-serves tells first now old new s taken serves none = record {
    replies = serves.replies;
    moves = rw (no-last-line taken none) serves.moves;
    passes = serves.passes;
    errors = serves.errors;
    counted = serves.counted;
    said = serves.said;
  }

  module _ (tells : Bool) (first now after : E) (old new later : Moment) (s : Session) (taken : List ℕ)
      (serves : Serves Stands tells first now old new s taken) (some : 0 < length (last_part [] taken)) where
    pub answers-last : (output : Output) → AnswersLine Stands tells now after new later s.output output (last_line taken)
        → AnswersLines Stands tells first after old later output (lines_of taken)
    answers-last output a = record {
      replies = serves.replies ++ a.replies;
      moves = rw (with-last-line taken some) (moves-lines Stands first now after tells (whole_lines taken) (last_line taken) serves.replies a.replies serves.moves a.moves);
      passes = rw (text_of-append serves.replies a.replies) (passes-then _ _ _ _ _ _ _ _ serves.passes a.told.passes);
      errors = a.told.errors ∙ ap (λ e. e || has_error a.replies) serves.errors ∙ sym (has_error-append serves.replies a.replies);
      counted = counted-then _ _ _ serves.replies a.replies serves.counted a.told.counted;
      said = said-then _ _ _ serves.replies a.replies serves.said a.told.said;
    }

    pub halts-last : BreaksOff Stands now after new later s.output.bytes.items (StoppingLine tells (last_line taken))
        → Halts Stands tells first after old later (lines_of taken)
    halts-last broke = record {
      front = lines_of taken;
      later = [];
      parts = sym (append-nil (lines_of taken));
      breaks =
          rw (with-last-line taken some)
          (breaks-lines Stands first now after old new later [] s.output.bytes.items tells (whole_lines taken) (last_line taken) serves.replies serves.moves serves.passes
          serves.counted serves.said broke);
    }

  all-answered : (tells : Bool) (first now : E) (old : Moment) (w1 w2 : Option (List ℕ)) (f : DeviceFacts) (n : ℕ) (output : Output) (lines : List Line) (errors : Bool)
      → AnswersLines Stands tells first now old (moment w1 f n) output lines → Passes w1 w2 output.bytes.items [] [] → output.errors ≡ errors
      → AllAnswered Stands tells first now old (moment w2 f n) lines errors
  all-answered tells first now old w1 w2 f n output lines errors a passes shown = record {
    replies = a.replies;
    moves = a.moves;
    text = written-all _ _ _ _ _ a.passes passes;
    counted = a.counted;
    shown = sym a.errors ∙ shown;
  }

  -- what waited was written at the end
  pub closes-answers : (tells : Bool) (first now : E) (old : Moment) (w1 w2 : Option (List ℕ)) (f : DeviceFacts) (n : ℕ) (output : Output) (lines : List Line) (s : Status)
      → AnswersLines Stands tells first now old (moment w1 f n) output lines → Finishes w1 w2 output s
      → Closes Stands tells first now old (moment w2 f n) lines s
  closes-answers tells first now old w1 w2 f n output lines status.Clean a (passes, shown) =
      all-answered tells first now old w1 w2 f n output lines false a passes shown
  closes-answers tells first now old w1 w2 f n output lines status.Errors a (passes, shown) =
      all-answered tells first now old w1 w2 f n output lines true a passes shown
  closes-answers tells first now old w1 w2 f n output lines status.SinkFault a (broke, few) = record {
    front = lines;
    later = [];
    parts = sym (append-nil lines);
    breaks = broke-off tells first now old w1 w2 f n output.bytes.items lines a.replies a.moves a.passes a.counted a.said broke few;
  }
  closes-answers tells first now old w1 w2 f n output lines status.Usage a never = absurd never
  closes-answers tells first now old w1 w2 f n output lines status.NoMemory a never = absurd never
  closes-answers tells first now old w1 w2 f n output lines status.SourceFault a never = absurd never
  closes-answers tells first now old w1 w2 f n output lines status.TooLong a never = absurd never
