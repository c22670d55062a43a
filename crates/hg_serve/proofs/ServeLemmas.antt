-- how a session goes on by a line
use Rattle.std.proofs.Common.{◌≡◌, ℕ, Bool, true, false, List, [], ◌∷◌, ◌++◌, ◌||◌, Option, sym, ap, ◌∙◌, subst, arith, append_assoc, append-nil}
use Rattle.hg_model.specs.Script.{Line, ended_lines, last_part, whole_lines}
use Rattle.hg_machine.specs.Plain.State.{State}
use Rattle.hg_machine.specs.Plain.Replies.{text_of, has_error}
use Rattle.hg_reply.specs.Steps.{DeviceFacts}
use Rattle.hg_serve.specs.declared.session.Session.{Session}
use Rattle.hg_serve.specs.Output.{Moment, moment, Passes}
use Rattle.hg_serve.specs.Session.{AnswersLine, StoppingLine, BreaksOff}
use Rattle.hg_serve.specs.Serving.{Serves, Halts, Closes}
use Rattle.hg_serve.specs.declared.statuses.Status.{Status}
use Rattle.hg_serve.proofs.Telling.{passes-then, said-then, text_of-append, has_error-append, text_of-nil, has_error-nil, passes-none, counted-none, counted-then}
use Rattle.hg_serve.proofs.Breaking.{breaks-lines}
use Rattle.hg_serve.proofs.Moving.{moves-lines, moves-no_line}
use Rattle.hg_serve.proofs.Scripts.{whole_lines-append, whole_lines-feed, last_part-feed, whole_lines-nil, last_part-nil}

module _ {E : Type 0} (Stands : E → State → Type 0) where
  module _ (tells : Bool) (first now after : E) (old new later : Moment) (s t : Session) (taken : List ℕ) (b : ℕ)
      (serves : Serves Stands tells first now old new s taken) (feed : b ≡ 10) where
    pub serves-line : AnswersLine Stands tells now after new later s.output t.output (record { bytes = last_part [] taken; ended = true })
        → t.line.items ≡ [] → Serves Stands tells first after old later t (taken ++ b ∷ [])
    serves-line a empty = record {
      replies = serves.replies ++ a.replies;
      moves = rw (whole_lines-feed taken b feed) (moves-lines Stands first now after tells (whole_lines taken) (record { bytes = last_part [] taken; ended = true }) serves.replies a.replies serves.moves a.moves);
      passes = rw (text_of-append serves.replies a.replies) (passes-then _ _ _ _ _ _ _ _ serves.passes a.told.passes);
      errors = a.told.errors ∙ ap (λ e. e || has_error a.replies) serves.errors ∙ sym (has_error-append serves.replies a.replies);
      counted = counted-then _ _ _ serves.replies a.replies serves.counted a.told.counted;
      said = said-then _ _ _ serves.replies a.replies serves.said a.told.said;
      part = empty ∙ rw (last_part-feed taken b feed);
    }

    pub halts-line : BreaksOff Stands now after new later s.output.bytes.items (StoppingLine tells (record { bytes = last_part [] taken; ended = true }))
        → Halts Stands tells first after old later (whole_lines (taken ++ b ∷ []))
    halts-line broke = record {
      front = whole_lines (taken ++ b ∷ []);
      later = [];
      parts = sym (append-nil (whole_lines (taken ++ b ∷ [])));
      breaks =
          rw (whole_lines-feed taken b feed)
          (breaks-lines Stands first now after old new later [] s.output.bytes.items tells (whole_lines taken) (record { bytes = last_part [] taken; ended = true }) serves.replies
          serves.moves serves.passes serves.counted serves.said broke);
    }

  pub serves-start : (tells : Bool) (e : E) (w : Moment) (s : Session) → s.output.bytes.items ≡ [] → s.output.errors ≡ false
      → s.line.items ≡ [] → Serves Stands tells e e w w s []
  serves-start tells e w s bytes errors line = record {
    replies = [];
    moves = rw whole_lines-nil (moves-no_line Stands e tells);
    passes = rw (text_of-nil, bytes) (passes-none w.written []);
    errors = errors ∙ sym has_error-nil;
    counted = counted-none w.faults;
    said = omega arith;
    part = line ∙ rw last_part-nil;
  }

  pub serves-flushed : (tells : Bool) (first now : E) (old : Moment) (w1 w2 : Option (List ℕ)) (f : DeviceFacts) (n : ℕ) (s t : Session) (taken : List ℕ)
      → Serves Stands tells first now old (moment w1 f n) s taken
      → t.line ≡ s.line → Passes w1 w2 s.output.bytes.items [] [] → t.output.bytes.items ≡ []
      → t.output.errors ≡ s.output.errors → Serves Stands tells first now old (moment w2 f n) t taken
  serves-flushed tells first now old w1 w2 f n s t taken serves line passes empty errors = record {
    replies = serves.replies;
    moves = serves.moves;
    passes =
        rw empty
        (subst (λ l. Passes old.written w2 [] [] l) (append-nil (text_of serves.replies))
        (passes-then old.written w1 w2 [] s.output.bytes.items [] (text_of serves.replies) [] serves.passes passes));
    errors = errors ∙ serves.errors;
    counted = serves.counted;
    said = serves.said;
    part = rw line serves.part;
  }

  pub halts-later : (tells : Bool) (first now : E) (old new : Moment) (taken more : List ℕ) → Halts Stands tells first now old new (whole_lines taken)
      → Halts Stands tells first now old new (whole_lines (taken ++ more))
  halts-later tells first now old new taken more h = record {
    front = h.front;
    later = h.later ++ ended_lines (last_part [] taken) more;
    parts =
        whole_lines-append taken more ∙ ap (λ l. l ++ ended_lines (last_part [] taken) more) h.parts
        ∙ append_assoc h.front h.later (ended_lines (last_part [] taken) more);
    breaks = h.breaks;
  }

module _ {E : Type 0} (Stands : E → State → Type 0) (tells : Bool) (first now : E) (old new : Moment) where
  pub serves-as : (s : Session) (taken taken' : List ℕ) → taken ≡ taken' → Serves Stands tells first now old new s taken
      → Serves Stands tells first now old new s taken'
  serves-as s taken taken' is serves = subst (λ l. Serves Stands tells first now old new s l) is serves

  pub halts-as : (taken taken' : List ℕ) → taken ≡ taken' → Halts Stands tells first now old new (whole_lines taken)
      → Halts Stands tells first now old new (whole_lines taken')
  halts-as taken taken' is halts = subst (λ l. Halts Stands tells first now old new (whole_lines l)) is halts

-- what is told stays as it is
module _ {E : Type 0} (Stands : E → State → Type 0) (t u : Bool) (same : t ≡ u) where
  pub serves-by : (first now : E) (old new : Moment) (s : Session) (taken : List ℕ) → Serves Stands t first now old new s taken
      → Serves Stands u first now old new s taken
  serves-by first now old new s taken serves = subst (λ b. Serves Stands b first now old new s taken) same serves

  pub halts-by : (first now : E) (old new : Moment) (lines : List Line) → Halts Stands t first now old new lines
      → Halts Stands u first now old new lines
  halts-by first now old new lines halts = subst (λ b. Halts Stands b first now old new lines) same halts

  pub closes-by : (first now : E) (old new : Moment) (lines : List Line) (s : Status) → Closes Stands t first now old new lines s
      → Closes Stands u first now old new lines s
  closes-by first now old new lines s closes = subst (λ b. Closes Stands b first now old new lines s) same closes
