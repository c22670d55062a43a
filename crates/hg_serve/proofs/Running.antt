-- turns that were given, and a line from its beginning and its turns
use Rattle.std.proofs.Common.{◌≡◌, Bool, true, false, List, [], ◌∷◌, ◌++◌, Option, None, Some, refl, sym, ap, ◌∙◌, subst, append-nil}
use Rattle.std.specs.Prelude.{if◌then◌else◌, is_some}
use Rattle.std.proofs.lemmas.Bool.{true≢false}
use Rattle.std.proofs.lemmas.Grind.{flat_map-append}
use Rattle.hg_machine.specs.Plain.Loose.{Loosely, with_any_rows, finds_damage, misses_doubles, without_uniques}
use Rattle.hg_machine.specs.Plain.Replies.{ReplyLine}
use Rattle.hg_machine.specs.Plain.Run.{Manner, GivesTurns, Finishes, RunsLine, Closes, nothing_at_work, work_ends, fetch_ends, select_ends, Continues, turn_given, last_turn_given, closing_line_said, lines_of_turns, is_pending, dropped}
use Rattle.hg_machine.specs.Plain.State.{State}
use Rattle.hg_model.specs.Script.{Line}
use Rattle.hg_reply.specs.Steps.{manner}
use Rattle.hg_serve.specs.Session.{StopsTurns, all_given, some_given, StopsLine, whole_line, in_its_turns, stopped}

-- ---- closings

-- where nothing is at work the closing says nothing, and behind a closing nothing is at work
pub record ClosesWell (m : Manner) : Type 0 where
  pub nothing : (s : State) → is_pending s ≡ false → m.closes s [] s
  pub rests : (old new : State) (lines : List ReplyLine) → m.closes old lines new → is_pending new ≡ false

pub none-left : {A : Type 0} (o : Option A) → is_some o ≡ false → o ≡ None
none-left None is = refl
none-left (Some x) is = absurd (true≢false is)

closes-nothing : (s : State) → is_pending s ≡ false → Closes s [] s
closes-nothing s idle = nothing_at_work (none-left s.task idle) refl refl

closes-rests : (old new : State) (lines : List ReplyLine) → Closes old lines new → is_pending new ≡ false
closes-rests old new lines (nothing_at_work none is same) = ap is_pending same ∙ ap is_some none
closes-rests old new lines (work_ends turns given at_work none is after) = ap is_pending after
closes-rests old new lines (fetch_ends name at_work none is after) = ap is_pending after
closes-rests old new lines (select_ends at_work none is after) = ap is_pending after

loosely-rests : (old new : State) (lines : List ReplyLine) → Loosely (λ s. ⊥) Closes old lines new → is_pending new ≡ false
loosely-rests old new lines (with_any_rows seen alike step) = closes-rests seen new lines step
loosely-rests old new lines (finds_damage seen file page check more looks alike step is) = absurd looks
loosely-rests old new lines (misses_doubles seen after alike step same is) =
    ap is_pending is ∙ closes-rests (without_uniques seen) after lines step

pub closes-well : (tells : Bool) → ClosesWell (manner tells)
closes-well true = record { nothing = closes-nothing; rests = closes-rests }
closes-well false = record { nothing = λ s idle. with_any_rows s refl (closes-nothing s idle); rests = loosely-rests }

-- ---- turns

-- the turns that were given so far, or all of them and the end
pub data SoFar (m : Manner) (old : State) (replies : List ReplyLine) (new : State) : Type 0 where
  goes_on : (turns : List (List ReplyLine)) → GivesTurns m old turns new → replies ≡ lines_of_turns turns → SoFar m old replies new
  at_end : Finishes m old replies new → is_pending new ≡ false → SoFar m old replies new

gives-push : (m : Manner) (old mid new : State) (turns : List (List ReplyLine)) (turn : List ReplyLine) → GivesTurns m old turns mid
    → m.turn mid turn new → GivesTurns m old (turns ++ turn ∷ []) new
unfolding GivesTurns
gives-push m old mid new [] turn is given = (new, subst (λ s. m.turn s turn new) is given, refl)
gives-push m old mid new (t ∷ ts) turn (between, first, others) given = (between, first, gives-push m between mid new ts turn others given)

lines-push : (turns : List (List ReplyLine)) (turn : List ReplyLine) → lines_of_turns (turns ++ turn ∷ []) ≡ lines_of_turns turns ++ turn
lines-push turns turn =
    flat_map-append (λ (t : List ReplyLine). t) turns (turn ∷ []) ∙ ap (λ l. lines_of_turns turns ++ l) (append-nil turn)

pub some-none : (m : Manner) (s : State) → SoFar m s [] s
unfolding GivesTurns
some-none m s = goes_on [] refl refl

module _ (m : Manner) (well : ClosesWell m) where
  pub some-push : (old mid new : State) (rs ss : List ReplyLine) → SoFar m old rs mid → is_pending mid ≡ true → Continues m mid ss new
      → SoFar m old (rs ++ ss) new
  some-push old mid new rs ss (at_end all rests) pends step = absurd (true≢false (sym pends ∙ rests))
  some-push old mid new rs ss (goes_on turns given is) pends (turn_given turn more) =
      goes_on (turns ++ ss ∷ []) (gives-push m old mid new turns ss given turn) (ap (λ l. l ++ ss) is ∙ sym (lines-push turns ss))
  some-push old mid new rs ss (goes_on turns given is) pends (last_turn_given between turn none close) =
      at_end (record {
        turns = turns ++ ss ∷ [];
        between = between;
        last = [];
        given = gives-push m old mid between turns ss given turn;
        close = close;
        joined = ap (λ l. l ++ ss) is ∙ sym (lines-push turns ss) ∙ sym (append-nil (lines_of_turns (turns ++ ss ∷ [])));
      })
      (well.rests between new [] close)
  some-push old mid new rs ss (goes_on turns given is) pends (closing_line_said none close) =
      at_end (record { turns = turns; between = mid; last = ss; given = given; close = close; joined = ap (λ l. l ++ ss) is })
      (well.rests mid new ss close)

  pub some-ends : (old now : State) (rs : List ReplyLine) → SoFar m old rs now → is_pending now ≡ false → Finishes m old rs now
  some-ends old now rs (at_end all rests) idle = all
  some-ends old now rs (goes_on turns given is) idle = record {
    turns = turns;
    between = now;
    last = [];
    given = given;
    close = well.nothing now idle;
    joined = is ∙ sym (append-nil (lines_of_turns turns));
  }

  stops-as : (old now : State) (rs : List ReplyLine) (p : Bool) → is_pending now ≡ p → SoFar m old rs now
      → StopsTurns m old rs (if p then dropped now else now)
  stops-as old now rs true pends (goes_on turns given is) = some_given turns now given is refl
  stops-as old now rs true pends (at_end all rests) = absurd (true≢false (sym pends ∙ rests))
  stops-as old now rs false idle so_far = all_given (some-ends old now rs so_far idle)

  pub some-stops : (old now : State) (rs : List ReplyLine) → SoFar m old rs now → StopsTurns m old rs (stopped now)
  some-stops old now rs so_far = stops-as old now rs (is_pending now) refl so_far

-- ---- lines

module _ (m : Manner) (old between new : State) (line : Line) (first others : List ReplyLine) (begins : m.begins old line first between) where
  pub runs-line : Finishes m between others new → RunsLine m old line (first ++ others) new
  runs-line finishes =
      record { between = between; first = first; others = others; begins = begins; finishes = finishes; joined = refl }

  pub stops-line : StopsTurns m between others new → StopsLine m line old (first ++ others) new
  stops-line (all_given finishes) = whole_line (runs-line finishes)
  stops-line (some_given turns now given is after) = in_its_turns first turns between now begins given (ap (λ l. first ++ l) is) after

pub stops-begun : (m : Manner) → ClosesWell m → (old between : State) (line : Line) (rs : List ReplyLine) → m.begins old line rs between
    → StopsLine m line old rs (stopped between)
stops-begun m well old between line rs begins =
    subst (λ l. StopsLine m line old l (stopped between)) (append-nil rs)
    (stops-line m old between (stopped between) line rs [] begins (some-stops m well between between [] (some-none m between)))
