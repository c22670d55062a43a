-- how the lines of a script grow by a byte
use Rattle.std.proofs.Common.{◌≡◌, ℕ, true, false, List, [], ◌∷◌, ◌++◌, ◌==◌, if◌then◌else◌, refl, sym, ap, ◌∙◌, append_assoc, append-nil, subst}
use Rattle.hg_machine.specs.Plain.Replies.{ReplyLine}
use Rattle.hg_machine.specs.Plain.Run.{Manner, RunsLine, RunsLines, StopsIn, between_lines, in_a_line}
use Rattle.hg_machine.specs.Plain.State.{State}
use Rattle.hg_model.specs.Script.{Line, ended_lines, last_part, whole_lines}
use Rattle.hg_serve.specs.Session.{StopsLine, whole_line, in_its_turns}

pub ended_lines-append : (part a b : List ℕ) → ended_lines part (a ++ b) ≡ ended_lines part a ++ ended_lines (last_part part a) b
unfolding ended_lines last_part
ended_lines-append part [] b = refl
ended_lines-append part (x ∷ xs) b =
    let line : Line = record { bytes = part; ended = true } in
    elim (x == 10) as
    (λ t. (if t then line ∷ ended_lines [] (xs ++ b) else ended_lines (part ++ x ∷ []) (xs ++ b))
    ≡ (if t then line ∷ ended_lines [] xs else ended_lines (part ++ x ∷ []) xs)
    ++ ended_lines (if t then last_part [] xs else last_part (part ++ x ∷ []) xs) b)
    [ true ↦ ap (λ l. line ∷ l) (ended_lines-append [] xs b) | false ↦ ended_lines-append (part ++ x ∷ []) xs b ]

pub last_part-append : (part a b : List ℕ) → last_part part (a ++ b) ≡ last_part (last_part part a) b
unfolding last_part
last_part-append part [] b = refl
last_part-append part (x ∷ xs) b =
    elim (x == 10) as
    (λ t. (if t then last_part [] (xs ++ b) else last_part (part ++ x ∷ []) (xs ++ b))
    ≡ last_part (if t then last_part [] xs else last_part (part ++ x ∷ []) xs) b)
    [ true ↦ last_part-append [] xs b | false ↦ last_part-append (part ++ x ∷ []) xs b ]

pub whole_lines-append : (a b : List ℕ) → whole_lines (a ++ b) ≡ whole_lines a ++ ended_lines (last_part [] a) b
unfolding whole_lines
whole_lines-append a b = ended_lines-append [] a b

-- a line feed ends a line
pub whole_lines-feed : (taken : List ℕ) (b : ℕ) → b ≡ 10
    → whole_lines (taken ++ b ∷ []) ≡ whole_lines taken ++ (record { bytes = last_part [] taken; ended = true }) ∷ []
unfolding ended_lines
whole_lines-feed taken b is = rw (whole_lines-append, is)

pub last_part-feed : (taken : List ℕ) (b : ℕ) → b ≡ 10 → last_part [] (taken ++ b ∷ []) ≡ []
unfolding last_part
last_part-feed taken b is = rw (last_part-append, is)

pub runs-push : (m : Manner) (old mid new : State) (lines : List Line) (line : Line) (rs ss : List ReplyLine) → RunsLines m old lines rs mid
    → RunsLine m mid line ss new → RunsLines m old (lines ++ line ∷ []) (rs ++ ss) new
unfolding RunsLines
runs-push m old mid new [] line rs ss (none, is) run =
    (ss, [], new, subst (λ s. RunsLine m s line ss new) is run, (refl, refl), ap (λ l. l ++ ss) none ∙ sym (append-nil ss))
runs-push m old mid new (l ∷ ls) line rs ss (first, others, between, runs, more, joined) run = (
  first,
  others ++ ss,
  between,
  runs,
  runs-push m between mid new ls line others ss more run,
  ap (λ r. r ++ ss) joined ∙ append_assoc first others ss,
)

-- it stops in the last line
pub stops-push : (m : Manner) (old mid new : State) (lines : List Line) (line : Line) (rs ss : List ReplyLine) → RunsLines m old lines rs mid
    → StopsLine m line mid ss new → StopsIn m old (lines ++ line ∷ []) (rs ++ ss) new
stops-push m old mid new lines line rs ss runs (whole_line run) = between_lines (runs-push m old mid new lines line rs ss runs run)
stops-push m old mid new lines line rs ss runs (in_its_turns begun turns at_work now begins given is after) =
    in_a_line lines line rs begun turns mid at_work now refl runs begins given (ap (λ l. rs ++ l) is) after

pub whole_lines-nil : whole_lines [] ≡ []
unfolding whole_lines ended_lines
whole_lines-nil = refl

pub last_part-nil : last_part [] [] ≡ []
unfolding last_part
last_part-nil = refl

pub runs-none : (m : Manner) (old : State) → RunsLines m old [] [] old
unfolding RunsLines
runs-none m old = (refl, refl)
