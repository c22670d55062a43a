-- The rows that a cursor gives are an answer of what was left to it.
use Rattle.std.proofs.Common.{◌≡◌, ℕ, Bool, true, false, List, [], ◌∷◌, ◌++◌, Option, Some, None, refl, sym, ap, ◌∙◌, subst, append_assoc, append-nil, length, arith, ◌⊎◌, inl, inr, ◌||◌, if◌then◌else◌}
use Rattle.std.specs.List.{flat_map, list_any}
use Rattle.std.specs.List.Sorted.{IsPermutation}
use Rattle.std.proofs.lemmas.Bool.{false≢true, cases_Bool}
use Rattle.std.proofs.lemmas.List.Folds.{list_any-append}
use Rattle.std.proofs.lemmas.List.Sorted.{length_permutation}
use Rattle.std.proofs.lemmas.Grind.{flat_map-append}
use Rattle.hg_machine.proofs.Cursors.{named_set, named_set_itself, named_without, named_congr, same_symm, same_refl}
use Rattle.hg_machine.proofs.Owing.{one_name, closed_named}
use Rattle.hg_machine.proofs.Turns.{cursors_going_on}
use Rattle.hg_machine.specs.Plain.Licences.{Licensed, device_failed, main_is_full, temp_is_full, Asks}
use Rattle.hg_machine.specs.Plain.Limits.{ceiling}
use Rattle.hg_machine.specs.Plain.Refused.{too_many_line, limit_reached}
use Rattle.hg_model.specs.declared.trees.Count.TheVariants as count
use Rattle.hg_machine.specs.Plain.Owed.{row_under, rows_under, is_end_of, says_end, TurnsGiveAnswers, EndedTurnsGiveAnswers}
use Rattle.hg_machine.specs.Plain.Replies.{ReplyLine, CursorName, row, done, ended, closed}
use Rattle.hg_machine.specs.Plain.Rounds.{closes, one_less, wants_more}
use Rattle.hg_machine.specs.Plain.Run.{exactly, GivesTurns, lines_of_turns}
use Rattle.hg_machine.specs.Plain.State.{State, CursorState, same_cursor, cursor_named, cursor_set, without_cursor}
use Rattle.hg_machine.specs.Plain.Turn.{Turn, gives_row, ends, groups_too_many, reaches_limit, fails, HasTurn, goes_on, counted, done_line}
use Rattle.hg_model.specs.CommandNeeds.{PageNeed}
use Rattle.hg_model.specs.Order.{Pair, IsAnswer}
use Rattle.hg_model.specs.Statements.{CommandTree}
use Rattle.hg_model.specs.declared.values.Value.{Value}

same_some : {X : Type 0} (a b : X) → Some a ≡ Some b → a ≡ b
same_some a b e = cc

-- what a cursor is before a turn, of one that is open behind it: it was open, and what it gave is the front
-- of an answer
record CursorAnswers (name : CursorName) (old : State) (now : CursorState) (lines : List ReplyLine) : Type 0 where
  before : CursorState
  was : cursor_named old.cursors name ≡ Some before
  gives : (more : List (List Value)) → IsAnswer now.left more → IsAnswer before.left (rows_under name lines ++ more)
  empty : before.left ≡ [] → now.left ≡ []
  at_end : says_end name lines ≡ true → now.left ≡ []

no_end_row : (n name : CursorName) (values : List Value) (wanted : Option ℕ) → says_end n (row name values ∷ done_line name wanted) ≡ false
unfolding says_end
no_end_row n name values wanted = go (wants_more wanted) refl
  where
    go : (b : Bool) → wants_more wanted ≡ b → list_any (is_end_of n) (row name values ∷ done_line name wanted) ≡ false
    go true e = rw e refl
    go false e = rw e refl

no_end_licensed : (s : State) (asks : Asks) (need : PageNeed) (n name : CursorName) (line : ReplyLine) → Licensed s asks need line
    → says_end n (line ∷ closed name ∷ []) ≡ false
unfolding says_end
no_end_licensed s asks need n name line (device_failed f is) = rw is refl
no_end_licensed s asks need n name line (main_is_full asked over is) = rw is refl
no_end_licensed s asks need n name line (temp_is_full asked over is) = rw is refl

no_end_none : (n : CursorName) → says_end n [] ≡ false
unfolding says_end
no_end_none n = refl

end_of_ended : (n name : CursorName) → says_end n (ended name ∷ []) ≡ (same_cursor n name || false)
unfolding says_end
end_of_ended n name = refl

no_end_many : (n name : CursorName) → says_end n (too_many_line count.RowsGrouped ∷ closed name ∷ []) ≡ false
unfolding says_end
no_end_many n name = refl

no_end_limit : (n name : CursorName) (pages most : ℕ) → says_end n (limit_reached pages most ∷ closed name ∷ []) ≡ false
unfolding says_end
no_end_limit n name pages most = refl

no_rows_done : (n name : CursorName) (wanted : Option ℕ) → rows_under n (done_line name wanted) ≡ []
unfolding rows_under
no_rows_done n name wanted = go (wants_more wanted) refl
  where
    go : (b : Bool) → wants_more wanted ≡ b → flat_map (row_under n) (done_line name wanted) ≡ []
    go true e = rw e refl
    go false e = rw e refl

rows_of_row : (n name : CursorName) (values : List Value) (lines : List ReplyLine)
    → rows_under n (row name values ∷ lines) ≡ (if same_cursor n name then values ∷ [] else []) ++ rows_under n lines
unfolding rows_under
rows_of_row n name values lines = refl

no_rows_licensed : (s : State) (asks : Asks) (need : PageNeed) (n name : CursorName) (line : ReplyLine) → Licensed s asks need line
    → rows_under n (line ∷ closed name ∷ []) ≡ []
unfolding rows_under
no_rows_licensed s asks need n name line (device_failed f is) = rw is refl
no_rows_licensed s asks need n name line (main_is_full asked over is) = rw is refl
no_rows_licensed s asks need n name line (temp_is_full asked over is) = rw is refl

no_rows_none : (n : CursorName) → rows_under n [] ≡ []
unfolding rows_under
no_rows_none n = refl

no_rows_ended : (n name : CursorName) → rows_under n (ended name ∷ []) ≡ []
unfolding rows_under
no_rows_ended n name = refl

no_rows_many : (n name : CursorName) → rows_under n (too_many_line count.RowsGrouped ∷ closed name ∷ []) ≡ []
unfolding rows_under
no_rows_many n name = refl

no_rows_limit : (n name : CursorName) (pages most : ℕ) → rows_under n (limit_reached pages most ∷ closed name ∷ []) ≡ []
unfolding rows_under
no_rows_limit n name pages most = refl

none_given : (n : CursorName) (old : State) (now : CursorState) (lines : List ReplyLine) → cursor_named old.cursors n ≡ Some now → rows_under n lines ≡ []
    → says_end n lines ≡ false → CursorAnswers n old now lines
none_given n old now lines was none silent = record {
  before = now;
  was = was;
  gives = λ more answer. subst (λ l. IsAnswer now.left (l ++ more)) (sym none) answer;
  empty = λ e. e;
  at_end = λ yes. absurd (false≢true (sym silent ∙ yes));
}

-- the cursor with the turn is in another state
set_answers : (old new : State) (lines : List ReplyLine) (name : CursorName) (others : List CursorName) (c after : CursorState) → cursor_named old.cursors name ≡ Some c
    → after.name ≡ c.name → new ≡ counted (goes_on old name others after)
    → ((more : List (List Value)) → IsAnswer after.left more → IsAnswer c.left (rows_under name lines ++ more))
    → (c.left ≡ [] → after.left ≡ []) → (says_end name lines ≡ true → after.left ≡ [])
    → ((n : CursorName) → same_cursor n name ≡ false → rows_under n lines ≡ []) → ((n : CursorName) → same_cursor n name ≡ false → says_end n lines ≡ false)
    → (n : CursorName) (now : CursorState) → cursor_named new.cursors n ≡ Some now → CursorAnswers n old now lines
set_answers old new lines name others c after is same made its its_empty its_end quiet silent n now there = go (same_cursor name n) refl
  where
    cursors : cursor_named (cursor_set old.cursors name after) n ≡ Some now
    cursors = ap (λ cs. cursor_named cs n) (sym (ap (λ (s : State). s.cursors) made ∙ cursors_going_on old name others after)) ∙ there

    go : (b : Bool) → same_cursor name n ≡ b → CursorAnswers n old now lines
    go true e =
        let at : after ≡ now = same_some after now (sym (named_set_itself old.cursors name c after is same) ∙ (named_congr (cursor_set old.cursors name after) name n e ∙ cursors)) in
        let mine : CursorAnswers name old after lines = record { before = c; was = is; gives = its; empty = its_empty; at_end = its_end } in
        subst (λ (x : CursorState). CursorAnswers n old x lines) at (subst (λ (m : CursorName). CursorAnswers m old after lines) (one_name name n e) mine)
    go false e =
        none_given n old now lines (sym (named_set old.cursors name c after is same n e) ∙ cursors) (quiet n (same_symm n name ∙ e)) (silent n (same_symm n name ∙ e))

closing_answers : (old new : State) (lines : List ReplyLine) (name : CursorName) → new ≡ counted (closes old name)
    → ((n : CursorName) → rows_under n lines ≡ []) → ((n : CursorName) → says_end n lines ≡ false)
    → (n : CursorName) (now : CursorState) → cursor_named new.cursors n ≡ Some now → CursorAnswers n old now lines
closing_answers old new lines name made quiet silent n now there = go (same_cursor name n) refl
  where
    cursors : cursor_named (without_cursor old.cursors name) n ≡ Some now
    cursors = ap (λ cs. cursor_named cs n) (sym (ap (λ (s : State). s.cursors) made)) ∙ there

    go : (b : Bool) → same_cursor name n ≡ b → CursorAnswers n old now lines
    go true e = absurd (closed_named old.cursors name n now e cursors)
    go false e = none_given n old now lines (sym (named_without old.cursors name n e) ∙ cursors) (quiet n) (silent n)

none_taken : (bag : List Pair) (pair : Pair) (left : List Pair) → bag ≡ [] → IsPermutation bag (pair ∷ left) → ⊥
none_taken bag pair left none took = let n = length_permutation bag (pair ∷ left) took in let z = ap length none in omega arith

turn_answers : (old new : State) (lines : List ReplyLine) → Turn old lines new → (n : CursorName) (now : CursorState) → cursor_named new.cursors n ≡ Some now
    → CursorAnswers n old now lines
turn_answers old new lines (gives_row name c others pair left held has fine may took holds said is) =
    let rest = done_line name (one_less c.wanted) in
    let mine : rows_under name lines ≡ pair.row ∷ [] =
    ap (rows_under name) said ∙ rows_of_row name name pair.row rest
    ∙ ap (λ b. (if b then pair.row ∷ [] else []) ++ rows_under name rest) (same_refl name)
    ∙ ap (λ l. pair.row ∷ l) (no_rows_done name name (one_less c.wanted)) in
    set_answers old new lines name others c (record c { left = left; wanted = one_less c.wanted; held = held }) has.is_there refl is
    (λ more answer. subst (λ l. IsAnswer c.left (l ++ more)) (sym mine) (pair ∷ answer.0, (may, (left, took, answer.1)), ap (λ l. pair.row ∷ l) answer.2))
    (λ none. absurd (none_taken c.left pair left none took))
    (λ yes. absurd (false≢true (sym (ap (says_end name) said ∙ no_end_row name name pair.row (one_less c.wanted)) ∙ yes)))
    (λ n apart. ap (rows_under n) said ∙ rows_of_row n name pair.row rest
    ∙ ap (λ b. (if b then pair.row ∷ [] else []) ++ rows_under n rest) apart ∙ no_rows_done n name (one_less c.wanted))
    (λ n apart. ap (says_end n) said ∙ no_end_row n name pair.row (one_less c.wanted))
turn_answers old new lines (ends name c others held has fine none holds said is) =
    set_answers old new lines name others c (record c { wanted = Some 0; held = held }) has.is_there refl is
    (λ more answer. subst (λ l. IsAnswer c.left (l ++ more)) (sym (ap (rows_under name) said ∙ no_rows_ended name name)) answer)
    (λ e. e) (λ yes. none)
    (λ n apart. ap (rows_under n) said ∙ no_rows_ended n name)
    (λ n apart. ap (says_end n) said ∙ end_of_ended n name ∙ ap (λ b. b || false) apart)
turn_answers old new lines (groups_too_many name c others has many said is) =
    closing_answers old new lines name is (λ n. ap (rows_under n) said ∙ no_rows_many n name) (λ n. ap (says_end n) said ∙ no_end_many n name)
turn_answers old new lines (reaches_limit name c others held has above below need said is) =
    closing_answers old new lines name is (λ n. ap (rows_under n) said ∙ no_rows_limit n name held (ceiling old)) (λ n. ap (says_end n) said ∙ no_end_limit n name held (ceiling old))
turn_answers old new lines (fails name c others line has licensed said is) =
    closing_answers old new lines name is (λ n. ap (rows_under n) said ∙ no_rows_licensed old _ _ n name line licensed) (λ n. ap (says_end n) said ∙ no_end_licensed old _ _ n name line licensed)

rows_joined : (n : CursorName) (one : List ReplyLine) (others : List (List ReplyLine)) (more : List (List Value))
    → rows_under n (lines_of_turns (one ∷ others)) ++ more ≡ rows_under n one ++ (rows_under n (lines_of_turns others) ++ more)
unfolding rows_under
rows_joined n one others more =
    ap (λ l. l ++ more) (flat_map-append (row_under n) one (lines_of_turns others))
    ∙ append_assoc (flat_map (row_under n) one) (flat_map (row_under n) (lines_of_turns others)) more

end_first : (n : CursorName) (one : List ReplyLine) (others : List (List ReplyLine)) → says_end n (lines_of_turns others) ≡ false
    → says_end n (lines_of_turns (one ∷ others)) ≡ true → says_end n one ≡ true
unfolding says_end
end_first n one others never said =
    let parts = list_any-append (is_end_of n) one (lines_of_turns others) in
    sym (or_false (list_any (is_end_of n) one)) ∙ ap (λ b. list_any (is_end_of n) one || b) (sym never) ∙ sym parts ∙ said
  where
    or_false : (b : Bool) → (b || false) ≡ b
    or_false true = refl
    or_false false = refl

all_answers : (built : CommandTree → Bool) (old new : State) (turns : List (List ReplyLine)) → GivesTurns (exactly built) old turns new
    → (n : CursorName) (now : CursorState) → cursor_named new.cursors n ≡ Some now → CursorAnswers n old now (lines_of_turns turns)
unfolding GivesTurns
all_answers built old new [] given n now there = none_given n old now [] (ap (λ (s : State). cursor_named s.cursors n) (sym given) ∙ there) (no_rows_none n) (no_end_none n)
all_answers built old new (turn ∷ turns) given n now there =
    let rest = all_answers built given.0 new turns given.2 n now there in
    let first = turn_answers old given.0 turn given.1 n rest.before rest.was in
    record {
      before = first.before;
      was = first.was;
      gives = λ more answer.
          subst (IsAnswer first.before.left) (sym (rows_joined n turn turns more)) (first.gives (rows_under n (lines_of_turns turns) ++ more) (rest.gives more answer));
      empty = λ none. rest.empty (first.empty none);
      at_end = λ yes.
          elim (cases_Bool (says_end n (lines_of_turns turns))) [
            | inl later ↦ rest.at_end later
            | inr never ↦ rest.empty (first.at_end (end_first n turn turns never yes))
          ];
    }

pub turns_give_answers : TurnsGiveAnswers
turns_give_answers built old new turns given name before now was there more answer =
    let all = all_answers built old new turns given name now there in
    let same : all.before ≡ before = same_some all.before before (sym all.was ∙ was) in
    subst (λ (c : CursorState). IsAnswer c.left (rows_under name (lines_of_turns turns) ++ more)) same (all.gives more answer)

pub ended_turns_give_answers : EndedTurnsGiveAnswers
ended_turns_give_answers built old new turns given name before now was there said =
    let all = all_answers built old new turns given name now there in
    let same : all.before ≡ before = same_some all.before before (sym all.was ∙ was) in
    let none : now.left ≡ [] = all.at_end said in
    let answer : IsAnswer now.left [] = subst (λ l. IsAnswer l []) (sym none) ([], refl, refl) in
    subst (IsAnswer before.left) (append-nil (rows_under name (lines_of_turns turns)))
    (subst (λ (c : CursorState). IsAnswer c.left (rows_under name (lines_of_turns turns) ++ [])) same (all.gives [] answer))
