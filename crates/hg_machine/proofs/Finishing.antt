-- A command at work can always finish, and no device need fail for that.
use Rattle.std.proofs.Common.{◌≡◌, ℕ, suc, zero, ◌+◌, ◌<◌, ◌≤◌, Bool, true, false, List, [], ◌∷◌, ◌++◌, Option, Some, None, length, refl, sym, ap, ◌∙◌, subst, arith, inl, inr, ⊎_elim, ◌⊎◌, append_assoc, append-nil, ltb, get_or}
use Rattle.std.specs.List.{flat_map, All, Contains, AllByRecursion}
use Rattle.std.specs.List.Sorted.{IsPermutation}
use Rattle.std.proofs.lemmas.List.Concat.{flat_map-append}
use Rattle.std.proofs.lemmas.List.Elements.{All-nil, All-cons}
use Rattle.std.proofs.lemmas.List.Sorted.{IsPermutation-refl, IsPermutation-trans, IsPermutation-cons, IsPermutation-sym, IsPermutation-middle, All-permutation, Contains-permutation}
use Rattle.std.proofs.lemmas.Bool.{true≢false}
use Rattle.hg_base.specs.declared.File.{File}
use Rattle.hg_base.specs.declared.File.TheVariants as file
use Rattle.hg_model.proofs.KeyOrder.{pairs_ordered}
use Rattle.hg_model.specs.Order.{Pair, MayComeNext, stands_before}
use Rattle.hg_model.specs.Script.{Line}
use Rattle.hg_model.specs.Statements.{CommandTree}
use Rattle.hg_machine.proofs.LooseRuns.{turns_are_loose}
use Rattle.hg_machine.proofs.LooseSteady.{exact_steps_keep_steady, loose_steps_keep_steady, turns_keep, lines_keep}
use Rattle.hg_machine.proofs.Steady.{turn_steady}
use Rattle.hg_machine.proofs.Turns.{turns_end}
use Rattle.hg_machine.specs.Plain.Refused.{too_many_line}
use Rattle.hg_model.specs.declared.trees.Count.TheVariants as count
use Rattle.hg_machine.specs.Plain.Laws.{WantsRows, IsSteady, StepsKeepSteady, turns_left, NoFault, CanFinish, CanAlwaysFinish, GoesOn, StoppedRunsAreFronts, CanAlwaysFinishLoosely, LooseStoppedRunsAreFronts}
use Rattle.hg_machine.specs.Plain.Loose.{loosely, with_any_rows}
use Rattle.hg_machine.specs.Plain.Replies.{ReplyLine, CursorName, error, row, done, ended, closed, worked, code_lines, fault_lines, fault_code}
use Rattle.hg_machine.specs.Plain.Rounds.{wants_more, one_less, closes, has_turns, task_has_turns, has_someone, is_started}
use Rattle.hg_machine.specs.Plain.Run.{Manner, exactly, rests, Closes, nothing_at_work, work_ends, fetch_ends, select_ends, GivesTurns, lines_of_turns, Finishes, RunsLine, RunsLines, StopsIn, between_lines, in_a_line}
use Rattle.hg_machine.specs.Plain.State.{State, CursorState, Task, Works, Fetches, is_among, cursor_named}
use Rattle.hg_machine.specs.Plain.Turn.{Turn, gives_row, ends, groups_too_many, HasTurn, done_line, counted, goes_on}

-- ---- a pair that may come next

record LeastOf (left : List Pair) : Type 0 where
  pair : Pair
  rest : List Pair
  taken : IsPermutation left (pair ∷ rest)
  first : All (λ other. stands_before other pair ≡ false) left

self_not_before : (p : Pair) → stands_before p p ≡ false
self_not_before p = go (stands_before p p) refl
  where
    go : (b : Bool) → stands_before p p ≡ b → stands_before p p ≡ false
    go true e = pairs_ordered.one_way p p e
    go false e = e

swapped : (p q : Pair) (rest : List Pair) → IsPermutation (p ∷ q ∷ rest) (q ∷ p ∷ rest)
swapped p q rest = IsPermutation-middle (p ∷ []) q rest

least_of : (p : Pair) (ps : List Pair) → LeastOf (p ∷ ps)
least_of p [] = record {
  pair = p;
  rest = [];
  taken = IsPermutation-refl (p ∷ []);
  first = All-cons (λ other. stands_before other p ≡ false) p [] (self_not_before p) (All-nil (λ other. stands_before other p ≡ false));
}
least_of p (q ∷ ps) = go (least_of q ps)
  where
    choose : (l : LeastOf (q ∷ ps)) (b : Bool) → stands_before l.pair p ≡ b → LeastOf (p ∷ q ∷ ps)
    choose l true e = record {
      pair = l.pair;
      rest = p ∷ l.rest;
      taken = IsPermutation-trans (p ∷ q ∷ ps) (p ∷ l.pair ∷ l.rest) (l.pair ∷ p ∷ l.rest) (IsPermutation-cons p (q ∷ ps) (l.pair ∷ l.rest) l.taken) (swapped p l.pair l.rest);
      first = All-cons (λ other. stands_before other l.pair ≡ false) p (q ∷ ps) (pairs_ordered.one_way l.pair p e) l.first;
    }
    choose l false e = record {
      pair = p;
      rest = q ∷ ps;
      taken = IsPermutation-refl (p ∷ q ∷ ps);
      first = All-cons (λ other. stands_before other p ≡ false) p (q ∷ ps) (self_not_before p) (λ k d below. pairs_ordered.chain (get_or (q ∷ ps) k d) l.pair p (l.first k d below) e);
    }

    go : LeastOf (q ∷ ps) → LeastOf (p ∷ q ∷ ps)
    go l = choose l (stands_before l.pair p) refl

contains_first : (p : Pair) (ps : List Pair) → Contains (p ∷ ps) p
contains_first p ps = (0, omega arith, refl)

may_come : (left : List Pair) (l : LeastOf left) → MayComeNext l.pair left
may_come left l = record {
  is_left = Contains-permutation (l.pair ∷ l.rest) left l.pair (IsPermutation-sym left (l.pair ∷ l.rest) l.taken) (contains_first l.pair l.rest);
  first = l.first;
}

-- ---- a turn that no device spoils

record GivesSome (s : State) : Type 0 where
  lines : List ReplyLine
  next : State
  turn : Turn s lines next
  no_fault : NoFault lines

done_no_fault : (name : CursorName) (wanted : Option ℕ) → NoFault (done_line name wanted)
unfolding code_lines
done_no_fault name wanted f = go (wants_more wanted) refl
  where
    go : (b : Bool) → wants_more wanted ≡ b → fault_lines f (done_line name wanted) ≡ 0
    go true e = rw e refl
    go false e = rw e refl

row_no_fault : (name : CursorName) (c : CursorState) (p : Pair) → NoFault (row name p.row ∷ done_line name (one_less c.wanted))
unfolding code_lines
row_no_fault name c p f = omega (arith, done_no_fault name (one_less c.wanted) f)

end_no_fault : (name : CursorName) → NoFault (ended name ∷ [])
unfolding code_lines
end_no_fault name f = refl

many_no_fault : (name : CursorName) (words : List (List ℕ)) → NoFault (error 9 words ∷ closed name ∷ [])
unfolding code_lines
many_no_fault name words file.Main = refl
many_no_fault name words file.Temp = refl

turn_of : (s : State) (name : CursorName) (others : List CursorName) (c : CursorState) → HasTurn s name c others → GivesSome s
turn_of s name others c has = go c.is_too_many refl
  where
    rows : (left : List Pair) → c.left ≡ left → c.is_too_many ≡ false → GivesSome s
    rows [] none fine = record {
      lines = ended name ∷ [];
      next = counted (goes_on s name others (record c { wanted = Some 0; held = c.held }));
      turn = ends name c others c.held has fine none (inl (omega arith)) refl refl;
      no_fault = end_no_fault name;
    }
    rows (p ∷ ps) some fine =
        let l : LeastOf c.left = subst LeastOf (sym some) (least_of p ps) in
        record {
          lines = row name l.pair.row ∷ done_line name (one_less c.wanted);
          next = counted (goes_on s name others (record c { left = l.rest; wanted = one_less c.wanted; held = c.held }));
          turn = gives_row name c others l.pair l.rest c.held has fine (may_come c.left l) l.taken (inl (omega arith)) refl refl;
          no_fault = row_no_fault name c l.pair;
        }

    go : (b : Bool) → c.is_too_many ≡ b → GivesSome s
    go true e = record {
      lines = too_many_line count.RowsGrouped ∷ closed name ∷ [];
      next = counted (closes s name);
      turn = groups_too_many name c others has e refl refl;
      no_fault = many_no_fault name _;
    }
    go false e = rows c.left refl e

-- ---- whoever has turns to give has somebody in the round

no_turns : (s : State) → s.round ≡ [] → s.waiting ≡ [] → (t : Option Task) → task_has_turns s t ≡ false
no_turns s none idle None = refl
no_turns s none idle (Some (Works n k)) = go (ltb k n) refl
  where
    go : (b : Bool) → ltb k n ≡ b → task_has_turns s (Some (Works n k)) ≡ false
    go true f = rw (f, none) refl
    go false f = rw f refl
no_turns s none idle (Some (Fetches name)) = rw (none, idle) refl

somebody : (s : State) → IsSteady s → has_turns s ≡ true → (name : CursorName) × (others : List CursorName) × (s.round ≡ name ∷ others)
somebody s steady turns = go s.round refl
  where
    go : (round : List CursorName) → s.round ≡ round → (name : CursorName) × (others : List CursorName) × (s.round ≡ name ∷ others)
    go [] none =
        absurd (⊎_elim (λ idle. true≢false (sym turns ∙ no_turns s none idle s.task)) (λ many. absurd (omega (arith, ap length none, steady.some_may))) steady.full)
    go (name ∷ others) is = (name, others, is)

next_turn : (s : State) → IsSteady s → has_turns s ≡ true → GivesSome s
next_turn s steady turns =
    let front = somebody s steady turns in
    let wants : AllByRecursion (WantsRows s.cursors) (front.0 ∷ front.1) = subst (AllByRecursion (WantsRows s.cursors)) front.2 steady.round in
    let w : WantsRows s.cursors front.0 = wants.0 in
    turn_of s front.0 front.1 w.cursor (record { turns = turns; front = front.2; is_there = w.is_there; wants = w.wants })

-- ---- turns until none is left

code_lines_append : (code : ℕ) (a b : List ReplyLine) → code_lines code (a ++ b) ≡ code_lines code a + code_lines code b
unfolding code_lines
code_lines_append code [] b = omega arith
code_lines_append code (line ∷ a) b = omega (arith, code_lines_append code a b)

no_fault_append : (a b : List ReplyLine) → NoFault a → NoFault b → NoFault (a ++ b)
no_fault_append a b none_a none_b f = omega (arith, code_lines_append (fault_code f) a b, none_a f, none_b f)

nothing_no_fault : NoFault []
unfolding code_lines
nothing_no_fault f = refl

record AllTurns (m : Manner) (s : State) : Type 0 where
  turns : List (List ReplyLine)
  over : State
  given : GivesTurns m s turns over
  none_left : has_turns over ≡ false
  no_fault : NoFault (lines_of_turns turns)

one_turn_more : (built : CommandTree → Bool) (s : State) (t : GivesSome s) → AllTurns (exactly built) t.next → AllTurns (exactly built) s
unfolding GivesTurns
one_turn_more built s t all = record {
  turns = t.lines ∷ all.turns;
  over = all.over;
  given = (t.next, t.turn, all.given);
  none_left = all.none_left;
  no_fault = no_fault_append t.lines (lines_of_turns all.turns) t.no_fault all.no_fault;
}

no_turn_more : (built : CommandTree → Bool) (s : State) → has_turns s ≡ false → AllTurns (exactly built) s
unfolding GivesTurns
no_turn_more built s none = record { turns = []; over = s; given = refl; none_left = none; no_fault = nothing_no_fault }

all_turns : (built : CommandTree → Bool) (most : ℕ) (s : State) → IsSteady s → turns_left s < most → AllTurns (exactly built) s
all_turns built zero s steady few = absurd (omega arith)
all_turns built (suc most) s steady few = go (has_turns s) refl (λ next next_steady less. all_turns built most next next_steady less)
  where
    go : (b : Bool) → has_turns s ≡ b → ((next : State) → IsSteady next → turns_left next < most → AllTurns (exactly built) next) → AllTurns (exactly built) s
    go true e others =
        let t : GivesSome s = next_turn s steady e in
        let less : turns_left t.next < turns_left s = turns_end s t.next t.lines t.turn in
        one_turn_more built s t (others t.next (turn_steady s t.next t.lines t.turn steady) (omega arith))
    go false e others = no_turn_more built s e

-- ---- the closing

record ClosesSome (s : State) : Type 0 where
  lines : List ReplyLine
  last : State
  closing : Closes s lines last
  no_fault : NoFault lines

worked_no_fault : (n : ℕ) → NoFault (worked n ∷ [])
unfolding code_lines
worked_no_fault n f = refl

closing_of : (s : State) → has_turns s ≡ false → ClosesSome s
closing_of s none = go s.task refl
  where
    go : (t : Option Task) → s.task ≡ t → ClosesSome s
    go None e = record { lines = []; last = s; closing = nothing_at_work e refl refl; no_fault = nothing_no_fault }
    go (Some (Works n k)) e = record { lines = worked k ∷ []; last = rests s; closing = work_ends n k e none refl refl; no_fault = worked_no_fault k }
    go (Some (Fetches (Some name))) e = record { lines = []; last = rests s; closing = fetch_ends name e none refl refl; no_fault = nothing_no_fault }
    go (Some (Fetches None)) e = record { lines = []; last = rests (closes s None); closing = select_ends e none refl refl; no_fault = nothing_no_fault }

finishing : (built : CommandTree → Bool) (s : State) → IsSteady s → CanFinish (exactly built) s
finishing built s steady =
    let all : AllTurns (exactly built) s = all_turns built (suc (turns_left s)) s steady (omega arith) in
    let end : ClosesSome all.over = closing_of all.over all.none_left in
    record {
      lines = lines_of_turns all.turns ++ end.lines;
      last = end.last;
      finishes = record { turns = all.turns; between = all.over; last = end.lines; given = all.given; close = end.closing; joined = refl };
      no_fault = no_fault_append (lines_of_turns all.turns) end.lines all.no_fault end.no_fault;
    }

pub can_always_finish : CanAlwaysFinish
can_always_finish = finishing

-- ---- a run that stops in the midst of a line is the front of a whole run

turns_append : (m : Manner) (old between new : State) (first others : List (List ReplyLine)) → GivesTurns m old first between → GivesTurns m between others new
    → GivesTurns m old (first ++ others) new
unfolding GivesTurns
turns_append m old between new [] others a b = subst (λ (s : State). GivesTurns m s others new) a b
turns_append m old between new (turn ∷ first) others a b = (a.0, a.1, turns_append m a.0 between new first others a.2 b)

lines_append : (m : Manner) (old between new : State) (front back : List Line) (first others : List ReplyLine) → RunsLines m old front first between
    → RunsLines m between back others new → RunsLines m old (front ++ back) (first ++ others) new
unfolding RunsLines
lines_append m old between new [] back first others a b =
    subst (λ (s : State). RunsLines m s back (first ++ others) new) a.1 (subst (λ (l : List ReplyLine). RunsLines m between back (l ++ others) new) (sym a.0) b)
lines_append m old between new (line ∷ front) back first others a b =
    (a.0, a.1 ++ others, a.2, a.3, lines_append m a.2 between new front back a.1 others a.4 b, ap (λ l. l ++ others) a.5 ∙ append_assoc a.0 a.1 others)

one_line : (m : Manner) (old new : State) (line : Line) (lines : List ReplyLine) → RunsLine m old line lines new → RunsLines m old (line ∷ []) lines new
unfolding RunsLines
one_line m old new line lines runs = (lines, [], new, runs, (refl, refl), sym (append-nil lines))

-- a manner whose steps keep what every state of a run is like, and in which a command at work can finish
record AlwaysFinishes (m : Manner) : Type 0 where
  keeps : StepsKeepSteady m
  can : (s : State) → IsSteady s → CanFinish m s

goes_on_in : (m : Manner) → AlwaysFinishes m → (old ready at_work now : State) (before : List Line) (line : Line) (first begun : List ReplyLine) (turns : List (List ReplyLine))
    → RunsLines m old before first ready → m.begins ready line begun at_work → GivesTurns m at_work turns now
    → IsSteady old → GoesOn m old (before ++ line ∷ []) (first ++ (begun ++ lines_of_turns turns))
goes_on_in m always old ready at_work now before line first begun turns runs begins given steady =
    let steady_ready : IsSteady ready = lines_keep m always.keeps old ready before first runs steady in
    let steady_at_work : IsSteady at_work = always.keeps.begins ready at_work line begun begins steady_ready in
    let steady_now : IsSteady now = turns_keep m always.keeps at_work now turns given steady_at_work in
    let end : CanFinish m now = always.can now steady_now in
    let f = end.finishes in
    let whole : Finishes m at_work (lines_of_turns turns ++ end.lines) end.last = record {
      turns = turns ++ f.turns;
      between = f.between;
      last = f.last;
      given = turns_append m at_work now f.between turns f.turns given f.given;
      close = f.close;
      joined = ap (λ l. lines_of_turns turns ++ l) f.joined ∙ (sym (append_assoc (lines_of_turns turns) (lines_of_turns f.turns) f.last)
          ∙ ap (λ l. l ++ f.last) (sym (flat_map-append (λ (ls : List ReplyLine). ls) turns f.turns)));
    } in
    let run_line : RunsLine m ready line (begun ++ (lines_of_turns turns ++ end.lines)) end.last = record {
      between = at_work;
      first = begun;
      others = lines_of_turns turns ++ end.lines;
      begins = begins;
      finishes = whole;
      joined = refl;
    } in
    let all = lines_append m old ready end.last before (line ∷ []) first (begun ++ (lines_of_turns turns ++ end.lines)) runs
    (one_line m ready end.last line (begun ++ (lines_of_turns turns ++ end.lines)) run_line) in
    record {
      more = end.lines;
      last = end.last;
      no_fault = end.no_fault;
      runs = subst (λ (l : List ReplyLine). RunsLines m old (before ++ line ∷ []) l end.last)
          (ap (λ l. first ++ l) (sym (append_assoc begun (lines_of_turns turns) end.lines)) ∙ sym (append_assoc first (begun ++ lines_of_turns turns) end.lines)) all;
    }

stopped : (m : Manner) → AlwaysFinishes m → (old new : State) (script : List Line) (lines : List ReplyLine) → StopsIn m old script lines new → IsSteady old
    → GoesOn m old script lines
stopped m always old new script lines (between_lines runs) steady =
    record { more = []; last = new; runs = subst (λ (l : List ReplyLine). RunsLines m old script l new) (sym (append-nil lines)) runs; no_fault = nothing_no_fault }
stopped m always old new script lines (in_a_line before line first begun turns ready at_work now cut runs begins given said is) steady =
    let on : GoesOn m old (before ++ line ∷ []) (first ++ (begun ++ lines_of_turns turns)) =
    goes_on_in m always old ready at_work now before line first begun turns runs begins given steady in
    subst (λ (l : List Line). GoesOn m old l lines) (sym cut)
    (subst (λ (l : List ReplyLine). GoesOn m old (before ++ line ∷ []) l) (sym said) on)

pub stopped_runs_are_fronts : StoppedRunsAreFronts
stopped_runs_are_fronts built = stopped (exactly built) (record { keeps = exact_steps_keep_steady built; can = finishing built })

-- over devices that do not tell, the machine's own steps are among those that may come

finishing_loosely : (built : CommandTree → Bool) (s : State) → IsSteady s → CanFinish (loosely (exactly built)) s
finishing_loosely built s steady =
    let end : CanFinish (exactly built) s = finishing built s steady in
    let f = end.finishes in
    record {
      lines = end.lines;
      last = end.last;
      finishes = record {
        turns = f.turns;
        between = f.between;
        last = f.last;
        given = turns_are_loose (exactly built) s f.between f.turns f.given;
        close = with_any_rows f.between refl f.close;
        joined = f.joined;
      };
      no_fault = end.no_fault;
    }

pub can_always_finish_loosely : CanAlwaysFinishLoosely
can_always_finish_loosely = finishing_loosely

pub loose_stopped_runs_are_fronts : LooseStoppedRunsAreFronts
loose_stopped_runs_are_fronts built =
    stopped (loosely (exactly built)) (record { keeps = loose_steps_keep_steady built; can = finishing_loosely built })
