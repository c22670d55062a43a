-- Between two lines no command is at work, and every open cursor has a name.
use Rattle.std.proofs.Common.{◌≡◌, ℕ, Bool, true, false, List, [], ◌∷◌, ◌++◌, Option, Some, None, length, refl, sym, ap, ◌∙◌, subst, arith, inl, inr, ⊎_elim, ◌⊎◌, ltb}
use Rattle.std.proofs.lemmas.Bool.{true≢false}
use Rattle.hg_machine.proofs.Cursors.{named_set, named_without}
use Rattle.hg_machine.proofs.Turns.{cursors_going_on}
use Rattle.hg_machine.specs.Plain.Begin.{BeginsCommand, BeginsLine, is_blank, is_too_long, is_no_command, has_bad_number, has_too_many, is_not_built, asks}
use Rattle.hg_machine.specs.Plain.Changes.{OneChange, ChangesRows, refused_before, made as rows_made, refused as rows_refused, failed as rows_failed}
use Rattle.hg_machine.specs.Plain.Close.{ClosesCursor, unknown, made as closed_made}
use Rattle.hg_machine.specs.Plain.CreateIndex.{CreatesIndex, refused as index_refused, made as index_made, failed as index_failed}
use Rattle.hg_machine.specs.Plain.CreateTable.{CreatesTable, refused as table_refused, made as table_made, failed as table_failed}
use Rattle.hg_machine.specs.Plain.Delete.{deletion}
use Rattle.hg_machine.specs.Plain.Fetch.{BeginsFetch, refused as fetch_refused, begun as fetch_begun}
use Rattle.hg_machine.specs.Plain.Insert.{insertion}
use Rattle.hg_machine.specs.Plain.Laws.{IsBetweenLines, LinesEndAtRest}
use Rattle.hg_machine.specs.Plain.Licences.{Allowance, Spends}
use Rattle.hg_machine.specs.Plain.Open.{Opens, taken, no_more as open_no_more, refused as open_refused, made as open_made}
use Rattle.hg_machine.specs.Plain.Pool.{SetsPool, made as pool_made, failed as pool_failed}
use Rattle.hg_machine.specs.Plain.Replies.{ReplyLine, CursorName}
use Rattle.hg_machine.specs.Plain.Rounds.{starts, closes, wants_more, one_less}
use Rattle.hg_machine.specs.Plain.Run.{exactly, Closes, nothing_at_work, work_ends, fetch_ends, select_ends, GivesTurns, RunsLine, RunsLines}
use Rattle.hg_machine.specs.Plain.Select.{Selects, no_more as select_no_more, refused as select_refused, begun as select_begun}
use Rattle.hg_machine.specs.Plain.Start.{Starts, refused as start_refused, made as start_made}
use Rattle.hg_machine.specs.Plain.State.{State, CursorState, Task, Works, Fetches, same_cursor, cursor_named, cursor_set, without_cursor}
use Rattle.hg_machine.specs.Plain.Turn.{Turn, gives_row, ends, groups_too_many, reaches_limit, fails, HasTurn, goes_on, counted, one_more}
use Rattle.hg_machine.specs.Plain.Update.{updating}
use Rattle.hg_machine.specs.Plain.Vacuum.{Vacuums, refused as vacuum_refused, made as vacuum_made, failed as vacuum_failed}
use Rattle.hg_model.specs.Script.{Line}
use Rattle.hg_model.specs.Statements.{CommandTree, CreateTable, CreateIndex, InsertRows, UpdateRows, DeleteRows, Vacuum, SelectRows, OpenCursor, Start, Work, Fetch, Close, Pool, Mpl, ShowMemory}

abbrev AllNamed : List CursorState → Type 0
AllNamed cursors = cursor_named cursors None ≡ None

-- every open cursor has a name, or a SELECT is at work
abbrev AtMostSelect : State → Type 0
AtMostSelect s = AllNamed s.cursors ⊎ (s.task ≡ Some (Fetches None))

none_is_not_some : {X : Type 0} (x : X) → None ≡ Some x → ⊥
none_is_not_some x e = cc

kept : (old new : State) → new.cursors ≡ old.cursors → AllNamed old.cursors → AtMostSelect new
kept old new same named = inl (subst AllNamed (sym same) named)

named_more_open : (cursors : List CursorState) (c : CursorState) (name : List ℕ) → c.name ≡ Some name → AllNamed cursors → AllNamed (cursors ++ c ∷ [])
named_more_open [] c name is named = rw is refl
named_more_open (x ∷ cs) c name is named = go (same_cursor None x.name) refl (λ later. named_more_open cs c name is later)
  where
    go : (b : Bool) → same_cursor None x.name ≡ b → (AllNamed cs → AllNamed (cs ++ c ∷ [])) → AllNamed ((x ∷ cs) ++ c ∷ [])
    go true e f = absurd (none_is_not_some x (sym named ∙ rw e refl))
    go false e f = let later : AllNamed cs = sym (rw e refl) ∙ named in rw e (f later)

none_named_left : (cursors : List CursorState) → AllNamed (without_cursor cursors None)
none_named_left [] = refl
none_named_left (x ∷ cs) = go (same_cursor None x.name) refl (none_named_left cs)
  where
    go : (b : Bool) → same_cursor None x.name ≡ b → AllNamed (without_cursor cs None) → AllNamed (without_cursor (x ∷ cs) None)
    go true e later = rw e later
    go false e later = rw (e, e) later

set_named : (cursors : List CursorState) (name : CursorName) (old new : CursorState) → cursor_named cursors name ≡ Some old → new.name ≡ old.name → AllNamed cursors
    → AllNamed (cursor_set cursors name new)
set_named cursors None old new is same named = absurd (none_is_not_some old (sym named ∙ is))
set_named cursors (Some name) old new is same named = named_set cursors (Some name) old new is same None refl ∙ named

without_named : (cursors : List CursorState) (name : CursorName) → AllNamed cursors → AllNamed (without_cursor cursors name)
without_named cursors None named = none_named_left cursors
without_named cursors (Some name) named = named_without cursors (Some name) None refl ∙ named

starts_named : (s : State) (name : List ℕ) (c : CursorState) (wanted : Option ℕ) → cursor_named s.cursors (Some name) ≡ Some c → AllNamed s.cursors
    → AllNamed (starts s (Some name) c wanted).cursors
starts_named s name c wanted is named = go (ltb (length s.round) s.mpl) refl
  where
    go : (b : Bool) → ltb (length s.round) s.mpl ≡ b → AllNamed (starts s (Some name) c wanted).cursors
    go true e = rw e (set_named s.cursors (Some name) c (record c { wanted = wanted }) is refl named)
    go false e = rw e (set_named s.cursors (Some name) c (record c { wanted = wanted }) is refl named)

of_cursors : (s : State) → List CursorState
of_cursors s = s.cursors

same_cursors : (old new : State) → new ≡ old → new.cursors ≡ old.cursors
same_cursors old new is = ap (λ (s : State). s.cursors) is

spent_cursors : (allowed : Allowance) (table : List ℕ) (base new : State) → Spends allowed table base new → new.cursors ≡ base.cursors
spent_cursors allowed table base new spent = ap (λ (s : State). s.cursors) spent.after

change_cursors : (old new : State) (c : OneChange) (lines : List ReplyLine) → ChangesRows old c lines new → new.cursors ≡ old.cursors
change_cursors old new c lines (refused_before r cause said is) = same_cursors old new is
change_cursors old new c lines (rows_made all count cause change said spent) = spent_cursors _ c.table _ new spent
change_cursors old new c lines (rows_refused r cause change said spent) = spent_cursors _ c.table old new spent
change_cursors old new c lines (rows_failed line cause licensed said spent) = spent_cursors _ c.table old new spent

command_rests : (old new : State) (c : CommandTree) (texts : List ℕ) (lines : List ReplyLine) → BeginsCommand old c texts lines new → AllNamed old.cursors → AtMostSelect new
command_rests old new (CreateTable t) texts lines (table_refused r cause said is) named = kept old new (same_cursors old new is) named
command_rests old new (CreateTable t) texts lines (table_made cause said spent) named = kept old new (spent_cursors _ t.name _ new spent) named
command_rests old new (CreateTable t) texts lines (table_failed line cause keys licensed said spent) named = kept old new (spent_cursors _ t.name old new spent) named
command_rests old new (CreateIndex i) texts lines (index_refused r cause said is) named = kept old new (same_cursors old new is) named
command_rests old new (CreateIndex i) texts lines (index_made table cause found said spent) named = kept old new (spent_cursors _ i.table _ new spent) named
command_rests old new (CreateIndex i) texts lines (index_failed line cause licensed said spent) named = kept old new (spent_cursors _ i.table old new spent) named
command_rests old new (InsertRows i) texts lines begun named = kept old new (change_cursors old new (insertion old texts i) lines begun) named
command_rests old new (UpdateRows u) texts lines begun named = kept old new (change_cursors old new (updating old texts u) lines begun) named
command_rests old new (DeleteRows d) texts lines begun named = kept old new (change_cursors old new (deletion old texts d) lines begun) named
command_rests old new (Vacuum t) texts lines (vacuum_refused r cause said is) named = kept old new (same_cursors old new is) named
command_rests old new (Vacuum t) texts lines (vacuum_made table found said spent few) named = kept old new (spent_cursors _ t old new spent) named
command_rests old new (Vacuum t) texts lines (vacuum_failed line cause licensed said spent) named = kept old new (spent_cursors _ t old new spent) named
command_rests old new (SelectRows q) texts lines (select_no_more many said is) named = kept old new (same_cursors old new is) named
command_rests old new (SelectRows q) texts lines (select_refused r few cause said is) named = kept old new (same_cursors old new is) named
command_rests old new (SelectRows q) texts lines (select_begun few cause said is) named = inr (ap (λ (s : State). s.task) is)
command_rests old new (OpenCursor c q) texts lines (taken there said is) named = kept old new (same_cursors old new is) named
command_rests old new (OpenCursor c q) texts lines (open_no_more free many said is) named = kept old new (same_cursors old new is) named
command_rests old new (OpenCursor c q) texts lines (open_refused r free few cause said is) named = kept old new (same_cursors old new is) named
command_rests old new (OpenCursor c q) texts lines (open_made free few cause said is) named =
    inl (subst AllNamed (sym (ap (λ (s : State). s.cursors) is)) (named_more_open old.cursors _ c refl named))
command_rests old new (Start c n) texts lines (start_refused why is) named = kept old new (same_cursors old new is) named
command_rests old new (Start c n) texts lines (start_made cursor idle said is) named =
    inl (subst AllNamed (sym (ap (λ (s : State). s.cursors) is)) (starts_named old c cursor (Some n) idle.is_there named))
command_rests old new (Work n) texts lines begun named = kept old new (ap (λ (s : State). s.cursors) begun.after) named
command_rests old new (Fetch c n) texts lines (fetch_refused why is) named = kept old new (same_cursors old new is) named
command_rests old new (Fetch c n) texts lines (fetch_begun cursor idle said is) named =
    inl (subst AllNamed (sym (ap (λ (s : State). s.cursors) is)) (starts_named old c cursor (Some n) idle.is_there named))
command_rests old new (Close c) texts lines (unknown none said is) named = kept old new (same_cursors old new is) named
command_rests old new (Close c) texts lines (closed_made there said is) named =
    inl (subst AllNamed (sym (ap (λ (s : State). s.cursors) is)) (without_named old.cursors (Some c) named))
command_rests old new (Pool n) texts lines (pool_made said is) named = kept old new (ap (λ (s : State). s.cursors) is) named
command_rests old new (Pool n) texts lines (pool_failed line licensed said is) named = kept old new (same_cursors old new is) named
command_rests old new (Mpl n) texts lines set named = kept old new (ap (λ (s : State). s.cursors) set.after) named
command_rests old new ShowMemory texts lines shown named = kept old new (same_cursors old new shown.after) named

line_rests : (built : CommandTree → Bool) (old new : State) (line : Line) (lines : List ReplyLine) → BeginsLine built old line lines new → AllNamed old.cursors → AtMostSelect new
line_rests built old new line lines (is_blank reads said is) named = kept old new (same_cursors old new is) named
line_rests built old new line lines (is_too_long reads said is) named = kept old new (same_cursors old new is) named
line_rests built old new line lines (is_no_command reads said is) named = kept old new (same_cursors old new is) named
line_rests built old new line lines (has_bad_number reads said is) named = kept old new (same_cursors old new is) named
line_rests built old new line lines (has_too_many kind reads said is) named = kept old new (same_cursors old new is) named
line_rests built old new line lines (is_not_built c texts reads none said is) named = kept old new (same_cursors old new is) named
line_rests built old new line lines (asks c texts reads there begun) named = command_rests old new c texts lines begun named

-- ---- turns

select_goes_on : (old new : State) → new.task ≡ one_more old.task → old.task ≡ Some (Fetches None) → AtMostSelect new
select_goes_on old new task select = inr (task ∙ ap one_more select)

set_rests : (old new : State) (name : CursorName) (others : List CursorName) (c after : CursorState) → cursor_named old.cursors name ≡ Some c → after.name ≡ c.name
    → new ≡ counted (goes_on old name others after) → (counted (goes_on old name others after)).task ≡ one_more old.task → AtMostSelect old → AtMostSelect new
set_rests old new name others c after is same made task rests =
    ⊎_elim
    (λ named. inl (subst AllNamed (sym (ap (λ (s : State). s.cursors) made ∙ cursors_going_on old name others after)) (set_named old.cursors name c after is same named)))
    (λ select. select_goes_on old new (ap (λ (s : State). s.task) made ∙ task) select)
    rests

task_going_on : (s : State) (name : CursorName) (others : List CursorName) (c : CursorState) → (counted (goes_on s name others c)).task ≡ one_more s.task
task_going_on s name others c = go (wants_more c.wanted) refl
  where
    go : (b : Bool) → wants_more c.wanted ≡ b → (counted (goes_on s name others c)).task ≡ one_more s.task
    go true e = rw e refl
    go false e = rw e refl

closing_rests : (old new : State) (name : CursorName) → new ≡ counted (closes old name) → AtMostSelect old → AtMostSelect new
closing_rests old new name made rests =
    ⊎_elim (λ named. inl (subst AllNamed (sym (ap (λ (s : State). s.cursors) made)) (without_named old.cursors name named)))
    (λ select. select_goes_on old new (ap (λ (s : State). s.task) made) select) rests

turn_rests : (old new : State) (lines : List ReplyLine) → Turn old lines new → AtMostSelect old → AtMostSelect new
turn_rests old new lines (gives_row name c others pair left held has fine may took holds said is) rests =
    let after : CursorState = record c { left = left; wanted = one_less c.wanted; held = held } in
    set_rests old new name others c (record c { left = left; wanted = one_less c.wanted; held = held }) has.is_there refl is
    (task_going_on old name others (record c { left = left; wanted = one_less c.wanted; held = held })) rests
turn_rests old new lines (ends name c others held has fine none holds said is) rests =
    set_rests old new name others c (record c { wanted = Some 0; held = held }) has.is_there refl is
    (task_going_on old name others (record c { wanted = Some 0; held = held })) rests
turn_rests old new lines (groups_too_many name c others has many said is) rests = closing_rests old new name is rests
turn_rests old new lines (reaches_limit name c others held has above below need said is) rests = closing_rests old new name is rests
turn_rests old new lines (fails name c others line has licensed said is) rests = closing_rests old new name is rests

turns_rest : (built : CommandTree → Bool) (old new : State) (turns : List (List ReplyLine)) → GivesTurns (exactly built) old turns new → AtMostSelect old → AtMostSelect new
unfolding GivesTurns
turns_rest built old new [] given rests = subst AtMostSelect (sym given) rests
turns_rest built old new (turn ∷ turns) given rests = turns_rest built given.0 new turns given.2 (turn_rests old given.0 turn given.1 rests)

no_select : (s : State) (task : Option Task) → s.task ≡ task → (task ≡ Some (Fetches None) → ⊥) → AtMostSelect s → AllNamed s.cursors
no_select s task is other rests = ⊎_elim (λ named. named) (λ select. absurd (other (sym is ∙ select))) rests

close_rests : (old new : State) (lines : List ReplyLine) → Closes old lines new → AtMostSelect old → IsBetweenLines new
close_rests old new lines (nothing_at_work none said is) rests = record {
  idle = ap (λ (s : State). s.task) is ∙ none;
  all_named = ap (λ (s : State). cursor_named s.cursors None) is ∙ no_select old None none (λ e. cc) rests;
}
close_rests old new lines (work_ends turns given task over said is) rests = record {
  idle = ap (λ (s : State). s.task) is;
  all_named = ap (λ (s : State). cursor_named s.cursors None) is ∙ no_select old (Some (Works turns given)) task (λ e. cc) rests;
}
close_rests old new lines (fetch_ends name task over said is) rests = record {
  idle = ap (λ (s : State). s.task) is;
  all_named = ap (λ (s : State). cursor_named s.cursors None) is ∙ no_select old (Some (Fetches (Some name))) task (λ e. cc) rests;
}
close_rests old new lines (select_ends task over said is) rests = record {
  idle = ap (λ (s : State). s.task) is;
  all_named = ap (λ (s : State). cursor_named s.cursors None) is ∙ none_named_left old.cursors;
}

whole_line_rests : (built : CommandTree → Bool) (old new : State) (line : Line) (lines : List ReplyLine) → RunsLine (exactly built) old line lines new → IsBetweenLines old
    → IsBetweenLines new
whole_line_rests built old new line lines runs before =
    close_rests runs.finishes.between new runs.finishes.last runs.finishes.close
    (turns_rest built runs.between runs.finishes.between runs.finishes.turns runs.finishes.given
    (line_rests built old runs.between line runs.first runs.begins before.all_named))

lines_rest : (built : CommandTree → Bool) (old new : State) (script : List Line) (lines : List ReplyLine) → RunsLines (exactly built) old script lines new → IsBetweenLines old
    → IsBetweenLines new
unfolding RunsLines
lines_rest built old new [] lines runs before = subst IsBetweenLines (sym runs.1) before
lines_rest built old new (line ∷ script) lines runs before =
    lines_rest built runs.2 new script runs.1 runs.4 (whole_line_rests built old runs.2 line runs.0 runs.3 before)

pub lines_end_at_rest : LinesEndAtRest
lines_end_at_rest = lines_rest
