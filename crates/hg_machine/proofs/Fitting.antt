-- A line whose needs fit the two files never says that one of them is full.
use Rattle.std.proofs.Common.{◌≡◌, ℕ, suc, zero, ◌+◌, ◌<◌, ◌≤◌, Bool, true, false, List, [], ◌∷◌, ◌++◌, Option, Some, None, length, map, refl, sym, ap, ◌∙◌, subst, arith, inl, inr, ⊎_elim, ◌⊎◌, ltb}
use Rattle.std.specs.List.{flat_map, sum_by, AllByRecursion}
use Rattle.std.proofs.lemmas.List.Sums.{sum_by-cons, sum_by-append, sum_by_push}
use Rattle.std.proofs.lemmas.Bool.{true≢false}
use Rattle.hg_base.specs.declared.File.{File}
use Rattle.hg_base.specs.declared.File.TheVariants as file
use Rattle.hg_machine.proofs.Turns.{sum_set, sum_without, cursors_going_on}
use Rattle.hg_machine.specs.Plain.Begin.{BeginsCommand, BeginsLine, is_blank, is_too_long, is_no_command, has_bad_number, has_too_many, is_not_built, asks}
use Rattle.hg_machine.specs.Plain.Changes.{OneChange, ChangesRows, refused_before, made as rows_made, refused as rows_refused, failed as rows_failed}
use Rattle.hg_machine.specs.Plain.Close.{ClosesCursor, unknown, made as closed_made}
use Rattle.hg_machine.specs.Plain.CreateIndex.{CreatesIndex, index_need, refused as index_refused, made as index_made, failed as index_failed}
use Rattle.hg_machine.specs.Plain.CreateTable.{CreatesTable, table_need, refused as table_refused, made as table_made, failed as table_failed}
use Rattle.hg_machine.specs.Plain.Delete.{deletion}
use Rattle.hg_machine.specs.Plain.Fetch.{BeginsFetch, refused as fetch_refused, begun as fetch_begun}
use Rattle.hg_machine.specs.Plain.Insert.{insertion}
use Rattle.hg_machine.specs.Plain.Laws.{IsBetweenLines, need_of, NeedFits, LineFits, NeverFull, FittingLinesNeverFill, FloorsPreventTheLimit}
use Rattle.hg_machine.specs.Plain.Licences.{Asks, Allowance, Spends, Licensed, device_failed, main_is_full, temp_is_full, temp_taken, temp_alone}
use Rattle.hg_machine.specs.Plain.Limits.{ceiling}
use Rattle.hg_machine.specs.Plain.Open.{Opens, taken, no_more as open_no_more, refused as open_refused, made as open_made, cursor_of, with_opened}
use Rattle.hg_machine.specs.Plain.Pool.{SetsPool, made as pool_made, failed as pool_failed}
use Rattle.hg_machine.specs.Plain.Refused.{refusal_line, too_many_line, words_of, unknown_cursor, cursor_busy, limit_reached, syntax_error, line_too_long, bad_number}
use Rattle.hg_machine.specs.Plain.Replies.{ReplyLine, CursorName, error, device_fault, rows, created, vacuumed, opened, started, worked, memory, row, closed, done, ended, pool_set, mpl_set, is_code, code_lines, full_code, full_lines, held}
use Rattle.hg_machine.specs.Plain.Rounds.{wants_more, one_less, closes, starts, has_turns, task_has_turns, becomes}
use Rattle.hg_machine.specs.Plain.Run.{exactly, Closes, nothing_at_work, work_ends, fetch_ends, select_ends, GivesTurns, lines_of_turns, Finishes, RunsLine}
use Rattle.hg_machine.specs.Plain.Select.{Selects, no_more as select_no_more, refused as select_refused, begun as select_begun}
use Rattle.hg_machine.specs.Plain.ShowMemory.{memory_lines, held_line, figures}
use Rattle.hg_machine.specs.Plain.Start.{Starts, Refuses, unknown as no_cursor, busy, refused as start_refused, made as start_made}
use Rattle.hg_machine.specs.Plain.State.{State, CursorState, Task, Works, Fetches, open_needs, cursor_named, cursor_set, same_cursor, tables_of}
use Rattle.hg_machine.specs.Plain.Turn.{Turn, gives_row, ends, groups_too_many, reaches_limit, fails, HasTurn, goes_on, counted, done_line, one_more}
use Rattle.hg_machine.specs.Plain.Update.{updating}
use Rattle.hg_machine.specs.Plain.Vacuum.{Vacuums, vacuum_need, refused as vacuum_refused, made as vacuum_made, failed as vacuum_failed}
use Rattle.hg_model.specs.CommandNeeds.{PageNeed, needs, needs_of}
use Rattle.hg_model.specs.Intake.{select_need}
use Rattle.hg_model.specs.Query.{Query}
use Rattle.hg_model.specs.Refusal.{Refusal, code_of, UnknownTable, UnknownColumn, AmbiguousColumn, TypeMismatch, TooWide, NameTaken, TooMany, NotGrouped, DoesNotFit, NullNotAllowed, DuplicateKey, BadNumber, RowTooLong, StampsUsedUp, KeyTooLong}
use Rattle.hg_model.specs.declared.trees.Count.TheVariants as count
use Rattle.hg_model.specs.Script.{Line}
use Rattle.hg_model.specs.Statements.{CommandTree, CreateTable, CreateIndex, InsertRows, UpdateRows, DeleteRows, Vacuum, SelectRows, OpenCursor, Start, Work, Fetch, Close, Pool, Mpl, ShowMemory}

-- ---- lines that do not say that a file is full

abbrev Other : ReplyLine → Type 0
Other line = (f : File) → is_code (full_code f) line ≡ false

never_nothing : NeverFull []
unfolding code_lines
never_nothing f = refl

never_cons : (line : ReplyLine) (lines : List ReplyLine) → Other line → NeverFull lines → NeverFull (line ∷ lines)
unfolding code_lines
never_cons line lines other never f = rw (other f) (omega (arith, never f))

never_append : (a b : List ReplyLine) → NeverFull a → NeverFull b → NeverFull (a ++ b)
unfolding code_lines
never_append [] b none_a none_b f = none_b f
never_append (line ∷ a) b none_a none_b f =
    let both : full_lines f (a ++ b) ≡ full_lines f a + full_lines f b = appended (full_code f) a b in
    omega (arith, none_a f, none_b f)
  where
    appended : (code : ℕ) (a b : List ReplyLine) → code_lines code (a ++ b) ≡ code_lines code a + code_lines code b
    appended code [] b = omega arith
    appended code (x ∷ xs) b = omega (arith, appended code xs b)

never_said : (said : List ReplyLine) (lines : List ReplyLine) → said ≡ lines → NeverFull lines → NeverFull said
never_said said lines is never = subst NeverFull (sym is) never

never_one : (said : List ReplyLine) (line : ReplyLine) → said ≡ line ∷ [] → Other line → NeverFull said
never_one said line is other = never_said said (line ∷ []) is (never_cons line [] other never_nothing)

never_two : (said : List ReplyLine) (a b : ReplyLine) → said ≡ a ∷ b ∷ [] → Other a → Other b → NeverFull said
never_two said a b is other_a other_b = never_said said (a ∷ b ∷ []) is (never_cons a (b ∷ []) other_a (never_cons b [] other_b never_nothing))

refusal_other : (r : Refusal) → Other (refusal_line r)
refusal_other (UnknownTable t) file.Main = refl
refusal_other (UnknownTable t) file.Temp = refl
refusal_other (UnknownColumn c) file.Main = refl
refusal_other (UnknownColumn c) file.Temp = refl
refusal_other (AmbiguousColumn c) file.Main = refl
refusal_other (AmbiguousColumn c) file.Temp = refl
refusal_other TypeMismatch file.Main = refl
refusal_other TypeMismatch file.Temp = refl
refusal_other TooWide file.Main = refl
refusal_other TooWide file.Temp = refl
refusal_other (NameTaken t) file.Main = refl
refusal_other (NameTaken t) file.Temp = refl
refusal_other (TooMany k) file.Main = refl
refusal_other (TooMany k) file.Temp = refl
refusal_other NotGrouped file.Main = refl
refusal_other NotGrouped file.Temp = refl
refusal_other (DoesNotFit c) file.Main = refl
refusal_other (DoesNotFit c) file.Temp = refl
refusal_other (NullNotAllowed c) file.Main = refl
refusal_other (NullNotAllowed c) file.Temp = refl
refusal_other DuplicateKey file.Main = refl
refusal_other DuplicateKey file.Temp = refl
refusal_other BadNumber file.Main = refl
refusal_other BadNumber file.Temp = refl
refusal_other RowTooLong file.Main = refl
refusal_other RowTooLong file.Temp = refl
refusal_other StampsUsedUp file.Main = refl
refusal_other StampsUsedUp file.Temp = refl
refusal_other KeyTooLong file.Main = refl
refusal_other KeyTooLong file.Temp = refl

plain : (line : ReplyLine) → is_code 19 line ≡ false → is_code 20 line ≡ false → Other line
plain line a b file.Main = a
plain line a b file.Temp = b

fault_other : (failed : File) → Other (device_fault failed)
fault_other file.Main file.Main = refl
fault_other file.Main file.Temp = refl
fault_other file.Temp file.Main = refl
fault_other file.Temp file.Temp = refl

licensed_other : (s : State) (asked : Asks) (need : PageNeed) (line : ReplyLine) → Licensed s asked need line → NeedFits s need → Other line
licensed_other s asked need line (device_failed failed is) fits = λ f. ap (λ l. is_code (full_code f) l) is ∙ fault_other failed f
licensed_other s asked need line (main_is_full may over is) fits = absurd (omega (arith, fits.main))
licensed_other s asked need line (temp_is_full may over is) fits = absurd (omega (arith, fits.temp))

licensed_never : (s : State) (asked : Asks) (need : PageNeed) (said : List ReplyLine) (line : ReplyLine) → Licensed s asked need line → NeedFits s need
    → said ≡ line ∷ [] → NeverFull said
licensed_never s asked need said line licensed fits is = never_one said line is (licensed_other s asked need line licensed fits)

-- ---- the beginning of a line

-- what is known behind it: its lines say of no file that it is full; and no command is at work, or the
-- temporary pages taken are within the limit
record Begun (lines : List ReplyLine) (s : State) : Type 0 where
  never : NeverFull lines
  fits : (s.task ≡ None) ⊎ (temp_taken s ≤ s.temp_limit)

begun_as : (old new : State) (lines : List ReplyLine) → new ≡ old → old.task ≡ None → NeverFull lines → Begun lines new
begun_as old new lines is idle never = record { never = never; fits = inl (ap (λ (s : State). s.task) is ∙ idle) }

begun_refused : (old new : State) (lines : List ReplyLine) (r : Refusal) → new ≡ old → old.task ≡ None → lines ≡ refusal_line r ∷ [] → Begun lines new
begun_refused old new lines r is idle said = begun_as old new lines is idle (never_one lines (refusal_line r) said (refusal_other r))

begun_plain : (old new : State) (lines : List ReplyLine) (line : ReplyLine) → new ≡ old → old.task ≡ None → lines ≡ line ∷ [] → is_code 19 line ≡ false → is_code 20 line ≡ false
    → Begun lines new
begun_plain old new lines line is idle said a b = begun_as old new lines is idle (never_one lines line said (plain line a b))

begun_spent : (allowed : Allowance) (table : List ℕ) (base new : State) (lines : List ReplyLine) → Spends allowed table base new → base.task ≡ None → NeverFull lines → Begun lines new
begun_spent allowed table base new lines spent idle never = record { never = never; fits = inl (ap (λ (s : State). s.task) spent.after ∙ idle) }

change_begun : (old new : State) (c : OneChange) (lines : List ReplyLine) → ChangesRows old c lines new → old.task ≡ None → NeedFits old c.need → Begun lines new
change_begun old new c lines (refused_before r cause said is) idle fits = begun_refused old new lines r is idle said
change_begun old new c lines (rows_made all count cause change said spent) idle fits = begun_spent _ c.table _ new lines spent idle (never_one lines (rows count) said (plain (rows count) refl refl))
change_begun old new c lines (rows_refused r cause change said spent) idle fits = begun_spent _ c.table old new lines spent idle (never_one lines (refusal_line r) said (refusal_other r))
change_begun old new c lines (rows_failed line cause licensed said spent) idle fits =
    begun_spent _ c.table old new lines spent idle (licensed_never old c.asks c.need lines line licensed fits said)

held_never : (cursors : List CursorState) → NeverFull (map held_line cursors)
held_never [] = never_nothing
held_never (c ∷ cs) = never_cons (held_line c) (map held_line cs) (plain (held_line c) refl refl) (held_never cs)

refuses_never : (s : State) (name : List ℕ) (lines : List ReplyLine) → Refuses s name lines → NeverFull lines
refuses_never s name lines (no_cursor none said) = never_one lines (unknown_cursor name) said (plain (unknown_cursor name) refl refl)
refuses_never s name lines (busy c there waits said) = never_one lines (cursor_busy name) said (plain (cursor_busy name) refl refl)

starts_task : (s : State) (name : CursorName) (c : CursorState) (wanted : Option ℕ) → (starts s name c wanted).task ≡ s.task
starts_task s name c wanted = go (ltb (length s.round) s.mpl) refl
  where
    go : (b : Bool) → ltb (length s.round) s.mpl ≡ b → (starts s name c wanted).task ≡ s.task
    go true e = rw e refl
    go false e = rw e refl

-- starting a cursor changes no need
starts_needs : (s : State) (name : CursorName) (old new : CursorState) (wanted : Option ℕ) → cursor_named s.cursors name ≡ Some old → new.need ≡ old.need
    → (open_needs (starts s name new wanted) ≡ open_needs s) × ((starts s name new wanted).over ≡ s.over) × ((starts s name new wanted).temp_limit ≡ s.temp_limit)
starts_needs s name old new wanted is same = go (ltb (length s.round) s.mpl) refl
  where
    need : CursorState → ℕ
    need c = c.need

    sums : sum_by (λ (c : CursorState). c.need) (cursor_set s.cursors name (record new { wanted = wanted })) ≡ sum_by (λ (c : CursorState). c.need) s.cursors
    sums = omega (arith, sum_set (λ (c : CursorState). c.need) s.cursors name old (record new { wanted = wanted }) is, same)

    go : (b : Bool) → ltb (length s.round) s.mpl ≡ b
        → (open_needs (starts s name new wanted) ≡ open_needs s) × ((starts s name new wanted).over ≡ s.over) × ((starts s name new wanted).temp_limit ≡ s.temp_limit)
    go true e = rw e (sums, refl, refl)
    go false e = rw e (sums, refl, refl)

-- a SELECT is opened where every open cursor has a name: its own is found by the name that it has not
named_last : (cursors : List CursorState) (c : CursorState) → c.name ≡ None → cursor_named cursors None ≡ None → cursor_named (cursors ++ c ∷ []) None ≡ Some c
named_last [] c nameless none = rw nameless refl
named_last (x ∷ cs) c nameless none = go (same_cursor None x.name) refl (λ later. named_last cs c nameless later)
  where
    go : (b : Bool) → same_cursor None x.name ≡ b → (cursor_named cs None ≡ None → cursor_named (cs ++ c ∷ []) None ≡ Some c)
        → cursor_named ((x ∷ cs) ++ c ∷ []) None ≡ Some c
    go true e f = let both : Some x ≡ None = sym (rw e refl) ∙ none in absurd (cc)
    go false e f = let later : cursor_named cs None ≡ None = sym (rw e refl) ∙ none in rw e (f later)

select_needs : (s : State) (q : Query) (texts : List ℕ) → cursor_named s.cursors None ≡ None
    → temp_taken (starts (with_opened s None q texts) None (cursor_of s None q texts) None) ≡ temp_taken s + select_need q texts (tables_of s)
select_needs s q texts named =
    let same = starts_needs (with_opened s None q texts) None (cursor_of s None q texts) (cursor_of s None q texts) None (named_last s.cursors (cursor_of s None q texts) refl named) refl in
    let opened_too : open_needs (with_opened s None q texts) ≡ open_needs s + select_need q texts (tables_of s) =
    sum_by_push (λ (c : CursorState). c.need) s.cursors (cursor_of s None q texts) in
    omega (arith, same.0, same.1, opened_too)

command_begun : (old new : State) (c : CommandTree) (texts : List ℕ) (lines : List ReplyLine) → BeginsCommand old c texts lines new → IsBetweenLines old
    → NeedFits old (need_of old c texts) → Begun lines new
unfolding needs_of insertion updating deletion
command_begun old new (CreateTable t) texts lines (table_refused r cause said is) between fits = begun_refused old new lines r is between.idle said
command_begun old new (CreateTable t) texts lines (table_made cause said spent) between fits =
    begun_spent _ t.name _ new lines spent between.idle (never_one lines created said (plain created refl refl))
command_begun old new (CreateTable t) texts lines (table_failed line cause keys licensed said spent) between fits =
    begun_spent _ t.name old new lines spent between.idle (licensed_never old _ (table_need t) lines line licensed fits said)
command_begun old new (CreateIndex i) texts lines (index_refused r cause said is) between fits = begun_refused old new lines r is between.idle said
command_begun old new (CreateIndex i) texts lines (index_made table cause found said spent) between fits =
    begun_spent _ i.table _ new lines spent between.idle (never_one lines created said (plain created refl refl))
command_begun old new (CreateIndex i) texts lines (index_failed line cause licensed said spent) between fits =
    begun_spent _ i.table old new lines spent between.idle (licensed_never old _ (index_need old i) lines line licensed fits said)
command_begun old new (InsertRows i) texts lines begun between fits = change_begun old new (insertion old texts i) lines begun between.idle fits
command_begun old new (UpdateRows u) texts lines begun between fits = change_begun old new (updating old texts u) lines begun between.idle fits
command_begun old new (DeleteRows d) texts lines begun between fits = change_begun old new (deletion old texts d) lines begun between.idle fits
command_begun old new (Vacuum t) texts lines (vacuum_refused r cause said is) between fits = begun_refused old new lines r is between.idle said
command_begun old new (Vacuum t) texts lines (vacuum_made table found said spent few) between fits =
    begun_spent _ t old new lines spent between.idle (never_one lines vacuumed said (plain vacuumed refl refl))
command_begun old new (Vacuum t) texts lines (vacuum_failed line cause licensed said spent) between fits =
    begun_spent _ t old new lines spent between.idle (licensed_never old _ (vacuum_need old t) lines line licensed fits said)
command_begun old new (SelectRows q) texts lines (select_no_more many said is) between fits =
    begun_plain old new lines (too_many_line count.Cursors) is between.idle said refl refl
command_begun old new (SelectRows q) texts lines (select_refused r few cause said is) between fits = begun_refused old new lines r is between.idle said
command_begun old new (SelectRows q) texts lines (select_begun few cause said is) between fits = record {
  never = never_said lines [] said never_nothing;
  fits =
      let taken_now = select_needs old q texts between.all_named in
      let limit = (starts_needs (with_opened old None q texts) None (cursor_of old None q texts) (cursor_of old None q texts) None (named_last old.cursors (cursor_of old None q texts) refl between.all_named) refl).2 in
      inr (subst (λ (s : State). temp_taken s ≤ s.temp_limit) (sym is) (omega (arith, taken_now, limit, fits.temp)));
}
command_begun old new (OpenCursor c q) texts lines (taken there said is) between fits = begun_refused old new lines (NameTaken c) is between.idle said
command_begun old new (OpenCursor c q) texts lines (open_no_more free many said is) between fits =
    begun_plain old new lines (too_many_line count.Cursors) is between.idle said refl refl
command_begun old new (OpenCursor c q) texts lines (open_refused r free few cause said is) between fits = begun_refused old new lines r is between.idle said
command_begun old new (OpenCursor c q) texts lines (open_made free few cause said is) between fits = record {
  never = never_one lines (opened c) said (plain (opened c) refl refl);
  fits = inl (ap (λ (s : State). s.task) is ∙ between.idle);
}
command_begun old new (Start c n) texts lines (start_refused why is) between fits = begun_as old new lines is between.idle (refuses_never old c lines why)
command_begun old new (Start c n) texts lines (start_made cursor idle said is) between fits = record {
  never = never_one lines (started c) said (plain (started c) refl refl);
  fits = inl (ap (λ (s : State). s.task) is ∙ (starts_task old (Some c) cursor (Some n) ∙ between.idle));
}
command_begun old new (Work n) texts lines begun between fits = record {
  never = never_said lines [] begun.said never_nothing;
  fits = inr (subst (λ (s : State). temp_taken s ≤ s.temp_limit) (sym begun.after) (omega (arith, fits.temp)));
}
command_begun old new (Fetch c n) texts lines (fetch_refused why is) between fits = begun_as old new lines is between.idle (refuses_never old c lines why)
command_begun old new (Fetch c n) texts lines (fetch_begun cursor idle said is) between fits = record {
  never = never_said lines [] said never_nothing;
  fits =
      let same = starts_needs old (Some c) cursor cursor (Some n) idle.is_there refl in
      inr (subst (λ (s : State). temp_taken s ≤ s.temp_limit) (sym is) (omega (arith, same.0, same.1, same.2, fits.temp)));
}
command_begun old new (Close c) texts lines (unknown none said is) between fits = begun_plain old new lines (unknown_cursor c) is between.idle said refl refl
command_begun old new (Close c) texts lines (closed_made there said is) between fits = record {
  never = never_one lines (closed (Some c)) said (plain (closed (Some c)) refl refl);
  fits = inl (ap (λ (s : State). s.task) is ∙ between.idle);
}
command_begun old new (Pool n) texts lines (pool_made said is) between fits = record {
  never = never_one lines (pool_set n) said (plain (pool_set n) refl refl);
  fits = inl (ap (λ (s : State). s.task) is ∙ between.idle);
}
command_begun old new (Pool n) texts lines (pool_failed line licensed said is) between fits =
    begun_as old new lines is between.idle (licensed_never old _ (needs 0 0) lines line licensed fits said)
command_begun old new (Mpl n) texts lines set between fits = record {
  never = never_one lines (mpl_set n) set.said (plain (mpl_set n) refl refl);
  fits = inl (ap (λ (s : State). s.task) set.after ∙ between.idle);
}
command_begun old new ShowMemory texts lines shown between fits =
    begun_as old new lines shown.after between.idle
    (never_said lines (memory_lines old) shown.said (never_cons (memory (figures old)) _ (plain (memory (figures old)) refl refl) (held_never old.cursors)))

line_begun : (built : CommandTree → Bool) (old new : State) (line : Line) (lines : List ReplyLine) → BeginsLine built old line lines new → IsBetweenLines old
    → LineFits old line → Begun lines new
line_begun built old new line lines (is_blank reads said is) between fits = begun_as old new lines is between.idle (never_said lines [] said never_nothing)
line_begun built old new line lines (is_too_long reads said is) between fits = begun_plain old new lines line_too_long is between.idle said refl refl
line_begun built old new line lines (is_no_command reads said is) between fits = begun_plain old new lines syntax_error is between.idle said refl refl
line_begun built old new line lines (has_bad_number reads said is) between fits = begun_plain old new lines bad_number is between.idle said refl refl
line_begun built old new line lines (has_too_many kind reads said is) between fits = begun_plain old new lines (too_many_line kind) is between.idle said refl refl
line_begun built old new line lines (is_not_built c texts reads none said is) between fits = begun_plain old new lines syntax_error is between.idle said refl refl
line_begun built old new line lines (asks c texts reads there begun) between fits = command_begun old new c texts lines begun between (fits c texts reads)

-- ---- turns

-- what holds while turns are given
abbrev TempFits : State → Type 0
TempFits s = temp_taken s ≤ s.temp_limit

done_never : (name : CursorName) (wanted : Option ℕ) → NeverFull (done_line name wanted)
done_never name wanted = go (wants_more wanted) refl
  where
    go : (b : Bool) → wants_more wanted ≡ b → NeverFull (done_line name wanted)
    go true e = rw e never_nothing
    go false e = rw e (never_cons (done name) [] (plain (done name) refl refl) never_nothing)

fields_going_on : (s : State) (name : CursorName) (others : List CursorName) (c : CursorState)
    → ((counted (goes_on s name others c)).over ≡ s.over) × ((counted (goes_on s name others c)).temp_limit ≡ s.temp_limit)
fields_going_on s name others c = go (wants_more c.wanted) refl
  where
    go : (b : Bool) → wants_more c.wanted ≡ b → ((counted (goes_on s name others c)).over ≡ s.over) × ((counted (goes_on s name others c)).temp_limit ≡ s.temp_limit)
    go true e = rw e (refl, refl)
    go false e = rw e (refl, refl)

going_on_fits : (s new : State) (name : CursorName) (others : List CursorName) (c after : CursorState) → cursor_named s.cursors name ≡ Some c → after.need ≡ c.need
    → new ≡ counted (goes_on s name others after) → TempFits s → TempFits new
going_on_fits s new name others c after is same made fits =
    let sums = sum_set (λ (c : CursorState). c.need) s.cursors name c after is in
    let all : open_needs (counted (goes_on s name others after)) ≡ sum_by (λ (c : CursorState). c.need) (cursor_set s.cursors name after) =
    ap (λ cs. sum_by (λ (c : CursorState). c.need) cs) (cursors_going_on s name others after) in
    let rest = fields_going_on s name others after in
    subst TempFits (sym made) (omega (arith, sums, all, rest.0, rest.1, same))

closing_fits : (s new : State) (name : CursorName) (c : CursorState) → cursor_named s.cursors name ≡ Some c → new ≡ counted (closes s name) → TempFits s → TempFits new
closing_fits s new name c is made fits =
    let few = sum_without (λ (c : CursorState). c.need) s.cursors name c is in
    subst TempFits (sym made) (omega (arith, few))

turn_line_other : (s : State) (line : ReplyLine) → Licensed s temp_alone (needs 0 0) line → TempFits s → Other line
turn_line_other s line (device_failed failed is) fits = λ f. ap (λ l. is_code (full_code f) l) is ∙ fault_other failed f
turn_line_other s line (main_is_full may over is) fits = absurd (true≢false (sym may))
turn_line_other s line (temp_is_full may over is) fits = absurd (omega (arith, fits))

turn_fits : (old new : State) (lines : List ReplyLine) → Turn old lines new → TempFits old → NeverFull lines × TempFits new
turn_fits old new lines (gives_row name c others pair left now has fine may took holds said is) fits = (
  never_said lines _ said (never_cons (row name pair.row) (done_line name (one_less c.wanted)) (plain (row name pair.row) refl refl) (done_never name (one_less c.wanted))),
  going_on_fits old new name others c (record c { left = left; wanted = one_less c.wanted; held = now }) has.is_there refl is fits,
)
turn_fits old new lines (ends name c others now has fine none holds said is) fits = (
  never_one lines (ended name) said (plain (ended name) refl refl),
  going_on_fits old new name others c (record c { wanted = Some 0; held = now }) has.is_there refl is fits,
)
turn_fits old new lines (groups_too_many name c others has many said is) fits = (
  never_two lines (too_many_line count.RowsGrouped) (closed name) said (plain (too_many_line count.RowsGrouped) refl refl) (plain (closed name) refl refl),
  closing_fits old new name c has.is_there is fits,
)
turn_fits old new lines (reaches_limit name c others now has above below need said is) fits = (
  never_two lines (limit_reached now (ceiling old)) (closed name) said (plain (limit_reached now (ceiling old)) refl refl) (plain (closed name) refl refl),
  closing_fits old new name c has.is_there is fits,
)
turn_fits old new lines (fails name c others line has licensed said is) fits =
    (never_two lines line (closed name) said (turn_line_other old line licensed fits) (plain (closed name) refl refl), closing_fits old new name c has.is_there is fits)

turns_fit : (built : CommandTree → Bool) (old new : State) (turns : List (List ReplyLine)) → GivesTurns (exactly built) old turns new → TempFits old
    → NeverFull (lines_of_turns turns)
unfolding GivesTurns
turns_fit built old new [] given fits = never_nothing
turns_fit built old new (turn ∷ turns) given fits =
    let one = turn_fits old given.0 turn given.1 fits in
    never_append turn (lines_of_turns turns) one.0 (turns_fit built given.0 new turns given.2 one.1)

-- where no command is at work there is no turn
turn_is_of_a_task : (old new : State) (lines : List ReplyLine) → Turn old lines new → has_turns old ≡ true
turn_is_of_a_task old new lines (gives_row name c others pair left now has fine may took holds said is) = has.turns
turn_is_of_a_task old new lines (ends name c others now has fine none holds said is) = has.turns
turn_is_of_a_task old new lines (groups_too_many name c others has many said is) = has.turns
turn_is_of_a_task old new lines (reaches_limit name c others now has above below need said is) = has.turns
turn_is_of_a_task old new lines (fails name c others line has licensed said is) = has.turns

none_given : (built : CommandTree → Bool) (old new : State) (turns : List (List ReplyLine)) → GivesTurns (exactly built) old turns new → old.task ≡ None
    → NeverFull (lines_of_turns turns)
unfolding GivesTurns
none_given built old new [] given idle = never_nothing
none_given built old new (turn ∷ turns) given idle =
    absurd (true≢false (sym (turn_is_of_a_task old given.0 turn given.1) ∙ ap (λ t. task_has_turns old t) idle))

close_never : (old new : State) (lines : List ReplyLine) → Closes old lines new → NeverFull lines
close_never old new lines (nothing_at_work none said is) = never_said lines [] said never_nothing
close_never old new lines (work_ends turns given task over said is) = never_one lines (worked given) said (plain (worked given) refl refl)
close_never old new lines (fetch_ends name task over said is) = never_said lines [] said never_nothing
close_never old new lines (select_ends task over said is) = never_said lines [] said never_nothing

line_never_fills : (built : CommandTree → Bool) (old new : State) (line : Line) (lines : List ReplyLine) → RunsLine (exactly built) old line lines new → IsBetweenLines old
    → LineFits old line → NeverFull lines
line_never_fills built old new line lines runs between fits =
    let begun : Begun runs.first runs.between = line_begun built old runs.between line runs.first runs.begins between fits in
    let f = runs.finishes in
    let given : NeverFull (lines_of_turns f.turns) =
    ⊎_elim (λ idle. none_given built runs.between f.between f.turns f.given idle) (λ few. turns_fit built runs.between f.between f.turns f.given few) begun.fits in
    let others : NeverFull runs.others = never_said runs.others _ f.joined (never_append (lines_of_turns f.turns) f.last given (close_never f.between new f.last f.close)) in
    never_said lines _ runs.joined (never_append runs.first runs.others begun.never others)

pub fitting_lines_never_fill : FittingLinesNeverFill
fitting_lines_never_fill = line_never_fills
