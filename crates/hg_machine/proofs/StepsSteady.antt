-- Each step keeps what every state of a run is like.
use Rattle.std.proofs.Common.{◌≡◌, ℕ, suc, zero, ◌≤◌, Bool, true, false, List, [], ◌∷◌, ◌++◌, Option, Some, None, refl, sym, subst, arith, inl, inr}
use Rattle.std.proofs.lemmas.Bool.{true≢false}
use Rattle.hg_machine.proofs.Steady.{becomes_so, task_steady, closes_steady, turn_steady, starts_steady, opened_steady, mpl_steady, one_is_named}
use Rattle.hg_machine.specs.Plain.Begin.{BeginsCommand, BeginsLine, is_blank, is_too_long, is_no_command, has_bad_number, has_too_many, is_not_built, asks}
use Rattle.hg_machine.specs.Plain.Changes.{OneChange, ChangesRows, refused_before, made as rows_made, refused as rows_refused, failed as rows_failed}
use Rattle.hg_machine.specs.Plain.Close.{ClosesCursor, unknown, made as closed_made}
use Rattle.hg_machine.specs.Plain.CreateIndex.{CreatesIndex, refused as index_refused, made as index_made, failed as index_failed}
use Rattle.hg_machine.specs.Plain.CreateTable.{CreatesTable, refused as table_refused, made as table_made, failed as table_failed}
use Rattle.hg_machine.specs.Plain.Delete.{deletion}
use Rattle.hg_machine.specs.Plain.Fetch.{BeginsFetch, refused as fetch_refused, begun as fetch_begun}
use Rattle.hg_machine.specs.Plain.Insert.{insertion}
use Rattle.hg_machine.specs.Plain.Laws.{IsSteady, BeginningIsSteady, LinesKeepSteady}
use Rattle.hg_machine.specs.Plain.Licences.{Allowance, Spends}
use Rattle.hg_machine.specs.Plain.Open.{Opens, taken, no_more as open_no_more, refused as open_refused, made as open_made, cursor_of, with_opened}
use Rattle.hg_machine.specs.Plain.Pool.{SetsPool, made as pool_made, failed as pool_failed}
use Rattle.hg_machine.specs.Plain.Replies.{ReplyLine}
use Rattle.hg_machine.specs.Plain.Rounds.{wants_more, closes, starts}
use Rattle.hg_machine.specs.Plain.Run.{exactly, Closes, nothing_at_work, work_ends, fetch_ends, select_ends, GivesTurns, Finishes, RunsLine, RunsLines}
use Rattle.hg_machine.specs.Plain.Select.{Selects, no_more as select_no_more, refused as select_refused, begun as select_begun}
use Rattle.hg_machine.specs.Plain.Start.{Starts, refused as start_refused, made as start_made}
use Rattle.hg_machine.specs.Plain.State.{State, CursorState, Task, Works, Fetches}
use Rattle.hg_machine.specs.Plain.Update.{updating}
use Rattle.hg_machine.specs.Plain.Vacuum.{Vacuums, refused as vacuum_refused, made as vacuum_made, failed as vacuum_failed}
use Rattle.hg_model.specs.LineReading.{ReadsLine, ReadAs, read}
use Rattle.hg_model.specs.Query.{Query}
use Rattle.hg_model.specs.Reading.{Reads, Statement, statement, is_bad_count, has_bad_number as has_bad_numbers}
use Rattle.hg_model.specs.Script.{Line, text_of_line}
use Rattle.hg_model.specs.Statements.{CommandTree, CreateTable, CreateIndex, InsertRows, UpdateRows, DeleteRows, Vacuum, SelectRows, OpenCursor, Start, Work, Fetch, Close, Pool, Mpl, ShowMemory}

same_steady : (old new : State) → new ≡ old → IsSteady old → IsSteady new
same_steady old new is steady = becomes_so IsSteady new old is steady

-- tables, indexes and counts do not matter
spent_steady : (allowed : Allowance) (table : List ℕ) (old new : State) → Spends allowed table old new → IsSteady old → IsSteady new
spent_steady allowed table old new spent steady =
    becomes_so IsSteady new _ spent.after (record { round = steady.round; waiting = steady.waiting; full = steady.full; some_may = steady.some_may })

change_steady : (old new : State) (c : OneChange) (lines : List ReplyLine) → ChangesRows old c lines new → IsSteady old → IsSteady new
change_steady old new c lines (refused_before r cause said is) steady = same_steady old new is steady
change_steady old new c lines (rows_made all count cause change said spent) steady =
    spent_steady _ c.table _ new spent (record { round = steady.round; waiting = steady.waiting; full = steady.full; some_may = steady.some_may })
change_steady old new c lines (rows_refused r cause change said spent) steady = spent_steady _ c.table old new spent steady
change_steady old new c lines (rows_failed line cause licensed said spent) steady = spent_steady _ c.table old new spent steady

some_wanted : (n : ℕ) → is_bad_count n ≡ false → wants_more (Some n) ≡ true
some_wanted zero fine = absurd (true≢false fine)
some_wanted (suc n) fine = refl

some_level : (max n : ℕ) → has_bad_numbers max (Mpl n) ≡ false → 1 ≤ n
some_level max zero fine = absurd (true≢false fine)
some_level max (suc n) fine = omega arith

select_steady : (s : State) (q : Query) (texts : List ℕ) → IsSteady s → IsSteady (starts (with_opened s None q texts) None (cursor_of s None q texts) None)
select_steady s q texts steady =
    let c : CursorState = cursor_of s None q texts in
    let there = one_is_named s.cursors (cursor_of s None q texts) refl in
    starts_steady (with_opened s None q texts) None there.0 (cursor_of s None q texts) None there.1 (sym there.2) refl
    (opened_steady s (cursor_of s None q texts) steady)

command_steady : (max : ℕ) (old new : State) (c : CommandTree) (texts : List ℕ) (lines : List ReplyLine) → has_bad_numbers max c ≡ false
    → BeginsCommand old c texts lines new → IsSteady old → IsSteady new
command_steady max old new (CreateTable t) texts lines fine (table_refused r cause said is) steady = same_steady old new is steady
command_steady max old new (CreateTable t) texts lines fine (table_made cause said spent) steady =
    spent_steady _ t.name _ new spent (record { round = steady.round; waiting = steady.waiting; full = steady.full; some_may = steady.some_may })
command_steady max old new (CreateTable t) texts lines fine (table_failed line cause keys licensed said spent) steady = spent_steady _ t.name old new spent steady
command_steady max old new (CreateIndex i) texts lines fine (index_refused r cause said is) steady = same_steady old new is steady
command_steady max old new (CreateIndex i) texts lines fine (index_made table cause found said spent) steady =
    spent_steady _ i.table _ new spent (record { round = steady.round; waiting = steady.waiting; full = steady.full; some_may = steady.some_may })
command_steady max old new (CreateIndex i) texts lines fine (index_failed line cause licensed said spent) steady = spent_steady _ i.table old new spent steady
command_steady max old new (InsertRows i) texts lines fine begun steady = change_steady old new (insertion old texts i) lines begun steady
command_steady max old new (UpdateRows u) texts lines fine begun steady = change_steady old new (updating old texts u) lines begun steady
command_steady max old new (DeleteRows d) texts lines fine begun steady = change_steady old new (deletion old texts d) lines begun steady
command_steady max old new (Vacuum t) texts lines fine (vacuum_refused r cause said is) steady = same_steady old new is steady
command_steady max old new (Vacuum t) texts lines fine (vacuum_made table found said spent kept) steady = spent_steady _ t old new spent steady
command_steady max old new (Vacuum t) texts lines fine (vacuum_failed line cause licensed said spent) steady = spent_steady _ t old new spent steady
command_steady max old new (SelectRows q) texts lines fine (select_no_more many said is) steady = same_steady old new is steady
command_steady max old new (SelectRows q) texts lines fine (select_refused r few cause said is) steady = same_steady old new is steady
command_steady max old new (SelectRows q) texts lines fine (select_begun few cause said is) steady =
    becomes_so IsSteady new _ is (task_steady (starts (with_opened old None q texts) None (cursor_of old None q texts) None) (Some (Fetches None)) (select_steady old q texts steady))
command_steady max old new (OpenCursor c q) texts lines fine (taken there said is) steady = same_steady old new is steady
command_steady max old new (OpenCursor c q) texts lines fine (open_no_more free many said is) steady = same_steady old new is steady
command_steady max old new (OpenCursor c q) texts lines fine (open_refused r free few cause said is) steady = same_steady old new is steady
command_steady max old new (OpenCursor c q) texts lines fine (open_made free few cause said is) steady =
    becomes_so IsSteady new _ is (opened_steady old (cursor_of old (Some c) q texts) steady)
command_steady max old new (Start c n) texts lines fine (start_refused why is) steady = same_steady old new is steady
command_steady max old new (Start c n) texts lines fine (start_made cursor idle said is) steady =
    becomes_so IsSteady new _ is (starts_steady old (Some c) cursor cursor (Some n) idle.is_there refl (some_wanted n fine) steady)
command_steady max old new (Work n) texts lines fine begun steady = becomes_so IsSteady new _ begun.after (task_steady old (Some (Works n 0)) steady)
command_steady max old new (Fetch c n) texts lines fine (fetch_refused why is) steady = same_steady old new is steady
command_steady max old new (Fetch c n) texts lines fine (fetch_begun cursor idle said is) steady =
    becomes_so IsSteady new _ is
    (task_steady (starts old (Some c) cursor (Some n)) (Some (Fetches (Some c)))
    (starts_steady old (Some c) cursor cursor (Some n) idle.is_there refl (some_wanted n fine) steady))
command_steady max old new (Close c) texts lines fine (unknown none said is) steady = same_steady old new is steady
command_steady max old new (Close c) texts lines fine (closed_made there said is) steady = becomes_so IsSteady new _ is (closes_steady old (Some c) steady)
command_steady max old new (Pool n) texts lines fine (pool_made said is) steady =
    becomes_so IsSteady new _ is (record { round = steady.round; waiting = steady.waiting; full = steady.full; some_may = steady.some_may })
command_steady max old new (Pool n) texts lines fine (pool_failed line licensed said is) steady = same_steady old new is steady
command_steady max old new (Mpl n) texts lines fine set steady = becomes_so IsSteady new _ set.after (mpl_steady old n (some_level max n fine) steady)
command_steady max old new ShowMemory texts lines fine shown steady = same_steady old new shown.after steady

read_fine : (max : ℕ) (text : List ℕ) (c : CommandTree) (texts : List ℕ) → Reads max text (Statement c texts) → has_bad_numbers max c ≡ false
read_fine max text c texts (statement ts command letters spells stands fine few) = fine

line_fine : (max : ℕ) (line : Line) (c : CommandTree) (texts : List ℕ) → ReadsLine max line (ReadAs (Statement c texts)) → has_bad_numbers max c ≡ false
line_fine max line c texts (read r short reads) = read_fine max (text_of_line line) c texts reads

pub begins_steady : (built : CommandTree → Bool) (old new : State) (line : Line) (lines : List ReplyLine) → BeginsLine built old line lines new → IsSteady old → IsSteady new
begins_steady built old new line lines (is_blank reads said is) steady = same_steady old new is steady
begins_steady built old new line lines (is_too_long reads said is) steady = same_steady old new is steady
begins_steady built old new line lines (is_no_command reads said is) steady = same_steady old new is steady
begins_steady built old new line lines (has_bad_number reads said is) steady = same_steady old new is steady
begins_steady built old new line lines (has_too_many kind reads said is) steady = same_steady old new is steady
begins_steady built old new line lines (is_not_built c texts reads none said is) steady = same_steady old new is steady
begins_steady built old new line lines (asks c texts reads there begun) steady = command_steady old.max old new c texts lines (line_fine old.max line c texts reads) begun steady

pub close_steady : (old new : State) (lines : List ReplyLine) → Closes old lines new → IsSteady old → IsSteady new
close_steady old new lines (nothing_at_work none said is) steady = same_steady old new is steady
close_steady old new lines (work_ends turns given task over said is) steady = becomes_so IsSteady new _ is (task_steady old None steady)
close_steady old new lines (fetch_ends name task over said is) steady = becomes_so IsSteady new _ is (task_steady old None steady)
close_steady old new lines (select_ends task over said is) steady =
    becomes_so IsSteady new _ is (task_steady (closes old None) None (closes_steady old None steady))

pub turns_steady : (built : CommandTree → Bool) (old new : State) (turns : List (List ReplyLine)) → GivesTurns (exactly built) old turns new → IsSteady old → IsSteady new
unfolding GivesTurns
turns_steady built old new [] given steady = same_steady old new given steady
turns_steady built old new (turn ∷ turns) given steady = turns_steady built given.0 new turns given.2 (turn_steady old given.0 turn given.1 steady)

pub line_steady : (built : CommandTree → Bool) (old new : State) (line : Line) (lines : List ReplyLine) → RunsLine (exactly built) old line lines new → IsSteady old → IsSteady new
line_steady built old new line lines runs steady =
    close_steady runs.finishes.between new runs.finishes.last runs.finishes.close
    (turns_steady built runs.between runs.finishes.between runs.finishes.turns runs.finishes.given
    (begins_steady built old runs.between line runs.first runs.begins steady))

lines_steady : (built : CommandTree → Bool) (old new : State) (script : List Line) (lines : List ReplyLine)
    → RunsLines (exactly built) old script lines new → IsSteady old → IsSteady new
unfolding RunsLines
lines_steady built old new [] lines runs steady = same_steady old new runs.1 steady
lines_steady built old new (line ∷ script) lines runs steady =
    lines_steady built runs.2 new script runs.1 runs.4 (line_steady built old runs.2 line runs.0 runs.3 steady)

pub lines_keep_steady : LinesKeepSteady
lines_keep_steady = lines_steady

pub beginning_is_steady : BeginningIsSteady
beginning_is_steady sizes some = record { round = tt; waiting = tt; full = inl refl; some_may = some }
