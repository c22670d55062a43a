-- A line raises the counts of pages taken and of pages left behind by no more than it needs at most.
use Rattle.std.proofs.Common.{◌≡◌, ℕ, ◌≤◌, Bool, true, false, List, [], ◌∷◌, Option, Some, None, length, refl, ap, ◌∙◌, arith, ltb}
use Rattle.hg_machine.specs.Plain.Laws.{need_of, RaisesAtMost, NeedsAtMost, LineNeeds, LinesRaiseAtMostTheirNeed}
use Rattle.hg_machine.specs.Plain.Licences.{Allowance, Spends}
use Rattle.hg_machine.specs.Plain.Replies.{ReplyLine, CursorName}
use Rattle.hg_machine.specs.Plain.Rounds.{wants_more, one_less, starts, closes}
use Rattle.hg_machine.specs.Plain.Run.{exactly, Closes, nothing_at_work, work_ends, fetch_ends, select_ends, GivesTurns}
use Rattle.hg_machine.specs.Plain.State.{State, CursorState}
use Rattle.hg_machine.specs.Plain.Turn.{Turn, gives_row, ends, groups_too_many, reaches_limit, fails, goes_on, counted}
use Rattle.hg_model.specs.CommandNeeds.{PageNeed, needs_of}
use Rattle.hg_model.specs.Script.{Line}
use Rattle.hg_model.specs.Statements.{CommandTree, CreateTable, CreateIndex, InsertRows, UpdateRows, DeleteRows, Vacuum, SelectRows, OpenCursor, Start, Work, Fetch, Close, Pool, Mpl, ShowMemory}
use Rattle.hg_machine.specs.Plain.Begin.{BeginsCommand, BeginsLine, is_blank, is_too_long, is_no_command, has_bad_number, has_too_many, is_not_built, asks}
use Rattle.hg_machine.specs.Plain.Changes.{OneChange, ChangesRows, refused_before, made as rows_made, refused as rows_refused, failed as rows_failed}
use Rattle.hg_machine.specs.Plain.Close.{unknown, made as closed_made}
use Rattle.hg_machine.specs.Plain.CreateIndex.{refused as index_refused, made as index_made, failed as index_failed}
use Rattle.hg_machine.specs.Plain.CreateTable.{refused as table_refused, made as table_made, failed as table_failed}
use Rattle.hg_machine.specs.Plain.Delete.{deletion}
use Rattle.hg_machine.specs.Plain.Fetch.{refused as fetch_refused, begun as fetch_begun}
use Rattle.hg_machine.specs.Plain.Insert.{insertion}
use Rattle.hg_machine.specs.Plain.Open.{taken, no_more as open_no_more, refused as open_refused, made as open_made, cursor_of, with_opened}
use Rattle.hg_machine.specs.Plain.Pool.{made as pool_made, failed as pool_failed}
use Rattle.hg_machine.specs.Plain.Select.{no_more as select_no_more, refused as select_refused, begun as select_begun}
use Rattle.hg_machine.specs.Plain.Start.{refused as start_refused, made as start_made}
use Rattle.hg_machine.specs.Plain.Update.{updating}
use Rattle.hg_machine.specs.Plain.Vacuum.{refused as vacuum_refused, made as vacuum_made, failed as vacuum_failed}

-- ---- steps that leave the counts as they are

record Same (old new : State) : Type 0 where
  used : new.used ≡ old.used
  over : new.over ≡ old.over
  main_limit : new.main_limit ≡ old.main_limit
  temp_limit : new.temp_limit ≡ old.temp_limit

same_so : (old made new : State) → new ≡ made → Same old made → Same old new
same_so old made new is same = record {
  used = ap (λ (s : State). s.used) is ∙ same.used;
  over = ap (λ (s : State). s.over) is ∙ same.over;
  main_limit = ap (λ (s : State). s.main_limit) is ∙ same.main_limit;
  temp_limit = ap (λ (s : State). s.temp_limit) is ∙ same.temp_limit;
}

unchanged : (old new : State) → new ≡ old → Same old new
unchanged old new is = same_so old old new is (record { used = refl; over = refl; main_limit = refl; temp_limit = refl })

same_twice : (a b c : State) → Same a b → Same b c → Same a c
same_twice a b c one two = record {
  used = two.used ∙ one.used;
  over = two.over ∙ one.over;
  main_limit = two.main_limit ∙ one.main_limit;
  temp_limit = two.temp_limit ∙ one.temp_limit;
}

starts_same : (s : State) (name : CursorName) (c : CursorState) (wanted : Option ℕ) → Same s (starts s name c wanted)
starts_same s name c wanted = go (ltb (length s.round) s.mpl) refl
  where
    go : (b : Bool) → ltb (length s.round) s.mpl ≡ b → Same s (starts s name c wanted)
    go true e = rw e (record { used = refl; over = refl; main_limit = refl; temp_limit = refl })
    go false e = rw e (record { used = refl; over = refl; main_limit = refl; temp_limit = refl })

goes_on_same : (s : State) (name : CursorName) (others : List CursorName) (c : CursorState) → Same s (counted (goes_on s name others c))
goes_on_same s name others c = go (wants_more c.wanted) refl
  where
    go : (b : Bool) → wants_more c.wanted ≡ b → Same s (counted (goes_on s name others c))
    go true e = rw e (record { used = refl; over = refl; main_limit = refl; temp_limit = refl })
    go false e = rw e (record { used = refl; over = refl; main_limit = refl; temp_limit = refl })

closed_same : (old new : State) (name : CursorName) → new ≡ counted (closes old name) → Same old new
closed_same old new name is = same_so old _ new is (record { used = refl; over = refl; main_limit = refl; temp_limit = refl })

turn_same : (old new : State) (lines : List ReplyLine) → Turn old lines new → Same old new
turn_same old new lines (gives_row name c others pair left held has fine may took holds said is) =
    same_so old _ new is (goes_on_same old name others (record c { left = left; wanted = one_less c.wanted; held = held }))
turn_same old new lines (ends name c others held has fine none holds said is) =
    same_so old _ new is (goes_on_same old name others (record c { wanted = Some 0; held = held }))
turn_same old new lines (groups_too_many name c others has many said is) = closed_same old new name is
turn_same old new lines (reaches_limit name c others held has above below need said is) = closed_same old new name is
turn_same old new lines (fails name c others line has licensed said is) = closed_same old new name is

turns_same : (built : CommandTree → Bool) (old new : State) (turns : List (List ReplyLine)) → GivesTurns (exactly built) old turns new → Same old new
unfolding GivesTurns
turns_same built old new [] given = unchanged old new given
turns_same built old new (turn ∷ turns) given =
    same_twice old given.0 new (turn_same old given.0 turn given.1) (turns_same built given.0 new turns given.2)

close_same : (old new : State) (lines : List ReplyLine) → Closes old lines new → Same old new
close_same old new lines (nothing_at_work none said is) = unchanged old new is
close_same old new lines (work_ends turns given task over said is) = same_so old _ new is (record { used = refl; over = refl; main_limit = refl; temp_limit = refl })
close_same old new lines (fetch_ends name task over said is) = same_so old _ new is (record { used = refl; over = refl; main_limit = refl; temp_limit = refl })
close_same old new lines (select_ends task over said is) = same_so old _ new is (record { used = refl; over = refl; main_limit = refl; temp_limit = refl })

-- ---- the beginning of a line

none_raised : (most : PageNeed) (old new : State) → Same old new → RaisesAtMost most old new
none_raised most old new same = record {
  main = omega (arith, same.used);
  temp = omega (arith, same.over);
  main_fits = λ few. omega (arith, same.used, same.main_limit, few);
  temp_fits = λ few. omega (arith, same.over, same.temp_limit, few);
}

raised_not : (most : PageNeed) (old new : State) → new ≡ old → RaisesAtMost most old new
raised_not most old new is = none_raised most old new (unchanged old new is)

raised_then : (most : PageNeed) (old between new : State) → RaisesAtMost most old between → Same between new → RaisesAtMost most old new
raised_then most old between new raised same = record {
  main = omega (arith, raised.main, same.used);
  temp = omega (arith, raised.temp, same.over);
  main_fits = λ few. omega (arith, raised.main_fits few, same.used, same.main_limit);
  temp_fits = λ few. omega (arith, raised.temp_fits few, same.over, same.temp_limit);
}

spent_raises : (most : PageNeed) (allowed : Allowance) (table : List ℕ) (old base new : State) → Same old base → Spends allowed table base new → allowed.main ≤ most.main
    → allowed.temp ≤ most.temp → RaisesAtMost most old new
spent_raises most allowed table old base new same spent main temp =
    let used : new.used ≡ spent.used = ap (λ (s : State). s.used) spent.after in
    let over : new.over ≡ spent.over = ap (λ (s : State). s.over) spent.after in
    let main_limit : new.main_limit ≡ base.main_limit = ap (λ (s : State). s.main_limit) spent.after in
    let temp_limit : new.temp_limit ≡ base.temp_limit = ap (λ (s : State). s.temp_limit) spent.after in
    record {
      main = omega (arith, used, spent.main.few, same.used, main);
      temp = omega (arith, over, spent.temp.few, same.over, temp);
      main_fits = λ few. omega (arith, used, main_limit, same.main_limit, spent.main_fits (omega (arith, few, same.used, same.main_limit)));
      temp_fits = λ few. omega (arith, over, temp_limit, same.temp_limit, spent.temp_fits (omega (arith, few, same.over, same.temp_limit)));
    }

itself : (s : State) → Same s s
itself s = record { used = refl; over = refl; main_limit = refl; temp_limit = refl }

change_raises : (most : PageNeed) (old new : State) (c : OneChange) (lines : List ReplyLine) → ChangesRows old c lines new → NeedsAtMost most c.need → RaisesAtMost most old new
change_raises most old new c lines (refused_before r cause said is) needs = raised_not most old new is
change_raises most old new c lines (rows_made all count cause change said spent) needs =
    spent_raises most _ c.table old _ new (record { used = refl; over = refl; main_limit = refl; temp_limit = refl }) spent needs.0 (omega arith)
change_raises most old new c lines (rows_refused r cause change said spent) needs = spent_raises most _ c.table old old new (itself old) spent needs.0 (omega arith)
change_raises most old new c lines (rows_failed line cause licensed said spent) needs = spent_raises most _ c.table old old new (itself old) spent needs.0 needs.1

command_raises : (most : PageNeed) (old new : State) (c : CommandTree) (texts : List ℕ) (lines : List ReplyLine) → BeginsCommand old c texts lines new
    → NeedsAtMost most (need_of old c texts) → RaisesAtMost most old new
unfolding needs_of insertion updating deletion
command_raises most old new (CreateTable t) texts lines (table_refused r cause said is) needs = raised_not most old new is
command_raises most old new (CreateTable t) texts lines (table_made cause said spent) needs =
    spent_raises most _ t.name old _ new (record { used = refl; over = refl; main_limit = refl; temp_limit = refl }) spent needs.0 (omega arith)
command_raises most old new (CreateTable t) texts lines (table_failed line cause keys licensed said spent) needs =
    spent_raises most _ t.name old old new (itself old) spent needs.0 (omega arith)
command_raises most old new (CreateIndex i) texts lines (index_refused r cause said is) needs = raised_not most old new is
command_raises most old new (CreateIndex i) texts lines (index_made table cause found said spent) needs =
    spent_raises most _ i.table old _ new (record { used = refl; over = refl; main_limit = refl; temp_limit = refl }) spent needs.0 (omega arith)
command_raises most old new (CreateIndex i) texts lines (index_failed line cause licensed said spent) needs =
    spent_raises most _ i.table old old new (itself old) spent needs.0 needs.1
command_raises most old new (InsertRows i) texts lines begun needs = change_raises most old new (insertion old texts i) lines begun needs
command_raises most old new (UpdateRows u) texts lines begun needs = change_raises most old new (updating old texts u) lines begun needs
command_raises most old new (DeleteRows d) texts lines begun needs = change_raises most old new (deletion old texts d) lines begun needs
command_raises most old new (Vacuum t) texts lines (vacuum_refused r cause said is) needs = raised_not most old new is
command_raises most old new (Vacuum t) texts lines (vacuum_made table found said spent few) needs =
    spent_raises most _ t old old new (itself old) spent (omega arith) (omega arith)
command_raises most old new (Vacuum t) texts lines (vacuum_failed line cause licensed said spent) needs =
    spent_raises most _ t old old new (itself old) spent (omega arith) needs.1
command_raises most old new (SelectRows q) texts lines (select_no_more many said is) needs = raised_not most old new is
command_raises most old new (SelectRows q) texts lines (select_refused r few cause said is) needs = raised_not most old new is
command_raises most old new (SelectRows q) texts lines (select_begun few cause said is) needs =
    let begun = starts_same (with_opened old None q texts) None (cursor_of old None q texts) None in
    none_raised most old new
    (same_so old _ new is (record { used = begun.used; over = begun.over; main_limit = begun.main_limit; temp_limit = begun.temp_limit }))
command_raises most old new (OpenCursor c q) texts lines (taken there said is) needs = raised_not most old new is
command_raises most old new (OpenCursor c q) texts lines (open_no_more free many said is) needs = raised_not most old new is
command_raises most old new (OpenCursor c q) texts lines (open_refused r free few cause said is) needs = raised_not most old new is
command_raises most old new (OpenCursor c q) texts lines (open_made free few cause said is) needs =
    none_raised most old new (same_so old _ new is (record { used = refl; over = refl; main_limit = refl; temp_limit = refl }))
command_raises most old new (Start c n) texts lines (start_refused why is) needs = raised_not most old new is
command_raises most old new (Start c n) texts lines (start_made cursor idle said is) needs =
    none_raised most old new (same_so old _ new is (starts_same old (Some c) cursor (Some n)))
command_raises most old new (Work n) texts lines begun needs =
    none_raised most old new (same_so old _ new begun.after (record { used = refl; over = refl; main_limit = refl; temp_limit = refl }))
command_raises most old new (Fetch c n) texts lines (fetch_refused why is) needs = raised_not most old new is
command_raises most old new (Fetch c n) texts lines (fetch_begun cursor idle said is) needs =
    let begun = starts_same old (Some c) cursor (Some n) in
    none_raised most old new
    (same_so old _ new is (record { used = begun.used; over = begun.over; main_limit = begun.main_limit; temp_limit = begun.temp_limit }))
command_raises most old new (Close c) texts lines (unknown none said is) needs = raised_not most old new is
command_raises most old new (Close c) texts lines (closed_made there said is) needs =
    none_raised most old new (same_so old _ new is (record { used = refl; over = refl; main_limit = refl; temp_limit = refl }))
command_raises most old new (Pool n) texts lines (pool_made said is) needs =
    none_raised most old new (same_so old _ new is (record { used = refl; over = refl; main_limit = refl; temp_limit = refl }))
command_raises most old new (Pool n) texts lines (pool_failed line licensed said is) needs = raised_not most old new is
command_raises most old new (Mpl n) texts lines set needs =
    none_raised most old new (same_so old _ new set.after (record { used = refl; over = refl; main_limit = refl; temp_limit = refl }))
command_raises most old new ShowMemory texts lines shown needs = raised_not most old new shown.after

begins_raising : (built : CommandTree → Bool) (most : PageNeed) (old new : State) (line : Line) (lines : List ReplyLine) → BeginsLine built old line lines new
    → LineNeeds most old line → RaisesAtMost most old new
begins_raising built most old new line lines (is_blank reads said is) needs = raised_not most old new is
begins_raising built most old new line lines (is_too_long reads said is) needs = raised_not most old new is
begins_raising built most old new line lines (is_no_command reads said is) needs = raised_not most old new is
begins_raising built most old new line lines (has_bad_number reads said is) needs = raised_not most old new is
begins_raising built most old new line lines (has_too_many kind reads said is) needs = raised_not most old new is
begins_raising built most old new line lines (is_not_built c texts reads none said is) needs = raised_not most old new is
begins_raising built most old new line lines (asks c texts reads there begun) needs = command_raises most old new c texts lines begun (needs c texts reads)

pub lines_raise_at_most_their_need : LinesRaiseAtMostTheirNeed
lines_raise_at_most_their_need built old new line lines most runs needs =
    let f = runs.finishes in
    let begun : RaisesAtMost most old runs.between = begins_raising built most old runs.between line runs.first runs.begins needs in
    raised_then most old runs.between new begun
    (same_twice runs.between f.between new (turns_same built runs.between f.between f.turns f.given) (close_same f.between new f.last f.close))
