-- How many bytes a turn says at most.
use Rattle.std.proofs.Common.{◌≡◌, ℕ, zero, suc, ◌+◌, ◌*◌, ◌<◌, ◌≤◌, ◌^◌, Bool, true, false, List, [], ◌∷◌, ◌++◌, length, map, refl, sym, ap, ◌∙◌, arith, length-append, get_or, min, max, Option, Some, None, subst, ⊎_elim}
use Rattle.hg_model.specs.Tables.{same_name}
use Rattle.std.specs.Prelude.{nat_eq, decimal, ◌==◌, pos, negsuc}
use Rattle.std.specs.List.{flat_map, sum_by, AllByRecursion}
use Rattle.std.specs.Fmt.{signed_decimal}
use Rattle.std.proofs.Math.Nat.{div-le_self}
use Rattle.std.specs.Cmp.Lexicographic.{unequal}
use Rattle.std.proofs.lemmas.Bool.Decides.{eqb_tells}
use Rattle.std.proofs.lemmas.Fmt.{length-decimal-le, length-decimal-le_wide}
use Rattle.std.proofs.lemmas.List.Sums.{sum_by-cons}
use Rattle.std.specs.List.{Contains}
use Rattle.std.proofs.lemmas.Bool.{true≢false}
use Rattle.hg_base.specs.declared.File.TheVariants as file
use Rattle.hg_machine.specs.Plain.Licences.{Licensed, device_failed, main_is_full, temp_is_full, temp_alone}
use Rattle.hg_machine.specs.Plain.Limits.{active, hard, soft, ceiling}
use Rattle.hg_machine.specs.Plain.Refused.{too_many_line, limit_reached, kind_name, kind_limit}
use Rattle.hg_machine.specs.Plain.Rounds.{wants_more, one_less}
use Rattle.hg_machine.specs.Plain.Turn.{Turn, gives_row, ends, groups_too_many, reaches_limit, fails, HasTurn, done_line}
use Rattle.hg_model.specs.CommandNeeds.{needs}
use Rattle.hg_model.specs.Order.{Pair}
use Rattle.hg_model.specs.declared.trees.Count.TheVariants as count
use Rattle.hg_machine.specs.Plain.Replies.{ReplyLine, CursorName, error, code_name, word_text, Figures, figures_text, row, done, ended, closed, device_fault, file_full, memory, held, shown, doubled, quoted, value_text, next_text, row_text, line_text, bare_text, text_of}
use Rattle.hg_machine.specs.Plain.Room.{IsWorkingRow, WorkingRowsPrintShort, CursorPrints, Prints, MemoryFits, TurnsFit, FitsReply, room_of}
use Rattle.hg_machine.specs.Plain.ShowMemory.{figures, held_line, memory_lines}
use Rattle.hg_machine.specs.Plain.State.{State, CursorState, same_cursor, cursor_named}
use Rattle.hg_model.specs.Changes.{value_length, row_length}
use Rattle.hg_model.specs.Width.{IsBelow}
use Rattle.hg_model.specs.declared.values.Value.{Value}
use Rattle.hg_model.specs.declared.values.Value.TheVariants as value
use Rattle.hg_machine.proofs.Rooms.{line_room, text_room, number_room, nothing_room, working_rows_print_short}

-- ---- turns

same_length : (a b : List ℕ) → same_name a b ≡ true → length a ≡ length b
same_length a b e = ⊎_elim (λ p. p.1) (λ q. absurd (true≢false (sym e ∙ unequal nat_eq a b q.1))) (eqb_tells (length a) (length b))

named_prints : (cursors : List CursorState) (name : CursorName) (c : CursorState) → cursor_named cursors name ≡ Some c → AllByRecursion CursorPrints cursors
    → CursorPrints c × (length (shown name) ≤ 30)
named_prints [] name c is prints = absurd (none_is_not_some is)
  where
    none_is_not_some : None ≡ Some c → ⊥
    none_is_not_some e = cc
named_prints (x ∷ cs) name c is prints = go (same_cursor name x.name) refl (λ later. named_prints cs name c later prints.1)
  where
    as_long : (a b : CursorName) → same_cursor a b ≡ true → length (shown a) ≡ length (shown b)
    as_long None None e = refl
    as_long None (Some b) e = absurd (true≢false (sym e))
    as_long (Some a) None e = absurd (true≢false (sym e))
    as_long (Some a) (Some b) e = same_length a b e

    go : (b : Bool) → same_cursor name x.name ≡ b → (cursor_named cs name ≡ Some c → CursorPrints c × (length (shown name) ≤ 30)) → CursorPrints c × (length (shown name) ≤ 30)
    go true e f =
        let at : Some x ≡ Some c = sym (rw e refl) ∙ is in
        let here : x ≡ c = cc in
        (subst CursorPrints here prints.0, omega (arith, as_long name x.name e, prints.0.name))
    go false e f = let later : cursor_named cs name ≡ Some c = sym (rw e refl) ∙ is in f later

one_room : (line : ReplyLine) → room_of (line ∷ []) ≡ length (bare_text line) + 1
one_room line = omega (arith, text_room line [], line_room line, nothing_room)

two_room : (a b : ReplyLine) → room_of (a ∷ b ∷ []) ≡ length (bare_text a) + length (bare_text b) + 2
two_room a b = omega (arith, text_room a (b ∷ []), line_room a, one_room b)

said_fits : (said lines : List ReplyLine) → said ≡ lines → FitsReply lines → FitsReply said
said_fits said lines is fits = subst FitsReply (sym is) fits

row_fits : (name : CursorName) (values : List Value) (wanted : Option ℕ) → length (shown name) ≤ 30 → length (row_text values) ≤ 14400
    → FitsReply (row name values ∷ done_line name wanted)
row_fits name values wanted few short = go (wants_more wanted) refl
  where
    row_few : length (bare_text (row name values)) ≤ 14500
    row_few = omega (arith, length-append (shown name) (32 ∷ row_text values))

    go : (b : Bool) → wants_more wanted ≡ b → FitsReply (row name values ∷ done_line name wanted)
    go true e = rw e (omega (arith, one_room (row name values), row_few))
    go false e = rw e (omega (arith, two_room (row name values) (done name), row_few))

has_row : (P : Pair → Type 0) (left : List Pair) (p : Pair) → Contains left p → AllByRecursion P left → P p
has_row P left p (k, below, at) all = go left k p below at all
  where
    go : (left : List Pair) (k : ℕ) (d : Pair) → k < length left → get_or left k d ≡ p → AllByRecursion P left → P p
    go [] k d below at all = absurd (omega arith)
    go (x ∷ xs) zero d below at all = subst P at all.0
    go (x ∷ xs) (suc k) d below at all = go xs k d (omega arith) at all.1

error_room : (code : ℕ) (words : List (List ℕ)) → code < 2 ^ 34 → length (bare_text (error code words)) ≤ 18 + length (code_name code) + length (flat_map word_text words)
error_room code words few = simp length-append (omega (arith, number_room code few))

two_words : (a b : List ℕ) → length (flat_map word_text (a ∷ b ∷ [])) ≡ length a + length b + 2
two_words a b = omega (arith, length-append a (flat_map word_text (b ∷ [])), length-append b [])

plain_fits : (code : ℕ) (name : CursorName) → code < 2 ^ 34 → length (code_name code) ≤ 100 → length (shown name) ≤ 30 → FitsReply (error code [] ∷ closed name ∷ [])
plain_fits code name few short named = omega (arith, two_room (error code []) (closed name), error_room code [] few)

failed_fits : (s : State) (line : ReplyLine) (name : CursorName) → Licensed s temp_alone (needs 0 0) line → length (shown name) ≤ 30 → FitsReply (line ∷ closed name ∷ [])
failed_fits s line name (device_failed file.Main is) few = said_fits (line ∷ closed name ∷ []) (error 17 [] ∷ closed name ∷ []) (ap (λ l. l ∷ closed name ∷ []) is) (plain_fits 17 name (omega arith) (omega arith) few)
failed_fits s line name (device_failed file.Temp is) few = said_fits (line ∷ closed name ∷ []) (error 18 [] ∷ closed name ∷ []) (ap (λ l. l ∷ closed name ∷ []) is) (plain_fits 18 name (omega arith) (omega arith) few)
failed_fits s line name (main_is_full may over is) few = said_fits (line ∷ closed name ∷ []) (error 19 [] ∷ closed name ∷ []) (ap (λ l. l ∷ closed name ∷ []) is) (plain_fits 19 name (omega arith) (omega arith) few)
failed_fits s line name (temp_is_full may over is) few = said_fits (line ∷ closed name ∷ []) (error 20 [] ∷ closed name ∷ []) (ap (λ l. l ∷ closed name ∷ []) is) (plain_fits 20 name (omega arith) (omega arith) few)

limit_room : (pages most : ℕ) → pages < 2 ^ 34 → most < 2 ^ 34 → length (bare_text (limit_reached pages most)) ≤ 60
limit_room pages most few less = omega (arith, error_room 16 (decimal pages ∷ decimal most ∷ []) (omega arith), two_words (decimal pages) (decimal most), number_room pages few, number_room most less)

many_room : length (bare_text (too_many_line count.RowsGrouped)) ≤ 60
many_room = omega (
  arith,
  error_room 9 (kind_name count.RowsGrouped ∷ decimal (kind_limit count.RowsGrouped) ∷ []) (omega arith),
  two_words (kind_name count.RowsGrouped) (decimal (kind_limit count.RowsGrouped)),
  number_room (kind_limit count.RowsGrouped) (omega arith),
)

turn_fits : (old new : State) (lines : List ReplyLine) → Turn old lines new → Prints old → FitsReply lines
turn_fits old new lines (gives_row name c others pair left now has fine may took holds said is) prints =
    let there = named_prints old.cursors name c has.is_there prints.cursors in
    let working : IsWorkingRow pair.row = has_row (λ (p : Pair). IsWorkingRow p.row) c.left pair may.is_left there.0.left in
    said_fits lines _ said (row_fits name pair.row (one_less c.wanted) there.1 (working_rows_print_short pair.row working))
turn_fits old new lines (ends name c others now has fine none holds said is) prints =
    let there = named_prints old.cursors name c has.is_there prints.cursors in
    said_fits lines (ended name ∷ []) said (omega (arith, one_room (ended name), there.1))
turn_fits old new lines (groups_too_many name c others has many said is) prints =
    let there = named_prints old.cursors name c has.is_there prints.cursors in
    said_fits lines (too_many_line count.RowsGrouped ∷ closed name ∷ []) said (omega (arith, two_room (too_many_line count.RowsGrouped) (closed name), there.1, many_room))
turn_fits old new lines (reaches_limit name c others now has above below need said is) prints =
    let there = named_prints old.cursors name c has.is_there prints.cursors in
    let few : now < 2 ^ 34 = omega (arith, there.0.floor) in
    let less : ceiling old < 2 ^ 34 = omega (arith, there.0.floor) in
    said_fits lines (limit_reached now (ceiling old) ∷ closed name ∷ []) said
    (omega (arith, two_room (limit_reached now (ceiling old)) (closed name), there.1, limit_room now (ceiling old) few less))
turn_fits old new lines (fails name c others line has licensed said is) prints =
    let there = named_prints old.cursors name c has.is_there prints.cursors in
    said_fits lines (line ∷ closed name ∷ []) said (failed_fits old line name licensed there.1)

pub turns_fit : TurnsFit
turns_fit = turn_fits
