-- How many bytes lines have at most.
use Rattle.std.proofs.Common.{◌≡◌, ℕ, zero, suc, ◌+◌, ◌*◌, ◌<◌, ◌≤◌, ◌^◌, Bool, true, false, List, [], ◌∷◌, ◌++◌, length, map, refl, sym, ap, ◌∙◌, arith, length-append, get_or, min, max, Option, Some, None, subst, ⊎_elim}
use Rattle.hg_model.specs.Tables.{same_name}
use Rattle.std.specs.Prelude.{nat_eq, decimal, ◌==◌, pos, negsuc}
use Rattle.std.specs.List.{flat_map, sum_by, AllByRecursion}
use Rattle.std.specs.Fmt.{signed_decimal}
use Rattle.std.proofs.Math.Nat.{div-le_self}
use Rattle.std.specs.Cmp.Lexicographic.{unequal}
use Rattle.std.proofs.lemmas.Bool.Decides.{eqb_tells}
use Rattle.std.proofs.lemmas.Fmt.{length-decimal-le, length-decimal-le_wide}
use Rattle.std.proofs.lemmas.List.Sums.{sum_by-cons}
use Rattle.std.specs.List.{Contains}
use Rattle.std.proofs.lemmas.Bool.{true≢false}
use Rattle.hg_base.specs.declared.File.TheVariants as file
use Rattle.hg_machine.specs.Plain.Licences.{Licensed, device_failed, main_is_full, temp_is_full, temp_alone}
use Rattle.hg_machine.specs.Plain.Limits.{active, hard, soft, ceiling}
use Rattle.hg_machine.specs.Plain.Refused.{too_many_line, limit_reached, kind_name, kind_limit}
use Rattle.hg_machine.specs.Plain.Rounds.{wants_more, one_less}
use Rattle.hg_machine.specs.Plain.Turn.{Turn, gives_row, ends, groups_too_many, reaches_limit, fails, HasTurn, done_line}
use Rattle.hg_model.specs.CommandNeeds.{needs}
use Rattle.hg_model.specs.Order.{Pair}
use Rattle.hg_model.specs.declared.trees.Count.TheVariants as count
use Rattle.hg_machine.specs.Plain.Replies.{ReplyLine, CursorName, error, code_name, word_text, Figures, figures_text, row, done, ended, closed, device_fault, file_full, memory, held, shown, doubled, quoted, value_text, next_text, row_text, line_text, bare_text, text_of}
use Rattle.hg_machine.specs.Plain.Room.{IsWorkingRow, WorkingRowsPrintShort, CursorPrints, Prints, MemoryFits, TurnsFit, FitsReply, room_of}
use Rattle.hg_machine.specs.Plain.ShowMemory.{figures, held_line, memory_lines}
use Rattle.hg_machine.specs.Plain.State.{State, CursorState, same_cursor, cursor_named}
use Rattle.hg_model.specs.Changes.{value_length, row_length}
use Rattle.hg_model.specs.Width.{IsBelow}
use Rattle.hg_model.specs.declared.values.Value.{Value}
use Rattle.hg_model.specs.declared.values.Value.TheVariants as value

-- ---- values and rows

doubled_room : (text : List ℕ) → length (flat_map doubled text) ≤ 2 * length text
doubled_room [] = omega arith
doubled_room (b ∷ bs) = go (b == 39) refl (doubled_room bs)
  where
    go : (t : Bool) → (b == 39) ≡ t → length (flat_map doubled bs) ≤ 2 * length bs → length (flat_map doubled (b ∷ bs)) ≤ 2 * length (b ∷ bs)
    go true e others = rw e (omega arith)
    go false e others = rw e (omega arith)

quoted_room : (text : List ℕ) → length (quoted text) ≤ 2 * length text + 2
quoted_room text = omega (arith, doubled_room text, length-append (flat_map doubled text) (39 ∷ []))

value_room : (v : Value) → IsBelow 126 v → length (value_text v) ≤ 3 * value_length v + 40
value_room value.Null below = omega arith
value_room (value.Int (pos n)) below = omega (arith, length-decimal-le_wide 38 n (omega arith) (omega arith) (omega arith))
value_room (value.Int (negsuc n)) below = omega (arith, length-decimal-le_wide 38 (suc n) (omega arith) (omega arith) (omega arith))
value_room (value.Text t) below = omega (arith, quoted_room t)

values_room : (vs : List Value) → AllByRecursion (IsBelow 126) vs → length (flat_map next_text vs) ≤ 3 * row_length vs + 41 * length vs
values_room [] below = omega arith
values_room (v ∷ vs) below =
    omega (arith, value_room v below.0, values_room vs below.1, length-append (value_text v) (flat_map next_text vs), sum_by-cons value_length v vs)

row_room : (vs : List Value) → AllByRecursion (IsBelow 126) vs → length (row_text vs) ≤ 3 * row_length vs + 41 * length vs
row_room [] below = omega arith
row_room (v ∷ vs) below =
    omega (arith, value_room v below.0, values_room vs below.1, length-append (value_text v) (flat_map next_text vs), sum_by-cons value_length v vs)

pub working_rows_print_short : WorkingRowsPrintShort
working_rows_print_short values w = omega (arith, row_room values w.narrow, w.few, w.short)

-- ---- lines

pub line_room : (line : ReplyLine) → length (line_text line) ≡ length (bare_text line) + 1
line_room line = omega (arith, length-append (bare_text line) (10 ∷ []))

pub text_room : (line : ReplyLine) (lines : List ReplyLine) → room_of (line ∷ lines) ≡ length (line_text line) + room_of lines
unfolding text_of
text_room line lines = length-append (line_text line) (flat_map line_text lines)

pub number_room : (n : ℕ) → n < 2 ^ 34 → length (decimal n) ≤ 11
number_room n few = length-decimal-le 11 n (omega arith) (omega arith) (omega arith)

held_room : (c : CursorState) → CursorPrints c → length (line_text (held_line c)) ≤ 60
held_room c prints =
    omega (arith, line_room (held_line c), length-append (shown c.name) (32 ∷ decimal c.held), prints.name, number_room c.held (omega (arith, prints.held)))

all_held_room : (cs : List CursorState) → AllByRecursion CursorPrints cs → room_of (map held_line cs) ≤ 60 * length cs
unfolding text_of
all_held_room [] prints = omega arith
all_held_room (c ∷ cs) prints =
    omega (arith, text_room (held_line c) (map held_line cs), held_room c prints.0, all_held_room cs prints.1)

-- ---- SHOW MEMORY

pub nothing_room : room_of [] ≡ 0
unfolding text_of
nothing_room = refl

figures_room : (f : Figures) → f.pool < 2 ^ 34 → f.max < 2 ^ 34 → f.mpl < 2 ^ 34 → f.active < 2 ^ 34 → f.waiting < 2 ^ 34 → f.hard < 2 ^ 34 → f.soft < 2 ^ 34
    → length (figures_text f) ≤ 200
figures_room f pool most level busy idle above below =
    simp length-append (omega (
      arith,
      number_room f.pool pool,
      number_room f.max most,
      number_room f.mpl level,
      number_room f.active busy,
      number_room f.waiting idle,
      number_room f.hard above,
      number_room f.soft below,
    ))

hard_few : (s : State) → Prints s → hard s < 2 ^ 34
hard_few s prints = omega (arith, div-le_self (3 * s.max) (4 * max (active s) 1), prints.max)

soft_few : (s : State) → Prints s → soft s < 2 ^ 34
soft_few s prints = omega (arith, div-le_self s.current s.mpl, prints.current)

pub memory_fits : MemoryFits
memory_fits s prints =
    let first = figures_room (figures s) (omega (arith, prints.current)) (omega (arith, prints.max)) (omega (arith, prints.mpl)) (omega (arith, prints.round))
    (omega (arith, prints.waiting)) (hard_few s prints) (soft_few s prints) in
    omega (arith, text_room (memory (figures s)) (map held_line s.cursors), line_room (memory (figures s)), first, all_held_room s.cursors prints.cursors, prints.few)
