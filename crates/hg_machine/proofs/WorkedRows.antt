-- Worked scripts, each by computation.
use Rattle.std.proofs.Common.{◌≡◌, ℕ, ◌≤◌, Bool, true, false, List, [], ◌∷◌, ◌++◌, Option, Some, None, refl, sym, inl, arith, ◌+◌, append-nil}
use Rattle.std.specs.Prelude.{codes, pos, negsuc}
use Rattle.std.specs.List.{All}
use Rattle.std.proofs.lemmas.List.Elements.{All-nil, All-cons}
use Rattle.std.proofs.lemmas.List.Sorted.{IsPermutation-refl}
use Rattle.hg_machine.specs.Plain.Begin.{BeginsCommand, all_built}
use Rattle.hg_machine.specs.Plain.Changes.{made as rows_made}
use Rattle.hg_machine.specs.Plain.CreateTable.{made as table_made, table_allowance, with_table}
use Rattle.hg_machine.specs.Plain.Delete.{deletion}
use Rattle.hg_machine.specs.Plain.Fetch.{begun as fetch_begun}
use Rattle.hg_machine.specs.Plain.Insert.{insertion}
use Rattle.hg_machine.specs.Plain.Licences.{Allowance, Spends, Within}
use Rattle.hg_machine.specs.Plain.Open.{made as open_made}
use Rattle.hg_machine.specs.Plain.Replies.{ReplyLine, CursorName}
use Rattle.hg_machine.specs.Plain.Run.{exactly, GivesTurns, Finishes, nothing_at_work, work_ends, fetch_ends, select_ends, lines_of_turns, rests}
use Rattle.hg_machine.specs.Plain.Rounds.{closes, has_turns, wants_more, one_less}
use Rattle.hg_machine.specs.Plain.Select.{begun as select_begun}
use Rattle.hg_machine.specs.Plain.Start.{made as start_made, refused as start_refused, busy}
use Rattle.hg_machine.specs.Plain.State.{State, TableState, CursorState, Task, Works, Fetches, versions_set, versions_of, cursor_named}
use Rattle.hg_machine.specs.Plain.Turn.{Turn, gives_row, ends, done_line, goes_on, counted}
use Rattle.hg_machine.specs.Plain.Worked.{RunsCommand, c, d, a_of_t, all_of_t, create_t, create_t_of_two, insert_into_t, delete_one, number_row, TheSecondWaits, CursorsStayAsOpened, RowsComeBack}
use Rattle.hg_machine.specs.Plain.Replies.{created, rows, opened, started, worked, mpl_set, row, done, ended}
use Rattle.hg_machine.specs.Plain.Refused.{cursor_busy}
use Rattle.hg_model.specs.Binding.{select_refusal}
use Rattle.hg_model.specs.ChangeBinding.{insert_refusal, delete_refusal}
use Rattle.hg_model.specs.ChangeMeaning.{insert_meaning, delete_meaning}
use Rattle.hg_model.specs.Changes.{insert_change, delete_change}
use Rattle.hg_model.specs.Creation.{create_table_refusal}
use Rattle.hg_model.specs.Intake.{intake, select_need}
use Rattle.hg_model.specs.Order.{Pair, MayComeNext, stands_before}
use Rattle.hg_model.specs.Plan.{floor_of}
use Rattle.hg_model.specs.Query.{Query}
use Rattle.hg_model.specs.Refusal.{first_cause}
use Rattle.hg_model.specs.SelectMeaning.{meaning, kept_rows, keeps_row, row_values, group_values, group_key, keeps_group, pair_of, row_pair, group_pair, pairs_of, too_many}
use Rattle.hg_model.specs.Statements.{CommandTree, CreateTable, InsertRows, DeleteRows, SelectRows, OpenCursor, Start, Work, Fetch, Mpl}
use Rattle.hg_model.specs.Types.{binary_digits, digits_within}
use Rattle.hg_model.specs.declared.trees.Literal.TheVariants as literal
use Rattle.hg_model.specs.declared.trees.SqlType.TheVariants.{Integer}
use Rattle.hg_model.specs.declared.values.Value.{Value}
use Rattle.hg_model.specs.declared.values.Value.TheVariants.{Null, Int}

-- ---- states

abbrev one_table : List (List Value) → ℕ → List TableState
one_table all n = (record { table = (record { name = codes "t"; columns = (record { name = codes "a"; ty = Integer; not_null = false }) ∷ []; rows = all }); versions = n }) ∷ []

abbrev two_columns : List (List Value) → ℕ → List TableState
two_columns all n = (record {
  table = (record {
    name = codes "t";
    rows = all;
    columns = (record { name = codes "a"; ty = Integer; not_null = false }) ∷ (record { name = codes "b"; ty = Integer; not_null = false }) ∷ [];
  });
  versions = n;
}) ∷ []

abbrev state : List TableState → ℕ → List CursorState → List CursorName → List CursorName → Option Task → ℕ → State
state tables stamps cursors round waiting task mpl = record {
  tables = tables;
  indexes = [];
  cursors = cursors;
  round = round;
  waiting = waiting;
  task = task;
  max = 256;
  current = 128;
  mpl = mpl;
  stamps = stamps;
  used = 1;
  over = 0;
  main_limit = 65536;
  temp_limit = 1048576;
}

abbrev number : ℕ → List Value
number n = Int (pos n) ∷ []

abbrev unordered : List Value → Pair
unordered values = record { row = values; keys = [] }

abbrev pairs : List (List Value) → List Pair
pairs [] = []
pairs (r ∷ rs) = unordered r ∷ pairs rs

abbrev cursor : CursorName → List (List Value) → Option ℕ → CursorState
cursor name left wanted = record { name = name; left = pairs left; is_too_many = false; wanted = wanted; held = 0; floor = 0; need = 0 }

-- ---- steps

within_none : (n more : ℕ) → Within false n n more
within_none n more = record { not_less = λ e. omega arith; few = omega arith }

within_all : (n more : ℕ) → Within false n (n + more) more
within_all n more = record { not_less = λ e. omega arith; few = omega arith }

-- a command that has no turns
at_once : (old new : State) (command : CommandTree) (lines : List ReplyLine) → BeginsCommand old command [] lines new → new.task ≡ None → RunsCommand old command lines new
unfolding GivesTurns
at_once old new command lines begins idle = record {
  between = new;
  first = lines;
  others = [];
  begins = begins;
  joined = sym (append-nil lines);
  finishes = record { turns = []; between = new; last = []; given = refl; close = nothing_at_work idle refl refl; joined = refl };
}

none_stand_before : (p : List Value) (ps : List (List Value)) → All (λ other. stands_before other (unordered p) ≡ false) (pairs ps)
none_stand_before p [] = All-nil (λ other. stands_before other (unordered p) ≡ false)
none_stand_before p (q ∷ qs) = All-cons (λ other. stands_before other (unordered p) ≡ false) (unordered q) (pairs qs) refl (none_stand_before p qs)

first_may_come : (p : List Value) (ps : List (List Value)) → MayComeNext (unordered p) (pairs (p ∷ ps))
first_may_come p ps = record { is_left = (0, omega arith, refl); first = none_stand_before p (p ∷ ps) }

-- a row of a cursor at the front that wants so many, and its end
row_turn : (tables : List TableState) (stamps mpl : ℕ) (before : List CursorState) (name : CursorName) (p : List Value) (ps : List (List Value)) (wanted : Option ℕ)
    (others waiting : List CursorName) (task : Option Task) (lines : List ReplyLine) (new : State)
    → has_turns (state tables stamps before (name ∷ others) waiting task mpl) ≡ true
    → cursor_named before name ≡ Some (cursor name (p ∷ ps) wanted) → wants_more wanted ≡ true
    → lines ≡ row name p ∷ done_line name (one_less wanted)
    → new ≡ counted (goes_on (state tables stamps before (name ∷ others) waiting task mpl) name others (cursor name ps (one_less wanted)))
    → Turn (state tables stamps before (name ∷ others) waiting task mpl) lines new
row_turn tables stamps mpl before name p ps wanted others waiting task lines new turns there wants said is =
    gives_row name (cursor name (p ∷ ps) wanted) others (unordered p) (pairs ps) 0
    (record { turns = turns; front = refl; is_there = there; wants = wants }) refl (first_may_come p ps) (IsPermutation-refl (pairs (p ∷ ps))) (inl (omega arith)) said is

end_turn : (tables : List TableState) (stamps mpl : ℕ) (before : List CursorState) (name : CursorName) (wanted : Option ℕ)
    (others waiting : List CursorName) (task : Option Task) (new : State)
    → has_turns (state tables stamps before (name ∷ others) waiting task mpl) ≡ true
    → cursor_named before name ≡ Some (cursor name [] wanted) → wants_more wanted ≡ true
    → new ≡ counted (goes_on (state tables stamps before (name ∷ others) waiting task mpl) name others (cursor name [] (Some 0)))
    → Turn (state tables stamps before (name ∷ others) waiting task mpl) (ended name ∷ []) new
end_turn tables stamps mpl before name wanted others waiting task new turns there wants is =
    ends name (cursor name [] wanted) others 0 (record { turns = turns; front = refl; is_there = there; wants = wants }) refl refl (inl (omega arith)) refl is

-- ---- the second cursor waits

abbrev three : List TableState
three = one_table (number 1 ∷ number 2 ∷ number 3 ∷ []) 3

abbrev all_three : List (List Value)
all_three = number 1 ∷ number 2 ∷ number 3 ∷ []

abbrev begun : State
begun = state [] 0 [] [] [] None 4

abbrev with_t : State
with_t = state (one_table [] 0) 0 [] [] [] None 4

make_t : RunsCommand begun create_t (created ∷ []) with_t
unfolding create_table_refusal first_cause
make_t = at_once begun with_t create_t (created ∷ [])
    (table_made refl refl (record { used = 1; over = 0; versions = 0; main = within_none 1 0; temp = within_none 0 0; rows = within_none 0 0; main_fits = λ e. e; temp_fits = λ e. e; after = refl })) refl

fill_three : RunsCommand with_t (insert_into_t (literal.Int (pos 1) ∷ literal.Int (pos 2) ∷ literal.Int (pos 3) ∷ []) (1 ∷ 2 ∷ 3 ∷ [])) (rows 3 ∷ []) (state three 1 [] [] [] None 4)
unfolding insertion insert_refusal insert_meaning insert_change first_cause
fill_three = at_once with_t (state three 1 [] [] [] None 4) _ (rows 3 ∷ [])
    (rows_made all_three 3 refl refl refl (record { used = 1; over = 0; versions = 3; main = within_none 1 3; temp = within_none 0 0; rows = within_all 0 3; main_fits = λ e. e; temp_fits = λ e. e; after = refl })) refl

open_c : RunsCommand (state three 1 [] [] [] None 4) (OpenCursor c a_of_t) (opened c ∷ []) (state three 1 (cursor (Some c) all_three (Some 0) ∷ []) [] [] None 4)
unfolding select_refusal first_cause meaning kept_rows keeps_row row_values pair_of row_pair pairs_of too_many floor_of select_need intake binary_digits digits_within
open_c = at_once _ _ (OpenCursor c a_of_t) (opened c ∷ []) (open_made refl (omega arith) refl refl refl) refl

abbrev cursor_c : List (List Value) → Option ℕ → CursorState
cursor_c left wanted = cursor (Some c) left wanted

abbrev cursor_d : List (List Value) → Option ℕ → CursorState
cursor_d left wanted = cursor (Some d) left wanted

abbrev three_with : List CursorState → List CursorName → List CursorName → Option Task → ℕ → State
three_with cursors round waiting task mpl = state three 1 cursors round waiting task mpl

open_d : RunsCommand (three_with (cursor_c all_three (Some 0) ∷ []) [] [] None 4) (OpenCursor d a_of_t) (opened d ∷ [])
    (three_with (cursor_c all_three (Some 0) ∷ cursor_d all_three (Some 0) ∷ []) [] [] None 4)
unfolding select_refusal first_cause meaning kept_rows keeps_row row_values pair_of row_pair pairs_of too_many floor_of select_need intake binary_digits digits_within
open_d = at_once _ _ (OpenCursor d a_of_t) (opened d ∷ []) (open_made refl (omega arith) refl refl refl) refl

one_active : RunsCommand (three_with (cursor_c all_three (Some 0) ∷ cursor_d all_three (Some 0) ∷ []) [] [] None 4) (Mpl 1) (mpl_set 1 ∷ [])
    (three_with (cursor_c all_three (Some 0) ∷ cursor_d all_three (Some 0) ∷ []) [] [] None 1)
one_active = at_once _ _ (Mpl 1) (mpl_set 1 ∷ []) (record { said = refl; after = refl }) refl

start_c : RunsCommand (three_with (cursor_c all_three (Some 0) ∷ cursor_d all_three (Some 0) ∷ []) [] [] None 1) (Start c 2) (started c ∷ [])
    (three_with (cursor_c all_three (Some 2) ∷ cursor_d all_three (Some 0) ∷ []) (Some c ∷ []) [] None 1)
start_c = at_once _ _ (Start c 2) (started c ∷ []) (start_made (cursor_c all_three (Some 0)) (record { is_there = refl; rests = refl }) refl refl) refl

start_d : RunsCommand (three_with (cursor_c all_three (Some 2) ∷ cursor_d all_three (Some 0) ∷ []) (Some c ∷ []) [] None 1) (Start d 1) (started d ∷ [])
    (three_with (cursor_c all_three (Some 2) ∷ cursor_d all_three (Some 1) ∷ []) (Some c ∷ []) (Some d ∷ []) None 1)
start_d = at_once _ _ (Start d 1) (started d ∷ []) (start_made (cursor_d all_three (Some 0)) (record { is_there = refl; rests = refl }) refl refl) refl

abbrev both_started : State
both_started = three_with (cursor_c all_three (Some 2) ∷ cursor_d all_three (Some 1) ∷ []) (Some c ∷ []) (Some d ∷ []) None 1

start_c_again : RunsCommand both_started (Start c 1) (cursor_busy c ∷ []) both_started
start_c_again = at_once _ _ (Start c 1) (cursor_busy c ∷ []) (start_refused (busy (cursor_c all_three (Some 2)) refl refl refl) refl) refl

abbrev two_three : List (List Value)
two_three = number 2 ∷ number 3 ∷ []

abbrev just_three : List (List Value)
just_three = number 3 ∷ []

work_five : RunsCommand both_started (Work 5) (number_row c 1 ∷ number_row c 2 ∷ done (Some c) ∷ number_row d 1 ∷ done (Some d) ∷ worked 3 ∷ [])
    (three_with (cursor_c just_three (Some 0) ∷ cursor_d two_three (Some 0) ∷ []) [] [] None 1)
unfolding GivesTurns
work_five =
    let s0 : State = three_with (cursor_c all_three (Some 2) ∷ cursor_d all_three (Some 1) ∷ []) (Some c ∷ []) (Some d ∷ []) (Some (Works 5 0)) 1 in
    let s1 : State = three_with (cursor_c two_three (Some 1) ∷ cursor_d all_three (Some 1) ∷ []) (Some c ∷ []) (Some d ∷ []) (Some (Works 5 1)) 1 in
    let s2 : State = three_with (cursor_c just_three (Some 0) ∷ cursor_d all_three (Some 1) ∷ []) (Some d ∷ []) [] (Some (Works 5 2)) 1 in
    let s3 : State = three_with (cursor_c just_three (Some 0) ∷ cursor_d two_three (Some 0) ∷ []) [] [] (Some (Works 5 3)) 1 in
    let t1 : Turn s0 (number_row c 1 ∷ []) s1 =
    row_turn three 1 1 (cursor_c all_three (Some 2) ∷ cursor_d all_three (Some 1) ∷ []) (Some c) (number 1) two_three (Some 2) [] (Some d ∷ []) (Some (Works 5 0))
    (number_row c 1 ∷ []) s1 refl refl refl refl refl in
    let t2 : Turn s1 (number_row c 2 ∷ done (Some c) ∷ []) s2 =
    row_turn three 1 1 (cursor_c two_three (Some 1) ∷ cursor_d all_three (Some 1) ∷ []) (Some c) (number 2) just_three (Some 1) [] (Some d ∷ []) (Some (Works 5 1))
    (number_row c 2 ∷ done (Some c) ∷ []) s2 refl refl refl refl refl in
    let t3 : Turn s2 (number_row d 1 ∷ done (Some d) ∷ []) s3 =
    row_turn three 1 1 (cursor_c just_three (Some 0) ∷ cursor_d all_three (Some 1) ∷ []) (Some d) (number 1) two_three (Some 1) [] [] (Some (Works 5 2))
    (number_row d 1 ∷ done (Some d) ∷ []) s3 refl refl refl refl refl in
    record {
      between = s0;
      first = [];
      others = number_row c 1 ∷ number_row c 2 ∷ done (Some c) ∷ number_row d 1 ∷ done (Some d) ∷ worked 3 ∷ [];
      begins = record { said = refl; after = refl };
      finishes = record {
        turns = (number_row c 1 ∷ []) ∷ (number_row c 2 ∷ done (Some c) ∷ []) ∷ (number_row d 1 ∷ done (Some d) ∷ []) ∷ [];
        between = s3;
        last = worked 3 ∷ [];
        given = (s1, t1, (s2, t2, (s3, t3, refl)));
        close = work_ends 5 3 refl refl refl refl;
        joined = refl;
      };
      joined = refl;
    }

pub the_second_waits : TheSecondWaits
the_second_waits = record {
  last = three_with (cursor_c just_three (Some 0) ∷ cursor_d two_three (Some 0) ∷ []) [] [] None 1;
  runs = (
    with_t,
    make_t,
    (
      three_with [] [] [] None 4,
      fill_three,
      (
        three_with (cursor_c all_three (Some 0) ∷ []) [] [] None 4,
        open_c,
        (
          three_with (cursor_c all_three (Some 0) ∷ cursor_d all_three (Some 0) ∷ []) [] [] None 4,
          open_d,
          (
            three_with (cursor_c all_three (Some 0) ∷ cursor_d all_three (Some 0) ∷ []) [] [] None 1,
            one_active,
            (
              three_with (cursor_c all_three (Some 2) ∷ cursor_d all_three (Some 0) ∷ []) (Some c ∷ []) [] None 1,
              start_c,
              (
                both_started,
                start_d,
                (
                  both_started,
                  start_c_again,
                  (three_with (cursor_c just_three (Some 0) ∷ cursor_d two_three (Some 0) ∷ []) [] [] None 1, work_five, refl),
                ),
              ),
            ),
          ),
        ),
      ),
    ),
  );
}

-- ---- cursors stay as they were opened

abbrev one_two : List (List Value)
one_two = number 1 ∷ number 2 ∷ []

fill_two : RunsCommand with_t (insert_into_t (literal.Int (pos 1) ∷ literal.Int (pos 2) ∷ []) (1 ∷ 2 ∷ [])) (rows 2 ∷ []) (state (one_table one_two 2) 1 [] [] [] None 4)
unfolding insertion insert_refusal insert_meaning insert_change first_cause
fill_two = at_once with_t (state (one_table one_two 2) 1 [] [] [] None 4) _ (rows 2 ∷ [])
    (rows_made one_two 2 refl refl refl (record { used = 1; over = 0; versions = 2; main = within_none 1 2; temp = within_none 0 0; rows = within_all 0 2; main_fits = λ e. e; temp_fits = λ e. e; after = refl })) refl

open_over_two : RunsCommand (state (one_table one_two 2) 1 [] [] [] None 4) (OpenCursor c a_of_t) (opened c ∷ []) (state (one_table one_two 2) 1 (cursor_c one_two (Some 0) ∷ []) [] [] None 4)
unfolding select_refusal first_cause meaning kept_rows keeps_row row_values pair_of row_pair pairs_of too_many floor_of select_need intake binary_digits digits_within
open_over_two = at_once _ _ (OpenCursor c a_of_t) (opened c ∷ []) (open_made refl (omega arith) refl refl refl) refl

one_row_more : RunsCommand (state (one_table one_two 2) 1 (cursor_c one_two (Some 0) ∷ []) [] [] None 4) (insert_into_t (literal.Int (pos 3) ∷ []) (1 ∷ [])) (rows 1 ∷ [])
    (state three 2 (cursor_c one_two (Some 0) ∷ []) [] [] None 4)
unfolding insertion insert_refusal insert_meaning insert_change first_cause
one_row_more = at_once (state (one_table one_two 2) 1 (cursor_c one_two (Some 0) ∷ []) [] [] None 4) (state three 2 (cursor_c one_two (Some 0) ∷ []) [] [] None 4) _ (rows 1 ∷ [])
    (rows_made all_three 1 refl refl refl (record { used = 1; over = 0; versions = 3; main = within_none 1 1; temp = within_none 0 0; rows = within_all 2 1; main_fits = λ e. e; temp_fits = λ e. e; after = refl })) refl

abbrev after_delete : List CursorState → List CursorName → Option Task → State
after_delete cursors round task = state (one_table two_three 3) 3 cursors round [] task 4

one_row_less : RunsCommand (state three 2 (cursor_c one_two (Some 0) ∷ []) [] [] None 4) delete_one (rows 1 ∷ []) (after_delete (cursor_c one_two (Some 0) ∷ []) [] None)
unfolding deletion delete_refusal delete_meaning delete_change first_cause binary_digits digits_within
one_row_less = at_once (state three 2 (cursor_c one_two (Some 0) ∷ []) [] [] None 4) (after_delete (cursor_c one_two (Some 0) ∷ []) [] None) delete_one (rows 1 ∷ [])
    (rows_made two_three 1 refl refl refl (record { used = 1; over = 0; versions = 3; main = within_none 1 0; temp = within_none 0 0; rows = within_none 3 0; main_fits = λ e. e; temp_fits = λ e. e; after = refl })) refl

open_after_delete : RunsCommand (after_delete (cursor_c one_two (Some 0) ∷ []) [] None) (OpenCursor d a_of_t) (opened d ∷ [])
    (after_delete (cursor_c one_two (Some 0) ∷ cursor_d two_three (Some 0) ∷ []) [] None)
unfolding select_refusal first_cause meaning kept_rows keeps_row row_values pair_of row_pair pairs_of too_many floor_of select_need intake binary_digits digits_within
open_after_delete = at_once _ _ (OpenCursor d a_of_t) (opened d ∷ []) (open_made refl (omega arith) refl refl refl) refl

-- FETCH of five rows of a cursor that has two
fetch_five : (name : List ℕ) (p q : List Value) (cursors : List (List Value) → Option ℕ → List CursorState)
    → BeginsCommand (after_delete (cursors (p ∷ q ∷ []) (Some 0)) [] None) (Fetch name 5) [] [] (after_delete (cursors (p ∷ q ∷ []) (Some 5)) (Some name ∷ []) (Some (Fetches (Some name))))
    → Turn (after_delete (cursors (p ∷ q ∷ []) (Some 5)) (Some name ∷ []) (Some (Fetches (Some name)))) (row (Some name) p ∷ []) (after_delete (cursors (q ∷ []) (Some 4)) (Some name ∷ []) (Some (Fetches (Some name))))
    → Turn (after_delete (cursors (q ∷ []) (Some 4)) (Some name ∷ []) (Some (Fetches (Some name)))) (row (Some name) q ∷ []) (after_delete (cursors [] (Some 3)) (Some name ∷ []) (Some (Fetches (Some name))))
    → Turn (after_delete (cursors [] (Some 3)) (Some name ∷ []) (Some (Fetches (Some name)))) (ended (Some name) ∷ []) (after_delete (cursors [] (Some 0)) [] (Some (Fetches (Some name))))
    → RunsCommand (after_delete (cursors (p ∷ q ∷ []) (Some 0)) [] None) (Fetch name 5) (row (Some name) p ∷ row (Some name) q ∷ ended (Some name) ∷ []) (after_delete (cursors [] (Some 0)) [] None)
unfolding GivesTurns
fetch_five name p q cursors begins t1 t2 t3 = record {
  between = after_delete (cursors (p ∷ q ∷ []) (Some 5)) (Some name ∷ []) (Some (Fetches (Some name)));
  first = [];
  others = row (Some name) p ∷ row (Some name) q ∷ ended (Some name) ∷ [];
  begins = begins;
  joined = refl;
  finishes = record {
    turns = (row (Some name) p ∷ []) ∷ (row (Some name) q ∷ []) ∷ (ended (Some name) ∷ []) ∷ [];
    between = after_delete (cursors [] (Some 0)) [] (Some (Fetches (Some name)));
    last = [];
    given = (_, t1, (_, t2, (_, t3, refl)));
    close = fetch_ends name refl refl refl refl;
    joined = refl;
  };
}

fetch_c : RunsCommand (after_delete (cursor_c one_two (Some 0) ∷ cursor_d two_three (Some 0) ∷ []) [] None) (Fetch c 5) (number_row c 1 ∷ number_row c 2 ∷ ended (Some c) ∷ [])
    (after_delete (cursor_c [] (Some 0) ∷ cursor_d two_three (Some 0) ∷ []) [] None)
fetch_c = fetch_five c (number 1) (number 2) (λ left wanted. cursor_c left wanted ∷ cursor_d two_three (Some 0) ∷ [])
    (fetch_begun (cursor_c one_two (Some 0)) (record { is_there = refl; rests = refl }) refl refl)
    (row_turn (one_table two_three 3) 3 4 (cursor_c one_two (Some 5) ∷ cursor_d two_three (Some 0) ∷ []) (Some c) (number 1) (number 2 ∷ []) (Some 5) [] [] (Some (Fetches (Some c))) _ _ refl refl refl refl refl)
    (row_turn (one_table two_three 3) 3 4 (cursor_c (number 2 ∷ []) (Some 4) ∷ cursor_d two_three (Some 0) ∷ []) (Some c) (number 2) [] (Some 4) [] [] (Some (Fetches (Some c))) _ _ refl refl refl refl refl)
    (end_turn (one_table two_three 3) 3 4 (cursor_c [] (Some 3) ∷ cursor_d two_three (Some 0) ∷ []) (Some c) (Some 3) [] [] (Some (Fetches (Some c))) _ refl refl refl refl)

fetch_d : RunsCommand (after_delete (cursor_c [] (Some 0) ∷ cursor_d two_three (Some 0) ∷ []) [] None) (Fetch d 5) (number_row d 2 ∷ number_row d 3 ∷ ended (Some d) ∷ [])
    (after_delete (cursor_c [] (Some 0) ∷ cursor_d [] (Some 0) ∷ []) [] None)
fetch_d = fetch_five d (number 2) (number 3) (λ left wanted. cursor_c [] (Some 0) ∷ cursor_d left wanted ∷ [])
    (fetch_begun (cursor_d two_three (Some 0)) (record { is_there = refl; rests = refl }) refl refl)
    (row_turn (one_table two_three 3) 3 4 (cursor_c [] (Some 0) ∷ cursor_d two_three (Some 5) ∷ []) (Some d) (number 2) (number 3 ∷ []) (Some 5) [] [] (Some (Fetches (Some d))) _ _ refl refl refl refl refl)
    (row_turn (one_table two_three 3) 3 4 (cursor_c [] (Some 0) ∷ cursor_d (number 3 ∷ []) (Some 4) ∷ []) (Some d) (number 3) [] (Some 4) [] [] (Some (Fetches (Some d))) _ _ refl refl refl refl refl)
    (end_turn (one_table two_three 3) 3 4 (cursor_c [] (Some 0) ∷ cursor_d [] (Some 3) ∷ []) (Some d) (Some 3) [] [] (Some (Fetches (Some d))) _ refl refl refl refl)

pub cursors_stay_as_opened : CursorsStayAsOpened
cursors_stay_as_opened = record {
  last = after_delete (cursor_c [] (Some 0) ∷ cursor_d [] (Some 0) ∷ []) [] None;
  runs = (
    with_t,
    make_t,
    (
      state (one_table one_two 2) 1 [] [] [] None 4,
      fill_two,
      (
        state (one_table one_two 2) 1 (cursor_c one_two (Some 0) ∷ []) [] [] None 4,
        open_over_two,
        (
          state three 2 (cursor_c one_two (Some 0) ∷ []) [] [] None 4,
          one_row_more,
          (
            after_delete (cursor_c one_two (Some 0) ∷ []) [] None,
            one_row_less,
            (
              after_delete (cursor_c one_two (Some 0) ∷ cursor_d two_three (Some 0) ∷ []) [] None,
              open_after_delete,
              (
                after_delete (cursor_c [] (Some 0) ∷ cursor_d two_three (Some 0) ∷ []) [] None,
                fetch_c,
                (after_delete (cursor_c [] (Some 0) ∷ cursor_d [] (Some 0) ∷ []) [] None, fetch_d, refl),
              ),
            ),
          ),
        ),
      ),
    ),
  );
}

-- ---- rows come back

abbrev with_two : State
with_two = state (two_columns [] 0) 0 [] [] [] None 4

abbrev r1 : List Value
r1 = Int (pos 1) ∷ Int (pos 2) ∷ []

abbrev r2 : List Value
r2 = Int (pos 3) ∷ Null ∷ []

abbrev r3 : List Value
r3 = Int (negsuc 3) ∷ Int (pos 0) ∷ []

make_two : RunsCommand begun create_t_of_two (created ∷ []) with_two
unfolding create_table_refusal first_cause
make_two = at_once begun with_two create_t_of_two (created ∷ [])
    (table_made refl refl (record { used = 1; over = 0; versions = 0; main = within_none 1 0; temp = within_none 0 0; rows = within_none 0 0; main_fits = λ e. e; temp_fits = λ e. e; after = refl })) refl

first_rows : RunsCommand with_two (insert_into_t (literal.Int (pos 1) ∷ literal.Int (pos 2) ∷ literal.Int (pos 3) ∷ literal.Null ∷ []) (2 ∷ 4 ∷ [])) (rows 2 ∷ [])
    (state (two_columns (r1 ∷ r2 ∷ []) 2) 1 [] [] [] None 4)
unfolding insertion insert_refusal insert_meaning insert_change first_cause
first_rows = at_once with_two (state (two_columns (r1 ∷ r2 ∷ []) 2) 1 [] [] [] None 4) _ (rows 2 ∷ [])
    (rows_made (r1 ∷ r2 ∷ []) 2 refl refl refl (record { used = 1; over = 0; versions = 2; main = within_none 1 2; temp = within_none 0 0; rows = within_all 0 2; main_fits = λ e. e; temp_fits = λ e. e; after = refl })) refl

abbrev filled : List TableState
filled = two_columns (r1 ∷ r2 ∷ r3 ∷ []) 3

last_row : RunsCommand (state (two_columns (r1 ∷ r2 ∷ []) 2) 1 [] [] [] None 4) (insert_into_t (literal.Int (negsuc 3) ∷ literal.Int (pos 0) ∷ []) (2 ∷ [])) (rows 1 ∷ [])
    (state filled 2 [] [] [] None 4)
unfolding insertion insert_refusal insert_meaning insert_change first_cause
last_row = at_once (state (two_columns (r1 ∷ r2 ∷ []) 2) 1 [] [] [] None 4) (state filled 2 [] [] [] None 4) _ (rows 1 ∷ [])
    (rows_made (r1 ∷ r2 ∷ r3 ∷ []) 1 refl refl refl (record { used = 1; over = 0; versions = 3; main = within_none 1 1; temp = within_none 0 0; rows = within_all 2 1; main_fits = λ e. e; temp_fits = λ e. e; after = refl })) refl

abbrev selecting : List (List Value) → State
selecting left = state filled 2 (cursor None left None ∷ []) (None ∷ []) [] (Some (Fetches None)) 4

select_all : RunsCommand (state filled 2 [] [] [] None 4) (SelectRows all_of_t) (row None r1 ∷ row None r2 ∷ row None r3 ∷ ended None ∷ []) (state filled 2 [] [] [] None 4)
unfolding select_refusal first_cause meaning kept_rows keeps_row row_values pair_of row_pair pairs_of too_many floor_of select_need intake binary_digits digits_within GivesTurns
select_all =
    let over : State = state filled 2 (cursor None [] (Some 0) ∷ []) [] [] (Some (Fetches None)) 4 in
    let t1 : Turn (selecting (r1 ∷ r2 ∷ r3 ∷ [])) (row None r1 ∷ []) (selecting (r2 ∷ r3 ∷ [])) =
    row_turn filled 2 4 (cursor None (r1 ∷ r2 ∷ r3 ∷ []) None ∷ []) None r1 (r2 ∷ r3 ∷ []) None [] [] (Some (Fetches None)) _ _ refl refl refl refl refl in
    let t2 : Turn (selecting (r2 ∷ r3 ∷ [])) (row None r2 ∷ []) (selecting (r3 ∷ [])) =
    row_turn filled 2 4 (cursor None (r2 ∷ r3 ∷ []) None ∷ []) None r2 (r3 ∷ []) None [] [] (Some (Fetches None)) _ _ refl refl refl refl refl in
    let t3 : Turn (selecting (r3 ∷ [])) (row None r3 ∷ []) (selecting []) =
    row_turn filled 2 4 (cursor None (r3 ∷ []) None ∷ []) None r3 [] None [] [] (Some (Fetches None)) _ _ refl refl refl refl refl in
    let t4 : Turn (selecting []) (ended None ∷ []) over =
    end_turn filled 2 4 (cursor None [] None ∷ []) None None [] [] (Some (Fetches None)) _ refl refl refl refl in
    record {
      between = selecting (r1 ∷ r2 ∷ r3 ∷ []);
      first = [];
      others = row None r1 ∷ row None r2 ∷ row None r3 ∷ ended None ∷ [];
      begins = select_begun (omega arith) refl refl refl;
      joined = refl;
      finishes = record {
        turns = (row None r1 ∷ []) ∷ (row None r2 ∷ []) ∷ (row None r3 ∷ []) ∷ (ended None ∷ []) ∷ [];
        between = over;
        last = [];
        given = (selecting (r2 ∷ r3 ∷ []), t1, (selecting (r3 ∷ []), t2, (selecting [], t3, (over, t4, refl))));
        close = select_ends refl refl refl refl;
        joined = refl;
      };
    }

pub rows_come_back : RowsComeBack
rows_come_back = record {
  last = state filled 2 [] [] [] None 4;
  runs = (with_two, make_two, (state (two_columns (r1 ∷ r2 ∷ []) 2) 1 [] [] [] None 4, first_rows, (state filled 2 [] [] [] None 4, last_row, (state filled 2 [] [] [] None 4, select_all, refl))));
}
