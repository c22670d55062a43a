-- How many pages a command may need at most. Our own rule. `rows` are the rows that it inserts, changes or
-- deletes, or would; for CREATE INDEX and VACUUM the versions of the table. `indexes` are the table's.
use Rattle.std.specs.Prelude.{ℕ, Bool, ◌+◌, ◌*◌, if◌then◌else◌}

-- temporary pages of a cursor, where its plan takes rows in at all; `intake` are the rows taken in by its
-- hash joins, grouping, DISTINCT and sort
abbrev pub cursor_need : Bool → ℕ → ℕ
cursor_need takes_in intake = if takes_in then 128 + 4 * intake else 0

-- temporary pages of a change, of CREATE INDEX and of VACUUM
abbrev pub change_need : ℕ → ℕ → ℕ
change_need rows indexes = 128 + 4 * rows * (indexes + 1)

-- main pages of INSERT and UPDATE, of CREATE INDEX and of CREATE TABLE; DELETE and VACUUM need none
abbrev pub main_need_of_change : ℕ → ℕ → ℕ
main_need_of_change rows indexes = rows + 22 * rows * indexes

abbrev pub main_need_of_index : ℕ → ℕ
main_need_of_index rows = 1 + 22 * rows

abbrev pub main_need_of_table : ℕ → ℕ
main_need_of_table keys = keys
