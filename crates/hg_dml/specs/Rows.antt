-- Which rows an INSERT makes, and which cause against them is answered: its code, and the number of the
-- column that it names. Our own rule.
use Rattle.std.specs.Prelude.{◌≡◌, ℕ, List, [], Option, Some, None, map, length, option_map, slice_get}
use Rattle.hg_model.specs.Changes.{new_row, tuples_from, change_cause}
use Rattle.hg_model.specs.Refusal.{Refusal, UnknownTable, UnknownColumn, AmbiguousColumn, TypeMismatch, TooWide, NameTaken, TooMany, NotGrouped, DoesNotFit, NullNotAllowed, DuplicateKey, BadNumber, RowTooLong, StampsUsedUp, KeyTooLong}
use Rattle.hg_model.specs.declared.trees.Column.{Column}
use Rattle.hg_model.specs.declared.trees.Literal.{Literal}
use Rattle.hg_model.specs.declared.values.Value.{Value}

-- The rows of an INSERT whose values and the places behind each row's last are these: what `new_rows` says.
abbrev pub rows_of_tuples : List ℕ → List Column → List ℕ → List Literal → List ℕ → List (List Value)
rows_of_tuples texts columns targets values ends = map (new_row texts (length columns) targets) (tuples_from 0 ends values)

-- The first cause against rows that are made for a table without a unique index. What else the table
-- holds is then no cause.
abbrev pub rows_cause : List Column → List (List Value) → Option Refusal
rows_cause columns made = change_cause columns [] made []

-- the column of this number has the name
abbrev pub Names : List Column → Option ℕ → List ℕ → Type 0
Names columns None name = ⊥
Names columns (Some k) name = option_map (λ (c : Column). c.name) (slice_get columns k) ≡ Some name

-- The cause that a code and a column's number tell.
abbrev pub Tells : List Column → ℕ → Option ℕ → Refusal → Type 0
Tells columns code column (NullNotAllowed name) = (code ≡ 12) × Names columns column name
Tells columns code column (DoesNotFit name) = (code ≡ 11) × Names columns column name
Tells columns code column RowTooLong = (code ≡ 23) × (column ≡ None)
Tells columns code column DuplicateKey = (code ≡ 13) × (column ≡ None)
Tells columns code column (UnknownTable t) = ⊥
Tells columns code column (UnknownColumn c) = ⊥
Tells columns code column (AmbiguousColumn c) = ⊥
Tells columns code column TypeMismatch = ⊥
Tells columns code column TooWide = ⊥
Tells columns code column (NameTaken n) = ⊥
Tells columns code column (TooMany k) = ⊥
Tells columns code column NotGrouped = ⊥
Tells columns code column BadNumber = ⊥
Tells columns code column StampsUsedUp = ⊥
Tells columns code column KeyTooLong = ⊥
