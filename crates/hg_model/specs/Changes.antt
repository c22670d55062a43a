-- What INSERT, UPDATE and DELETE make of a table's rows. SQL-92, sections 13.8, 13.10 and 13.7: every
-- right side of UPDATE is computed from the old row. That unique keys are checked after the whole
-- statement, that rows have at most 1,000 coded bytes, and the order of the causes are our own rules.
use Rattle.std.specs.Prelude.{ℕ, suc, Bool, false, List, [], ◌∷◌, ◌++◌, Option, Some, None, map, length, take, drop, ◌+◌, ◌-◌, ◌==◌, ◌&&◌, ◌||◌, not, nat_lt, slice_set, if◌then◌else◌}
use Rattle.std.specs.List.{list_any, list_all, filter, count_by, sum_by, range_with_len}
use Rattle.std.specs.Option.{option_to_list}
use Rattle.hg_model.specs.Evaluation.{value_at, value_of, truth_of, literal_value}
use Rattle.hg_model.specs.Groups.{same_values}
use Rattle.hg_model.specs.NullLogic.{is_null, is_true}
use Rattle.hg_model.specs.Refusal.{Refusal, NullNotAllowed, DoesNotFit, RowTooLong, DuplicateKey, first_cause}
use Rattle.hg_model.specs.SelectMeaning.{node_values}
use Rattle.hg_model.specs.Statements.{InsertTree, UpdateTree, DeleteTree}
use Rattle.hg_model.specs.Tables.{Table, fits_type, fits_integer}
use Rattle.hg_model.specs.declared.trees.Column.{Column}
use Rattle.hg_model.specs.declared.trees.Literal.{Literal}
use Rattle.hg_model.specs.declared.values.Value.{Value}
use Rattle.hg_model.specs.declared.values.Value.TheVariants.{Null, Int, Text}
use Rattle.hg_model.specs.declared.values.NodeValue.{NodeValue}

-- the coded bytes of a value and of a row
abbrev pub value_length : Value → ℕ
value_length Null = 1
value_length (Int x) = if fits_integer x then 5 else 17
value_length (Text t) = 2 + length t

abbrev pub row_length : List Value → ℕ
row_length row = sum_by value_length row

-- the first column, in the table's order, of which a test holds
abbrev pub first_column : (ℕ → Column → Bool) → (List ℕ → Refusal) → ℕ → List Column → Option Refusal
first_column test cause k [] = None
first_column test cause k (c ∷ cs) = if test k c then Some (cause c.name) else first_column test cause (suc k) cs

-- the first column that would hold a forbidden NULL in any of the rows
abbrev pub null_cause : List Column → List (List Value) → Option Refusal
null_cause columns rows = first_column (λ k (c : Column). c.not_null && list_any (λ row. is_null (value_at row k)) rows) NullNotAllowed 0 columns

-- the first column into which any row's value does not fit
abbrev pub fit_cause : List Column → List (List Value) → Option Refusal
fit_cause columns rows = first_column (λ k (c : Column). list_any (λ row. not (fits_type c.ty (value_at row k))) rows) DoesNotFit 0 columns

abbrev pub long_cause : List (List Value) → Option Refusal
long_cause rows = if list_any (λ row. nat_lt 1000 (row_length row)) rows then Some RowTooLong else None

-- Two rows break a unique index where all its key columns are not NULL and equal.
abbrev pub key_of : List ℕ → List Value → List Value
key_of index row = map (value_at row) index

abbrev pub clash : List ℕ → List Value → List Value → Bool
clash index a b = list_all (λ v. not (is_null v)) (key_of index a) && same_values (key_of index a) (key_of index b)

abbrev pub has_double : List ℕ → List (List Value) → Bool
has_double index [] = false
has_double index (row ∷ rows) = list_any (clash index row) rows || has_double index rows

abbrev pub double_cause : List (List ℕ) → List (List Value) → Option Refusal
double_cause uniques rows = if list_any (λ index. has_double index rows) uniques then Some DuplicateKey else None

-- The first cause against a change, in this order, each over all rows of the statement: `made` are the
-- rows that it makes, `after` those of the table as it would stand.
abbrev pub change_cause : List Column → List (List ℕ) → List (List Value) → List (List Value) → Option Refusal
change_cause columns uniques made after =
    first_cause (null_cause columns made ∷ fit_cause columns made ∷ long_cause made ∷ double_cause uniques after ∷ [])

-- a change: the table's new rows and the number of rows inserted, changed or deleted, or its refusal
pub data Change : Type 0 where
  Made : List (List Value) → ℕ → Change
  Refused : Refusal → Change

abbrev pub unless : Option Refusal → Change → Change
unless None change = change
unless (Some r) change = Refused r

-- the value that a row of an INSERT has for column k: the one listed for it, or NULL
abbrev pub listed : List ℕ → List Value → ℕ → Value
listed [] vs k = Null
listed (t ∷ ts) [] k = Null
listed (t ∷ ts) (v ∷ vs) k = if t == k then v else listed ts vs k

-- the rows of constants of an INSERT; `from` is the place of the first value that is left
abbrev pub tuples_from : ℕ → List ℕ → List Literal → List (List Literal)
tuples_from from [] values = []
tuples_from from (end ∷ ends) values = take (end - from) (drop from values) ∷ tuples_from end ends values

abbrev pub new_row : List ℕ → ℕ → List ℕ → List Literal → List Value
new_row texts width targets tuple = map (listed targets (map (literal_value texts) tuple)) (range_with_len 0 width)

abbrev pub new_rows : List ℕ → ℕ → List ℕ → InsertTree → List (List Value)
new_rows texts width targets i = map (new_row texts width targets) (tuples_from 0 i.ends i.values)

-- INSERT. `targets` are the numbers of the columns listed, of all columns where none is listed.
unfoldable pub insert_change : List ℕ → Table → List (List ℕ) → List ℕ → InsertTree → Change
insert_change texts t uniques targets i =
    let rows = new_rows texts (length t.columns) targets i in
    unless (change_cause t.columns uniques rows (t.rows ++ rows)) (Made (t.rows ++ rows) (length rows))

-- whether a row passes WHERE, of what the nodes stand for over it
abbrev pub passes : Option ℕ → List NodeValue → Bool
passes filter values = list_all (λ n. is_true (truth_of values n)) (option_to_list filter)

-- a row with the values that SET gives, all computed from the old row
abbrev pub with_sets : List NodeValue → List ℕ → List (List ℕ × ℕ) → List Value → List Value
with_sets values [] sets row = row
with_sets values (t ∷ ts) [] row = row
with_sets values (t ∷ ts) (s ∷ sets) row = with_sets values ts sets (slice_set row t (value_of values s.1))

abbrev pub changed_row : List ℕ → List ℕ → List ℕ → UpdateTree → List Value → List Value
changed_row texts positions targets u row = with_sets (node_values texts positions u.nodes row) targets u.sets row

abbrev pub update_passes : List ℕ → List ℕ → UpdateTree → List Value → Bool
update_passes texts positions u row = passes u.filter (node_values texts positions u.nodes row)

-- UPDATE. `positions` has for each node the number of its column, `targets` those of the SET items.
unfoldable pub update_change : List ℕ → Table → List (List ℕ) → List ℕ → List ℕ → UpdateTree → Change
update_change texts t uniques positions targets u =
    let change = changed_row texts positions targets u in
    let keep = update_passes texts positions u in
    let made = map change (filter keep t.rows) in
    let after = map (λ row. if keep row then change row else row) t.rows in
    unless (change_cause t.columns uniques made after) (Made after (length made))

abbrev pub delete_passes : List ℕ → List ℕ → DeleteTree → List Value → Bool
delete_passes texts positions d row = passes d.filter (node_values texts positions d.nodes row)

-- DELETE, which is never refused for its rows
unfoldable pub delete_change : List ℕ → Table → List ℕ → DeleteTree → Change
delete_change texts t positions d =
    let goes = delete_passes texts positions d in
    Made (filter (λ row. not (goes row)) t.rows) (count_by goes t.rows)
