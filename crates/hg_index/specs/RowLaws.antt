-- Laws of rows that fit the columns of a table: they may be entered into its indexes, and their keys can be
-- compared.
use Rattle.std.specs.Prelude.{◌≡◌, ℕ, ◌+◌, ◌<◌, ◌≤◌, ◌&&◌, nat_le, zero, suc, Bool, true, false, List, [], ◌∷◌, ◌++◌, length, ⊤}
use Rattle.std.specs.List.{AllByRecursion}
use Rattle.std.proofs.Common.{refl, arith, length-append}
use Rattle.std.proofs.lemmas.Bool.{false≢true}
use Rattle.std.proofs.lemmas.Bool.Decides.{nat_tests}
use Rattle.std.proofs.lemmas.List.Sums.{sum_by-cons}
use Rattle.hg_model.specs.Creation.{key_length, column_length}
use Rattle.hg_model.specs.Evaluation.{value_at}
use Rattle.hg_model.specs.Tables.{fits_type, fits_columns, is_allowed}
use Rattle.hg_model.specs.Types.{type_length}
use Rattle.hg_model.specs.declared.trees.Column.{Column}
use Rattle.hg_model.specs.declared.trees.SqlType.{SqlType}
use Rattle.hg_model.specs.declared.trees.SqlType.TheVariants.{Integer, Varchar}
use Rattle.hg_model.specs.declared.values.Value.{Value}
use Rattle.hg_model.specs.declared.values.Value.TheVariants.{Null, Int, Text}
use Rattle.hg_table.specs.Versions.{Placed}
use Rattle.hg_value.specs.Coding.{IsHeld}
use Rattle.hg_value.specs.Comparing.{AreOfOneType}
use Rattle.hg_value.specs.Keys.{index_key, index_key_length, IsNarrow}
use Rattle.hg_value.specs.Laws.{IsIndexed, IndexKeysAreAsLong}
use Rattle.hg_value.specs.Looks.{chosen}
use Rattle.hg_index.specs.Entering.{row_key, MayBeEntered}
use Rattle.hg_index.specs.Finding.{FirstCompares, KeyCompares}

-- the type of a column
abbrev pub type_at : List Column → ℕ → SqlType
type_at [] k = Integer
type_at (c ∷ columns) zero = c.ty
type_at (c ∷ columns) (suc k) = type_at columns k

-- a value of this type, or NULL; a number need not fit it
abbrev pub IsOfType : SqlType → Value → Type 0
IsOfType ty Null = ⊤
IsOfType Integer (Int x) = ⊤
IsOfType Integer (Text t) = ⊥
IsOfType (Varchar n) (Int x) = ⊥
IsOfType (Varchar n) (Text t) = ⊤

-- ---- values

and_first : (a b : Bool) → (a && b) ≡ true → a ≡ true
and_first true b h = refl
and_first false b h = absurd (false≢true h)

and_second : (a b : Bool) → (a && b) ≡ true → b ≡ true
and_second true b h = h
and_second false b h = absurd (false≢true h)

pub fits_at : (columns : List Column) (row : List Value) (k : ℕ) → fits_columns columns row ≡ true → k < length columns → fits_type (type_at columns k) (value_at row k) ≡ true
fits_at [] row k h l = absurd (omega arith)
fits_at (c ∷ columns) [] k h l = absurd (false≢true h)
fits_at (c ∷ columns) (v ∷ row) zero h l = and_first (fits_type c.ty v) (is_allowed c v && fits_columns columns row) h
fits_at (c ∷ columns) (v ∷ row) (suc k) h l =
    fits_at columns row k (and_second (is_allowed c v) (fits_columns columns row) (and_second (fits_type c.ty v) (is_allowed c v && fits_columns columns row) h)) (omega arith)

fits_narrow : (ty : SqlType) (v : Value) → fits_type ty v ≡ true → IsNarrow v
fits_narrow ty Null h = tt
fits_narrow Integer (Int x) h = h
fits_narrow (Varchar n) (Int x) h = absurd (false≢true h)
fits_narrow ty (Text t) h = tt

le_told : (m n : ℕ) → nat_le m n ≡ true → m ≤ n
le_told m n h = grind (arith, nat_tests)

fits_length : (ty : SqlType) (v : Value) → fits_type ty v ≡ true → index_key_length v ≤ type_length ty
fits_length Integer Null h = omega arith
fits_length (Varchar n) Null h = omega arith
fits_length Integer (Int x) h = omega arith
fits_length (Varchar n) (Int x) h = absurd (false≢true h)
fits_length Integer (Text t) h = absurd (false≢true h)
fits_length (Varchar n) (Text t) h = let l = le_told (length t) n h in omega arith

pub fits_of_type : (ty : SqlType) (v : Value) → fits_type ty v ≡ true → IsOfType ty v
fits_of_type ty Null h = tt
fits_of_type Integer (Int x) h = tt
fits_of_type (Varchar n) (Int x) h = absurd (false≢true h)
fits_of_type Integer (Text t) h = absurd (false≢true h)
fits_of_type (Varchar n) (Text t) h = tt

pub of_one_type : (ty : SqlType) (v w : Value) → IsOfType ty v → IsOfType ty w → AreOfOneType v w
of_one_type ty Null w h g = tt
of_one_type ty (Int x) Null h g = tt
of_one_type ty (Int x) (Int y) h g = tt
of_one_type Integer (Int x) (Text t) h g = absurd g
of_one_type (Varchar n) (Int x) (Text t) h g = absurd h
of_one_type ty (Text s) Null h g = tt
of_one_type Integer (Text s) (Int y) h g = absurd h
of_one_type (Varchar n) (Text s) (Int y) h g = absurd g
of_one_type ty (Text s) (Text t) h g = tt

held_at : (row : List Value) (k : ℕ) → AllByRecursion IsHeld row → IsHeld (value_at row k)
held_at [] k h = tt
held_at (v ∷ row) zero h = h.0
held_at (v ∷ row) (suc k) h = held_at row k h.1

row_length : (columns : List Column) (row : List Value) → fits_columns columns row ≡ true → length columns ≤ length row
row_length [] row h = omega arith
row_length (c ∷ columns) [] h = absurd (false≢true h)
row_length (c ∷ columns) (v ∷ row) h =
    let r = row_length columns row (and_second (is_allowed c v) (fits_columns columns row) (and_second (fits_type c.ty v) (is_allowed c v && fits_columns columns row) h)) in omega arith

length_at : (columns : List Column) (k : ℕ) → k < length columns → column_length columns k ≡ type_length (type_at columns k)
length_at [] k l = absurd (omega arith)
length_at (c ∷ columns) zero l = refl
length_at (c ∷ columns) (suc k) l = length_at columns k (omega arith)

-- ---- rows

keys_there : (columns : List Column) (row : List Value) (keys : List ℕ) → fits_columns columns row ≡ true → AllByRecursion (λ k. k < length columns) keys
    → AllByRecursion (λ k. k < length row) keys
keys_there columns row [] h l = tt
keys_there columns row (k ∷ keys) h l = (let r = row_length columns row h in let m = l.0 in omega arith, keys_there columns row keys h l.1)

keys_indexed : (columns : List Column) (row : List Value) (keys : List ℕ) → fits_columns columns row ≡ true → AllByRecursion IsHeld row → AllByRecursion (λ k. k < length columns) keys
    → AllByRecursion IsIndexed (chosen row keys)
keys_indexed columns row [] h held l = tt
keys_indexed columns row (k ∷ keys) h held l =
    ((held_at row k held, fits_narrow (type_at columns k) (value_at row k) (fits_at columns row k h l.0)), keys_indexed columns row keys h held l.1)

keys_short : IndexKeysAreAsLong → (columns : List Column) (row : List Value) (keys : List ℕ) → fits_columns columns row ≡ true → AllByRecursion (λ k. k < length columns) keys
    → length (row_key keys row) ≤ key_length columns keys
keys_short long columns row [] h l = omega arith
keys_short long columns row (k ∷ keys) h l =
    let a = length-append (index_key (value_at row k)) (row_key keys row) in
    let b = long (value_at row k) in
    let c = fits_length (type_at columns k) (value_at row k) (fits_at columns row k h l.0) in
    let d = length_at columns k l.0 in
    let r = keys_short long columns row keys h l.1 in
    let e : length (row_key (k ∷ keys) row) ≡ length (index_key (value_at row k) ++ row_key keys row) = refl in
    let f : key_length columns (k ∷ keys) ≡ column_length columns k + key_length columns keys = sum_by-cons (column_length columns) k keys in
    omega arith

-- A row that fits the columns of a table may be entered into an index of them whose declared lengths are
-- together at most 512.
abbrev pub RowsMayBeEntered : Type 0
RowsMayBeEntered = (columns : List Column) (row : List Value) (keys : List ℕ) → fits_columns columns row ≡ true → AllByRecursion IsHeld row
    → AllByRecursion (λ k. k < length columns) keys → key_length columns keys ≤ 512 → MayBeEntered keys row

pub may_be_entered : IndexKeysAreAsLong → RowsMayBeEntered
may_be_entered long columns row keys h held l s = record {
  there = keys_there columns row keys h l;
  indexed = keys_indexed columns row keys h held l;
  short = let k = keys_short long columns row keys h l in omega arith;
}

-- two rows that fit are of one shape
pub keys_compare : (columns : List Column) (row : List Value) (v : Placed) (keys : List ℕ) → fits_columns columns row ≡ true → fits_columns columns v.version.row ≡ true
    → AllByRecursion (λ k. k < length columns) keys → KeyCompares keys row v
keys_compare columns row v [] h g l = tt
keys_compare columns row v (k ∷ keys) h g l = (
  of_one_type (type_at columns k) (value_at row k) (value_at v.version.row k)
      (fits_of_type (type_at columns k) (value_at row k) (fits_at columns row k h l.0))
      (fits_of_type (type_at columns k) (value_at v.version.row k) (fits_at columns v.version.row k g l.0)),
  keys_compare columns row v keys h g l.1,
)

-- so are a value of the first column's type and the one that a row has there
pub first_compares : (columns : List Column) (first : Value) (v : Placed) (k : ℕ) (keys : List ℕ) → k < length columns → IsOfType (type_at columns k) first
    → fits_columns columns v.version.row ≡ true → FirstCompares (k ∷ keys) first v
first_compares columns first v k keys l t g =
    of_one_type (type_at columns k) first (value_at v.version.row k) t (fits_of_type (type_at columns k) (value_at v.version.row k) (fits_at columns v.version.row k g l))
