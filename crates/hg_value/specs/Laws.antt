-- Laws of codings and keys. Each stands on the contract of a small function of this crate.
use Rattle.std.specs.Prelude.{◌≡◌, ℕ, List, ◌++◌, length}
use Rattle.std.specs.Cmp.Lexicographic.{slice_cmp}
use Rattle.std.specs.List.{AllByRecursion}
use Rattle.std.specs.Ordering.{nat_cmp, ordering_then}
use Rattle.hg_model.specs.Changes.{value_length, row_length}
use Rattle.hg_model.specs.Order.{value_cmp}
use Rattle.hg_model.specs.declared.values.Value.{Value}
use Rattle.hg_value.specs.Coding.{coding, coded, IsHeld}
use Rattle.hg_value.specs.Comparing.{AreOfOneType, AreOfOneShape}
use Rattle.hg_value.specs.Keys.{index_key, working_key, index_key_length, working_key_length, key_of_columns, IsNarrow}

-- a value's coding, and a row's, has as many bytes as it is said to have
abbrev pub ValuesAreAsLong : Type 0
ValuesAreAsLong = (v : Value) → length (coding v) ≡ value_length v

abbrev pub RowsAreAsLong : Type 0
RowsAreAsLong = (vs : List Value) → length (coded vs) ≡ row_length vs

-- so has a value's key, that of an index and that by which joins and groups work
abbrev pub IndexKeysAreAsLong : Type 0
IndexKeysAreAsLong = (v : Value) → length (index_key v) ≡ index_key_length v

abbrev pub WorkingKeysAreAsLong : Type 0
WorkingKeysAreAsLong = (v : Value) → length (working_key v) ≡ working_key_length v

-- bytes spell one row of so many values at most, whatever stands behind them
abbrev pub CodingsTell : Type 0
CodingsTell = (vs ws : List Value) (xs ys : List ℕ) → AllByRecursion IsHeld vs → AllByRecursion IsHeld ws → length vs ≡ length ws
    → coded vs ++ xs ≡ coded ws ++ ys → (vs ≡ ws) × (xs ≡ ys)

-- keys of two values of one type compare as the values do; of equal values, as what stands behind
abbrev pub KeysCompare : (Value → List ℕ) → (Value → Type 0) → Type 0
KeysCompare key Fits = (v w : Value) (xs ys : List ℕ) → Fits v → Fits w → AreOfOneType v w
    → slice_cmp nat_cmp (key v ++ xs) (key w ++ ys) ≡ ordering_then (value_cmp v w) (slice_cmp nat_cmp xs ys)

-- keys of several columns compare column after column
abbrev pub ColumnsCompare : (Value → List ℕ) → (Value → Type 0) → Type 0
ColumnsCompare key Fits = (vs ws : List Value) (xs ys : List ℕ) → AllByRecursion Fits vs → AllByRecursion Fits ws → AreOfOneShape vs ws
    → slice_cmp nat_cmp (key_of_columns key vs ++ xs) (key_of_columns key ws ++ ys)
    ≡ ordering_then (slice_cmp value_cmp vs ws) (slice_cmp nat_cmp xs ys)

-- equal keys have equal values, and the same stands behind them
abbrev pub KeysTell : (Value → List ℕ) → (Value → Type 0) → Type 0
KeysTell key Fits = (vs ws : List Value) (xs ys : List ℕ) → AllByRecursion Fits vs → AllByRecursion Fits ws → AreOfOneShape vs ws
    → key_of_columns key vs ++ xs ≡ key_of_columns key ws ++ ys → (vs ≡ ws) × (xs ≡ ys)

-- what a key of an index is made of
abbrev pub IsIndexed : Value → Type 0
IsIndexed v = IsHeld v × IsNarrow v

abbrev pub IndexKeysCompare : Type 0
IndexKeysCompare = KeysCompare index_key IsIndexed

abbrev pub IndexColumnsCompare : Type 0
IndexColumnsCompare = ColumnsCompare index_key IsIndexed

abbrev pub IndexKeysTell : Type 0
IndexKeysTell = KeysTell index_key IsIndexed

abbrev pub WorkingKeysCompare : Type 0
WorkingKeysCompare = KeysCompare working_key IsHeld

abbrev pub WorkingColumnsCompare : Type 0
WorkingColumnsCompare = ColumnsCompare working_key IsHeld

abbrev pub WorkingKeysTell : Type 0
WorkingKeysTell = KeysTell working_key IsHeld
