-- What a row is made of: the bytes of its values, and where each value ends among them. Our own rule.
use Rattle.std.specs.Prelude.{◌≡◌, ℕ, zero, suc, ℤ, List, [], ◌∷◌, ◌++◌, ◌+◌, ◌-◌, ◌==◌, ◌≤◌, length, take, drop, slice_index, if◌then◌else◌}
use Rattle.std.specs.Int.{w32, w128, from_le_bytes, cast_signed}
use Rattle.std.specs.List.{AllByRecursion}
use Rattle.hg_model.specs.declared.values.Value.{Value}
use Rattle.hg_model.specs.declared.values.Value.TheVariants.{Null, Int, Text}
use Rattle.hg_value.specs.Coding.{coding, coded, IsHeld, IsStorable, IsRowOf}

-- the number that four bytes spell, and that sixteen bytes spell
unfoldable pub narrow_number : List ℕ → ℤ
narrow_number bytes = cast_signed w32 (from_le_bytes w32 bytes)

unfoldable pub wide_number : List ℕ → ℤ
wide_number bytes = cast_signed w128 (from_le_bytes w128 bytes)

-- the value that bytes spell, if they spell one
unfoldable pub decoded : List ℕ → Value
decoded [] = Null
decoded (form ∷ rest) =
    if form == 1 then Int (narrow_number rest)
    else (if form == 2 then Text (drop 1 rest)
    else (if form == 3 then Int (wide_number rest) else Null))

-- the values that end at these places, the first of them beginning at `at`
abbrev pub values_from : ℕ → List ℕ → List ℕ → List Value
values_from at [] bytes = []
values_from at (end ∷ ends) bytes = decoded (take (end - at) (drop at bytes)) ∷ values_from end ends bytes

-- where values end that begin at `at`
abbrev pub ends_from : ℕ → List Value → List ℕ
ends_from at [] = []
ends_from at (v ∷ vs) = (at + length (coding v)) ∷ ends_from (at + length (coding v)) vs

abbrev pub row_values : List ℕ → List ℕ → List Value
row_values ends bytes = values_from 0 ends bytes

-- where the value at a place begins, the first one beginning at `at`
abbrev pub begin_from : ℕ → List ℕ → ℕ → ℕ
begin_from at ends zero = at
begin_from at ends (suc k) = slice_index ends k

-- these are the parts of a row
pub record AreParts (ends bytes : List ℕ) : Type 0 where
  pub storable : IsStorable (row_values ends bytes)
  pub spelled : bytes ≡ coded (row_values ends bytes)
  pub placed : ends ≡ ends_from 0 (row_values ends bytes)

-- bytes are the coding of a value
pub record IsCoding (bytes : List ℕ) : Type 0 where
  pub value : Value
  pub held : IsHeld value
  pub is : bytes ≡ coding value

-- so many bytes at the front are the coding of a value
pub record BeginsWith (bytes : List ℕ) (n : ℕ) : Type 0 where
  pub within : n ≤ length bytes
  pub spells : IsCoding (take n bytes)

-- no value's coding stands at the front
abbrev pub BeginsWithNone : List ℕ → Type 0
BeginsWithNone bytes = (v : Value) (rest : List ℕ) → IsHeld v → coding v ++ rest ≡ bytes → ⊥

-- k values were read from the front, which end at these places, and `rest` is left
pub record HasRead (bytes rest ends : List ℕ) (k : ℕ) : Type 0 where
  pub values : List Value
  pub held : AllByRecursion IsHeld values
  pub count : length values ≡ k
  pub spelled : coded values ++ rest ≡ bytes
  pub placed : ends ≡ ends_from 0 values

-- the bytes are a row of n values, which end at these places
pub record AreEnds (n : ℕ) (bytes ends : List ℕ) : Type 0 where
  pub values : List Value
  pub row : IsRowOf values n bytes
  pub placed : ends ≡ ends_from 0 values
