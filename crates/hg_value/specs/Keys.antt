-- Keys: bytes that compare one by one as the values do, NULL first. Our own rule: NULL is the byte
-- 0; a number the byte 1 and its bytes, moved up so that none is below zero, the highest byte
-- first; a text the byte 1, its bytes, and the byte 0, which is less than each of them.
use Rattle.std.specs.Prelude.{ℕ, suc, ℤ, pos, negsuc, List, [], ◌∷◌, ◌++◌, ◌+◌, ◌-◌, ◌^◌, length, IsTrue, ⊤}
use Rattle.std.specs.Int.{w32, w128, to_be_bytes}
use Rattle.std.specs.List.{flat_map}
use Rattle.hg_model.specs.Tables.{fits_integer}
use Rattle.hg_model.specs.declared.values.Value.{Value}
use Rattle.hg_model.specs.declared.values.Value.TheVariants.{Null, Int, Text}

-- a number moved up by 2^k
abbrev pub raised : ℕ → ℤ → ℕ
raised k (pos n) = 2 ^ k + n
raised k (negsuc n) = 2 ^ k - suc n

-- a number of 32 bits and one of 128 bits, moved up, the highest byte first
unfoldable pub narrow_raised : ℤ → List ℕ
narrow_raised x = to_be_bytes w32 (raised 31 x)

unfoldable pub wide_raised : ℤ → List ℕ
wide_raised x = to_be_bytes w128 (raised 127 x)

-- the key of a value in an index, whose numbers have 32 bits
abbrev pub index_key : Value → List ℕ
index_key Null = 0 ∷ []
index_key (Int x) = 1 ∷ narrow_raised x
index_key (Text t) = 1 ∷ (t ++ 0 ∷ [])

-- the key of any value, by which joins and groups work
abbrev pub working_key : Value → List ℕ
working_key Null = 0 ∷ []
working_key (Int x) = 1 ∷ wide_raised x
working_key (Text t) = 1 ∷ (t ++ 0 ∷ [])

-- how many bytes the key of a value in an index has, and the key by which joins and groups work
abbrev pub index_key_length : Value → ℕ
index_key_length Null = 1
index_key_length (Int x) = 5
index_key_length (Text t) = 2 + length t

abbrev pub working_key_length : Value → ℕ
working_key_length Null = 1
working_key_length (Int x) = 17
working_key_length (Text t) = 2 + length t

-- no number but one of 32 bits
abbrev pub IsNarrow : Value → Type 0
IsNarrow Null = ⊤
IsNarrow (Int x) = IsTrue (fits_integer x)
IsNarrow (Text t) = ⊤

-- the key of several columns: their keys, one after the other
abbrev pub key_of_columns : (Value → List ℕ) → List Value → List ℕ
key_of_columns key vs = flat_map key vs
