-- How values and rows are spelled in bytes. Our own rule: NULL is the byte 0; a number of 32 bits
-- signed the byte 1 and four bytes; a text the byte 2, its length and its bytes; any other number
-- the byte 3 and sixteen bytes. Numbers are in two's complement, the least byte first.
use Rattle.std.specs.Prelude.{ℕ, ℤ, List, [], ◌∷◌, ◌+◌, ◌<◌, ◌≤◌, ◌≡◌, length, IsTrue, FitsSigned, if◌then◌else◌, ⊤}
use Rattle.std.specs.Int.{w32, w128, to_le_bytes, cast_unsigned}
use Rattle.std.specs.List.{flat_map, AllByRecursion}
use Rattle.hg_model.specs.Tables.{fits_integer}
use Rattle.hg_model.specs.Value.{is_chars}
use Rattle.hg_model.specs.declared.values.Value.{Value}
use Rattle.hg_model.specs.declared.values.Value.TheVariants.{Null, Int, Text}

-- a number in four bytes, and in sixteen
unfoldable pub narrow : ℤ → List ℕ
narrow x = to_le_bytes w32 (cast_unsigned w32 x)

unfoldable pub wide : ℤ → List ℕ
wide x = to_le_bytes w128 (cast_unsigned w128 x)

-- the bytes of a value; the wide form only where the narrow one does not do
abbrev pub coding : Value → List ℕ
coding Null = 0 ∷ []
coding (Int x) = if fits_integer x then 1 ∷ narrow x else 3 ∷ wide x
coding (Text t) = 2 ∷ length t ∷ t

-- the bytes of a row: those of its values, one after the other
abbrev pub coded : List Value → List ℕ
coded vs = flat_map coding vs

-- what a value can be: a number has 128 bits signed, a text 0 to 255 printable characters
abbrev pub IsHeld : Value → Type 0
IsHeld Null = ⊤
IsHeld (Int x) = FitsSigned w128 x
IsHeld (Text t) = IsTrue (is_chars t)

-- a list of values that a row can be
pub record IsStorable (vs : List Value) : Type 0 where
  pub few : length vs ≤ 64
  pub held : AllByRecursion IsHeld vs
  pub short : length (coded vs) ≤ 3900

-- a row has room for one more value
pub record HasRoom (vs : List Value) (v : Value) : Type 0 where
  pub place : length vs < 64
  pub bytes : length (coded vs) + length (coding v) ≤ 3900

-- a row of n values has these bytes
pub record IsRowOf (vs : List Value) (n : ℕ) (bytes : List ℕ) : Type 0 where
  pub storable : IsStorable vs
  pub count : length vs ≡ n
  pub spelled : coded vs ≡ bytes

-- no row of n values has these bytes
abbrev pub IsNoRow : ℕ → List ℕ → Type 0
IsNoRow n bytes = (vs : List Value) → IsRowOf vs n bytes → ⊥
