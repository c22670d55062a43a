-- Tables as the definitions see them: a name, columns and a list of rows. Our own rule.
use Rattle.std.specs.Prelude.{ℕ, Bool, true, false, List, [], ◌∷◌, ◌++◌, Option, ℤ, pos, negsuc, nat_le, nat_lt, ◌^◌, not, ◌&&◌, map, length, nat_eq}
use Rattle.std.specs.List.{find, flat_map, list_all}
use lib.Pointwise.{pointwise}
use Rattle.hg_model.specs.NullLogic.{is_null}
use Rattle.hg_model.specs.declared.values.Value.{Value}
use Rattle.hg_model.specs.declared.values.Value.TheVariants.{Null, Int, Text}
use Rattle.hg_model.specs.declared.trees.Column.{Column}
use Rattle.hg_model.specs.declared.trees.SqlType.{SqlType}
use Rattle.hg_model.specs.declared.trees.SqlType.TheVariants.{Integer, Varchar}

pub record Table : Type 0 where
  pub name : List ℕ
  pub columns : List Column
  pub rows : List (List Value)

abbrev pub same_name : List ℕ → List ℕ → Bool
same_name = pointwise nat_eq

-- 32 bits signed
abbrev pub fits_integer : ℤ → Bool
fits_integer (pos n) = nat_lt n (2 ^ 31)
fits_integer (negsuc n) = nat_lt n (2 ^ 31)

-- whether a column can hold a value; NULL fits every type
abbrev pub fits_type : SqlType → Value → Bool
fits_type ty Null = true
fits_type Integer (Int x) = fits_integer x
fits_type Integer (Text t) = false
fits_type (Varchar n) (Int x) = false
fits_type (Varchar n) (Text t) = nat_le (length t) n

-- whether a column may hold a value: NULL only where it is allowed
abbrev pub is_allowed : Column → Value → Bool
is_allowed c v = not (c.not_null && is_null v)

-- a row of a table: one fitting and allowed value for each column
abbrev pub fits_columns : List Column → List Value → Bool
fits_columns [] [] = true
fits_columns [] (v ∷ vs) = false
fits_columns (c ∷ cs) [] = false
fits_columns (c ∷ cs) (v ∷ vs) = fits_type c.ty v && (is_allowed c v && fits_columns cs vs)

abbrev pub table_fits : Table → Bool
table_fits t = list_all (fits_columns t.columns) t.rows

-- the table of a name, if there is one
abbrev pub table_named : List Table → List ℕ → Option Table
table_named tables name = find (λ t. same_name t.name name) tables

-- The cross product (SQL-92, section 7.4): each row of the first table with each of the others, the
-- rows one behind the other; the first table is the slowest.
abbrev pub cross : List (List (List Value)) → List (List Value)
cross [] = [] ∷ []
cross (rows ∷ more) = flat_map (λ row. map (λ rest. row ++ rest) (cross more)) rows
