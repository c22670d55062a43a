-- The three-valued logic of conditions, and comparison. SQL-92, section 8.12 (the tables of AND, OR
-- and NOT) and section 8.2 (comparison: NULL on either side is unknown). That texts compare byte by
-- byte and without padding, a proper prefix being less, is our own rule.
use Rattle.std.specs.Prelude.{Bool, true, false}
use Rattle.std.specs.declared.cmp.Ordering.{Ordering}
use Rattle.std.specs.Ordering.{is_eq, is_lt, is_gt, is_le, is_ge, is_ne, int_cmp, nat_cmp}
use Rattle.std.specs.Cmp.Lexicographic.{slice_cmp}
use Rattle.hg_model.specs.declared.values.Value.{Value}
use Rattle.hg_model.specs.declared.values.Value.TheVariants.{Null, Int, Text}
use Rattle.hg_model.specs.declared.trees.Truth.{Truth}
use Rattle.hg_model.specs.declared.trees.Truth.TheVariants.{True, False, Unknown}
use Rattle.hg_model.specs.declared.trees.Cmp.{Cmp}
use Rattle.hg_model.specs.declared.trees.Cmp.TheVariants as cmp

abbrev pub both : Truth → Truth → Truth
both True True = True
both True False = False
both True Unknown = Unknown
both False True = False
both False False = False
both False Unknown = False
both Unknown True = Unknown
both Unknown False = False
both Unknown Unknown = Unknown

abbrev pub either : Truth → Truth → Truth
either True True = True
either True False = True
either True Unknown = True
either False True = True
either False False = False
either False Unknown = Unknown
either Unknown True = True
either Unknown False = Unknown
either Unknown Unknown = Unknown

abbrev pub opposite : Truth → Truth
opposite True = False
opposite False = True
opposite Unknown = Unknown

-- a filter keeps True alone
abbrev pub is_true : Truth → Bool
is_true True = true
is_true False = false
is_true Unknown = false

abbrev pub known : Bool → Truth
known true = True
known false = False

-- whether a comparison holds of two values that stand so to each other
abbrev pub holds : Cmp → Ordering → Bool
holds cmp.Eq o = is_eq o
holds cmp.Ne o = is_ne o
holds cmp.Lt o = is_lt o
holds cmp.Le o = is_le o
holds cmp.Gt o = is_gt o
holds cmp.Ge o = is_ge o

-- A comparison with NULL is unknown. A number is never compared with a text: such a statement is
-- refused.
abbrev pub compare : Cmp → Value → Value → Truth
compare c Null w = Unknown
compare c (Int x) Null = Unknown
compare c (Int x) (Int y) = known (holds c (int_cmp x y))
compare c (Int x) (Text t) = Unknown
compare c (Text s) Null = Unknown
compare c (Text s) (Int y) = Unknown
compare c (Text s) (Text t) = known (holds c (slice_cmp nat_cmp s t))

-- IS NULL, which is never unknown
abbrev pub is_null : Value → Bool
is_null Null = true
is_null (Int x) = false
is_null (Text t) = false

-- Whether two values are the same for GROUP BY and DISTINCT: here two NULLs are equal (SQL-92,
-- section 3.1, 'distinct').
abbrev pub same_value : Value → Value → Bool
same_value Null Null = true
same_value Null (Int y) = false
same_value Null (Text t) = false
same_value (Int x) Null = false
same_value (Int x) (Int y) = is_eq (int_cmp x y)
same_value (Int x) (Text t) = false
same_value (Text s) Null = false
same_value (Text s) (Int y) = false
same_value (Text s) (Text t) = is_eq (slice_cmp nat_cmp s t)
