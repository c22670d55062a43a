-- The types of the nodes of an expression, and their bounds on width and length. That a number and a
-- text are never mixed, and that a condition is no value, is SQL-92, sections 8.2 and 6.11; the bounds
-- are our own rule.
use Rattle.std.specs.Prelude.{ℕ, Bool, true, false, List, [], ◌∷◌, ◌++◌, Option, Some, None, ◌+◌, max, nat_abs, nat_lt, nat_le, ◌^◌, ◌&&◌, not, slice_index, slice_index_or, length}
use Rattle.std.specs.List.{position_or_len, range_with_len, list_all}
use Rattle.hg_model.specs.declared.trees.SqlType.{SqlType}
use Rattle.hg_model.specs.declared.trees.SqlType.TheVariants.{Integer, Varchar}
use Rattle.hg_model.specs.declared.trees.Literal.{Literal}
use Rattle.hg_model.specs.declared.trees.Literal.TheVariants as literal
use Rattle.hg_model.specs.declared.trees.Op.{Op}
use Rattle.hg_model.specs.declared.trees.Op.TheVariants.{Add, Sub, Mul}
use Rattle.hg_model.specs.declared.trees.Fold.{Fold}
use Rattle.hg_model.specs.declared.trees.Fold.TheVariants as of
use Rattle.hg_model.specs.declared.trees.Node.{Node}
use Rattle.hg_model.specs.declared.trees.Node.TheVariants as node

-- what a node gives: a number, a text, NULL alone, or the truth of a condition
pub data Kind : Type 0 where
  Number : Kind
  Letters : Kind
  Nothing : Kind
  Condition : Kind

abbrev pub kind_of_type : SqlType → Kind
kind_of_type Integer = Number
kind_of_type (Varchar n) = Letters

abbrev pub kind_of_literal : Literal → Kind
kind_of_literal literal.Null = Nothing
kind_of_literal (literal.Int x) = Number
kind_of_literal (literal.Text s) = Letters

abbrev pub kind_at : List Kind → ℕ → Kind
kind_at done n = slice_index_or done n Nothing

abbrev pub kind_of_fold : Fold → Kind → Kind
kind_of_fold of.CountRows k = Number
kind_of_fold of.Count k = Number
kind_of_fold of.Sum k = Number
kind_of_fold of.Min k = k
kind_of_fold of.Max k = k

abbrev pub operand_kind : List Kind → Option ℕ → Kind
operand_kind done None = Nothing
operand_kind done (Some a) = kind_at done a

-- `leaf` is the kind of the node where it is a column
abbrev pub kind_of : Kind → Node → List Kind → Kind
kind_of leaf (node.Lit l) done = kind_of_literal l
kind_of leaf (node.Col c) done = leaf
kind_of leaf (node.Neg a) done = Number
kind_of leaf (node.Arith o a b) done = Number
kind_of leaf (node.Aggregate f a) done = kind_of_fold f (operand_kind done a)
kind_of leaf _ done = Condition

abbrev pub is_condition : Kind → Bool
is_condition Condition = true
is_condition Number = false
is_condition Letters = false
is_condition Nothing = false

abbrev pub is_value : Kind → Bool
is_value k = not (is_condition k)

-- a number or NULL, which fits every type
abbrev pub is_number : Kind → Bool
is_number Number = true
is_number Nothing = true
is_number Letters = false
is_number Condition = false

-- two values that may be compared, or assigned: no number with a text
abbrev pub agree : Kind → Kind → Bool
agree Number Letters = false
agree Letters Number = false
agree Condition k = false
agree k Condition = false
agree Number Number = true
agree Number Nothing = true
agree Letters Letters = true
agree Letters Nothing = true
agree Nothing Number = true
agree Nothing Letters = true
agree Nothing Nothing = true

abbrev pub fold_fits : Fold → Kind → Bool
fold_fits of.CountRows k = true
fold_fits of.Count k = is_value k
fold_fits of.Sum k = is_number k
fold_fits of.Min k = is_value k
fold_fits of.Max k = is_value k

abbrev pub operand_fits : Fold → List Kind → Option ℕ → Bool
operand_fits f done None = true
operand_fits f done (Some a) = fold_fits f (kind_at done a)

-- whether a node's children are of the kinds that it takes
abbrev pub is_well_typed : Node → List Kind → Bool
is_well_typed (node.Lit l) done = true
is_well_typed (node.Col c) done = true
is_well_typed (node.Neg a) done = is_number (kind_at done a)
is_well_typed (node.Arith o a b) done = is_number (kind_at done a) && is_number (kind_at done b)
is_well_typed (node.Compare c a b) done = agree (kind_at done a) (kind_at done b)
is_well_typed (node.Both a b) done = is_condition (kind_at done a) && is_condition (kind_at done b)
is_well_typed (node.Either a b) done = is_condition (kind_at done a) && is_condition (kind_at done b)
is_well_typed (node.Not a) done = is_condition (kind_at done a)
is_well_typed (node.IsNull a) done = is_value (kind_at done a)
is_well_typed (node.NotNull a) done = is_value (kind_at done a)
is_well_typed (node.Aggregate f a) done = operand_fits f done a

-- the kinds of all nodes, where `leaves` has that of each column at its index
abbrev pub kinds_from : List Kind → List Node → List Kind → List Kind
kinds_from leaves [] done = done
kinds_from leaves (n ∷ ns) done = kinds_from leaves ns (done ++ kind_of (kind_at leaves (length done)) n done ∷ [])

abbrev pub all_well_typed : List Node → List Kind → Bool
all_well_typed nodes kinds = list_all (λ n. is_well_typed n kinds) nodes

-- the least b from 1 on with n below 2^b, where it is at most `limit`: how many binary digits n has
unfoldable pub digits_within : ℕ → ℕ → ℕ
digits_within limit n = 1 + position_or_len (λ b. nat_lt n (2 ^ (b + 1))) (range_with_len 0 limit)

unfoldable pub binary_digits : ℕ → ℕ
binary_digits n = digits_within 128 n

abbrev pub literal_bound : Literal → ℕ
literal_bound literal.Null = 1
literal_bound (literal.Int x) = binary_digits (nat_abs x)
literal_bound (literal.Text s) = 1

abbrev pub arithmetic_bound : Op → ℕ → ℕ → ℕ
arithmetic_bound Add a b = max a b + 1
arithmetic_bound Sub a b = max a b + 1
arithmetic_bound Mul a b = a + b

abbrev pub bound_at : List ℕ → ℕ → ℕ
bound_at done n = slice_index done n

abbrev pub fold_bound : Fold → List ℕ → Option ℕ → ℕ
fold_bound of.CountRows done a = 31
fold_bound of.Count done a = 31
fold_bound of.Sum done None = 30
fold_bound of.Sum done (Some a) = 30 + bound_at done a
fold_bound of.Min done None = 1
fold_bound of.Min done (Some a) = bound_at done a
fold_bound of.Max done None = 1
fold_bound of.Max done (Some a) = bound_at done a

-- The bound on width of a node: its value lies below 2^bound in magnitude where it is a number. Of a
-- text and of a condition no width is asked.
abbrev pub bound_of : Node → List ℕ → ℕ
bound_of (node.Lit l) done = literal_bound l
bound_of (node.Col c) done = 32
bound_of (node.Neg a) done = bound_at done a
bound_of (node.Arith o a b) done = arithmetic_bound o (bound_at done a) (bound_at done b)
bound_of (node.Aggregate f a) done = fold_bound f done a
bound_of _ done = 1

abbrev pub bounds_from : List Node → List ℕ → List ℕ
bounds_from [] done = done
bounds_from (n ∷ ns) done = bounds_from ns (done ++ bound_of n done ∷ [])

abbrev pub bounds_of : List Node → List ℕ
bounds_of nodes = bounds_from nodes []

abbrev pub is_narrow : ℕ → Bool
is_narrow b = nat_le b 126

-- the widest that may be evaluated: every node at most 126 bits
abbrev pub all_narrow : List Node → Bool
all_narrow nodes = list_all is_narrow (bounds_of nodes)

-- the declared length of a column: its coded bytes are at most so many
abbrev pub type_length : SqlType → ℕ
type_length Integer = 5
type_length (Varchar n) = 2 + n

abbrev pub literal_length : Literal → ℕ
literal_length literal.Null = 1
literal_length (literal.Int x) = 17
literal_length (literal.Text s) = 2 + s.len

-- the length of a least or greatest value: that of its operand where that is no number
abbrev pub extreme_length : Kind → ℕ → ℕ
extreme_length Number n = 17
extreme_length Condition n = 17
extreme_length Letters n = n
extreme_length Nothing n = n

abbrev pub fold_length : Fold → List Kind → List ℕ → Option ℕ → ℕ
fold_length of.CountRows kinds done a = 17
fold_length of.Count kinds done a = 17
fold_length of.Sum kinds done a = 17
fold_length of.Min kinds done None = 17
fold_length of.Min kinds done (Some a) = extreme_length (kind_at kinds a) (slice_index done a)
fold_length of.Max kinds done None = 17
fold_length of.Max kinds done (Some a) = extreme_length (kind_at kinds a) (slice_index done a)

-- the declared length of a node; `leaf` is that of a column
abbrev pub length_of : List Kind → ℕ → Node → List ℕ → ℕ
length_of kinds leaf (node.Lit l) done = literal_length l
length_of kinds leaf (node.Col c) done = leaf
length_of kinds leaf (node.Neg a) done = 17
length_of kinds leaf (node.Arith o a b) done = 17
length_of kinds leaf (node.Aggregate f a) done = fold_length f kinds done a
length_of kinds leaf _ done = 0

abbrev pub lengths_from : List Kind → List ℕ → List Node → List ℕ → List ℕ
lengths_from kinds leaves [] done = done
lengths_from kinds leaves (n ∷ ns) done =
    lengths_from kinds leaves ns (done ++ length_of kinds (slice_index leaves (length done)) n done ∷ [])
