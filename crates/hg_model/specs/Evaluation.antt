-- What the nodes of an expression stand for. SQL-92, sections 6.11 (arithmetic: NULL gives NULL) and
-- 8.1 to 8.12 (predicates and conditions). Numbers have no bound here. A node's children stand before
-- it, so the nodes are read from the front, each from those before it.
use Rattle.std.specs.Prelude.{ℕ, List, [], ◌∷◌, ◌++◌, length, take, drop, slice_index_or, ◌+ℤ◌, ◌-ℤ◌, ◌*ℤ◌, neg_ℤ, not}
use Rattle.hg_model.specs.NullLogic.{both, either, opposite, known, compare, is_null}
use Rattle.hg_model.specs.declared.values.Value.{Value}
use Rattle.hg_model.specs.declared.values.Value.TheVariants.{Null, Int, Text}
use Rattle.hg_model.specs.declared.values.NodeValue.{NodeValue}
use Rattle.hg_model.specs.declared.values.NodeValue.TheVariants.{Plain, Condition}
use Rattle.hg_model.specs.declared.trees.Truth.{Truth}
use Rattle.hg_model.specs.declared.trees.Truth.TheVariants.{Unknown}
use Rattle.hg_model.specs.declared.trees.Literal.{Literal}
use Rattle.hg_model.specs.declared.trees.Literal.TheVariants as literal
use Rattle.hg_model.specs.declared.trees.Op.{Op}
use Rattle.hg_model.specs.declared.trees.Op.TheVariants.{Add, Sub, Mul}
use Rattle.hg_model.specs.declared.trees.Node.{Node}
use Rattle.hg_model.specs.declared.trees.Node.TheVariants as node
use Rattle.hg_model.specs.declared.trees.Span.{Span}

-- the value at a place of a row; NULL behind its end
abbrev pub value_at : List Value → ℕ → Value
value_at row k = slice_index_or row k Null

abbrev pub as_value : NodeValue → Value
as_value (Plain v) = v
as_value (Condition t) = Null

abbrev pub as_truth : NodeValue → Truth
as_truth (Plain v) = Unknown
as_truth (Condition t) = t

-- the value, and the truth, of the node at an index
abbrev pub value_of : List NodeValue → ℕ → Value
value_of done n = as_value (slice_index_or done n (Plain Null))

abbrev pub truth_of : List NodeValue → ℕ → Truth
truth_of done n = as_truth (slice_index_or done n (Plain Null))

abbrev pub part_of : List ℕ → Span → List ℕ
part_of texts s = take s.len (drop s.at texts)

abbrev pub literal_value : List ℕ → Literal → Value
literal_value texts literal.Null = Null
literal_value texts (literal.Int x) = Int x
literal_value texts (literal.Text s) = Text (part_of texts s)

abbrev pub negative : Value → Value
negative Null = Null
negative (Int x) = Int (neg_ℤ x)
negative (Text t) = Null

-- arithmetic with NULL is NULL; with a text it is refused
abbrev pub arithmetic : Op → Value → Value → Value
arithmetic Add (Int x) (Int y) = Int (x +ℤ y)
arithmetic Sub (Int x) (Int y) = Int (x -ℤ y)
arithmetic Mul (Int x) (Int y) = Int (x *ℤ y)
arithmetic o Null w = Null
arithmetic o (Text s) w = Null
arithmetic o (Int x) Null = Null
arithmetic o (Int x) (Text t) = Null

-- the truth of a condition's node, of the nodes before it; `done` holds those
abbrev pub condition : Node → List NodeValue → Truth
condition (node.Compare c a b) done = compare c (value_of done a) (value_of done b)
condition (node.Both a b) done = both (truth_of done a) (truth_of done b)
condition (node.Either a b) done = either (truth_of done a) (truth_of done b)
condition (node.Not a) done = opposite (truth_of done a)
condition (node.IsNull a) done = known (is_null (value_of done a))
condition (node.NotNull a) done = known (not (is_null (value_of done a)))
condition _ done = Unknown

-- One node. `leaf` is its value where it is a column or an aggregate.
abbrev pub node_value : Value → List ℕ → Node → List NodeValue → NodeValue
node_value leaf texts (node.Lit l) done = Plain (literal_value texts l)
node_value leaf texts (node.Col c) done = Plain leaf
node_value leaf texts (node.Neg a) done = Plain (negative (value_of done a))
node_value leaf texts (node.Arith o a b) done = Plain (arithmetic o (value_of done a) (value_of done b))
node_value leaf texts (node.Compare c a b) done = Condition (condition (node.Compare c a b) done)
node_value leaf texts (node.Both a b) done = Condition (condition (node.Both a b) done)
node_value leaf texts (node.Either a b) done = Condition (condition (node.Either a b) done)
node_value leaf texts (node.Not a) done = Condition (condition (node.Not a) done)
node_value leaf texts (node.IsNull a) done = Condition (condition (node.IsNull a) done)
node_value leaf texts (node.NotNull a) done = Condition (condition (node.NotNull a) done)
node_value leaf texts (node.Aggregate f a) done = Plain leaf

abbrev pub values_from : List Value → List ℕ → List Node → List NodeValue → List NodeValue
values_from leaves texts [] done = done
values_from leaves texts (n ∷ ns) done =
    values_from leaves texts ns (done ++ node_value (value_at leaves (length done)) texts n done ∷ [])

-- what each node stands for, where `leaves` has the value of each column and aggregate at its index
abbrev pub values_of : List Value → List ℕ → List Node → List NodeValue
values_of leaves texts nodes = values_from leaves texts nodes []
