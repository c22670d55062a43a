-- Whether values and the nodes of a statement may be evaluated in 128 bits. Our own rule.
use Rattle.std.specs.Prelude.{ℕ, suc, Bool, true, List, [], ◌∷◌, ◌++◌, Option, Some, None, ◌+◌, ◌<◌, ◌^◌, nat_abs, nat_le, nat_lt, length, ◌&&◌, IsTrue, ⊤}
use Rattle.std.specs.List.{list_all}
use Rattle.hg_model.specs.Aggregates.{add_value}
use Rattle.hg_model.specs.Evaluation.{part_of, as_value, node_value, value_at}
use Rattle.hg_model.specs.SelectMeaning.{Setting, operands}
use Rattle.hg_model.specs.Types.{all_narrow}
use Rattle.hg_model.specs.Value.{is_chars}
use Rattle.hg_model.specs.declared.values.Value.{Value}
use Rattle.hg_model.specs.declared.values.Value.TheVariants.{Null, Int, Text}
use Rattle.hg_model.specs.declared.values.NodeValue.{NodeValue}
use Rattle.hg_model.specs.declared.trees.Literal.{Literal}
use Rattle.hg_model.specs.declared.trees.Literal.TheVariants as literal
use Rattle.hg_model.specs.declared.trees.Fold.{Fold}
use Rattle.hg_model.specs.declared.trees.Fold.TheVariants as of
use Rattle.hg_model.specs.declared.trees.Node.{Node}
use Rattle.hg_model.specs.declared.trees.Node.TheVariants as node

-- a number lies below 2^b in magnitude
abbrev pub IsBelow : ℕ → Value → Type 0
IsBelow b Null = ⊤
IsBelow b (Int x) = nat_abs x < 2 ^ b
IsBelow b (Text t) = ⊤

-- a text literal names a part of the statement's texts that is a text
abbrev pub literal_fits : List ℕ → Literal → Bool
literal_fits texts literal.Null = true
literal_fits texts (literal.Int x) = true
literal_fits texts (literal.Text s) = nat_le (s.at + s.len) (length texts) && is_chars (part_of texts s)

abbrev pub text_fits : List ℕ → Node → Bool
text_fits texts (node.Lit l) = literal_fits texts l
text_fits texts _ = true

-- every number that the nodes give one after the other lies below 2^126 in magnitude
abbrev pub AllBelow : List Value → List ℕ → List Node → List NodeValue → Type 0
AllBelow leaves texts [] done = ⊤
AllBelow leaves texts (n ∷ ns) done =
    IsBelow 126 (as_value (node_value (value_at leaves (length done)) texts n done))
    × AllBelow leaves texts ns (done ++ node_value (value_at leaves (length done)) texts n done ∷ [])

-- every sum on the way lies below 2^126 in magnitude
abbrev pub SumsBelow : List Value → Value → Type 0
SumsBelow [] sum = ⊤
SumsBelow (v ∷ vs) sum = IsBelow 126 (add_value sum v) × SumsBelow vs (add_value sum v)

abbrev pub FoldFits : Fold → List Value → Type 0
FoldFits of.CountRows vs = ⊤
FoldFits of.Count vs = ⊤
FoldFits of.Sum vs = SumsBelow vs Null
FoldFits of.Min vs = ⊤
FoldFits of.Max vs = ⊤

-- a number of 32 bits, as a column of INTEGER holds it
abbrev pub is_small : Value → Bool
is_small Null = true
is_small (Int x) = nat_lt (nat_abs x) (2 ^ 32)
is_small (Text t) = true

abbrev pub is_small_row : List Value → Bool
is_small_row row = list_all is_small row

-- a node's children stand before it
abbrev pub stands_before_place : Option ℕ → ℕ → Bool
stands_before_place None k = true
stands_before_place (Some a) k = nat_lt a k

abbrev pub has_children_before : ℕ → Node → Bool
has_children_before k (node.Lit l) = true
has_children_before k (node.Col c) = true
has_children_before k (node.Neg a) = nat_lt a k
has_children_before k (node.Arith o a b) = nat_lt a k && nat_lt b k
has_children_before k (node.Compare c a b) = nat_lt a k && nat_lt b k
has_children_before k (node.Both a b) = nat_lt a k && nat_lt b k
has_children_before k (node.Either a b) = nat_lt a k && nat_lt b k
has_children_before k (node.Not a) = nat_lt a k
has_children_before k (node.IsNull a) = nat_lt a k
has_children_before k (node.NotNull a) = nat_lt a k
has_children_before k (node.Aggregate f a) = stands_before_place a k

abbrev pub is_tree_from : ℕ → List Node → Bool
is_tree_from k [] = true
is_tree_from k (n ∷ ns) = has_children_before k n && is_tree_from (suc k) ns

-- a list of nodes in which children stand before their parents
abbrev pub is_tree : List Node → Bool
is_tree nodes = is_tree_from 0 nodes

-- What has to hold of the nodes of a statement, so that they can be evaluated in 128 bits over rows of
-- small numbers: of a statement that was read and bound all three hold.
pub record IsSound (texts : List ℕ) (nodes : List Node) : Type 0 where
  pub tree : IsTrue (is_tree nodes)
  pub narrow : IsTrue (all_narrow nodes)
  pub texts_fit : IsTrue (list_all (text_fits texts) nodes)

-- the sum of a group may be computed in 128 bits, where the node is one
abbrev pub LeafFits : Setting → List (List Value) → Node → Type 0
LeafFits s rows (node.Aggregate f a) = FoldFits f (operands s a rows)
LeafFits s rows _ = ⊤

-- a group of small rows, not too many for a sum of them
abbrev pub is_small_group : List (List Value) → Bool
is_small_group rows = list_all is_small_row rows && nat_le (length rows) (2 ^ 30)
