-- Expressions of one number, and of a column that equals one.
use Rattle.std.proofs.Common.{◌≡◌, ℕ, false, List, [], ◌∷◌, None, pos}
use Rattle.hg_model.specs.Grammar as grammar
use Rattle.hg_model.specs.Grammar.{Expression, Sum, Read, with_node, next, Whole, equals}
use Rattle.hg_model.specs.Tokens.{Word, Digits, is_reserved, number_of}
use Rattle.hg_model.specs.declared.trees.Cmp.TheVariants as cmp
use Rattle.hg_model.specs.declared.trees.Literal.TheVariants as literal
use Rattle.hg_model.specs.declared.trees.Node.{Node}
use Rattle.hg_model.specs.declared.trees.Node.TheVariants as node

abbrev pub number_node : List ℕ → Node
number_node ds = node.Lit (literal.Int (pos (number_of ds)))

abbrev pub column_node : List ℕ → Node
column_node c = node.Col (record { table = None; name = c })

pub sum_number : (d : ℕ) (r : Read) (ds : List ℕ) → Expression Sum d r (Digits ds ∷ []) (with_node r (number_node ds)) (next r)
sum_number d r ds = grammar.Expression.sum_one (grammar.Expression.term_one (grammar.Expression.factor_prim (grammar.Expression.prim_number ds)))

pub sum_column : (d : ℕ) (r : Read) (c : List ℕ) → is_reserved c ≡ false → Expression Sum d r (Word c ∷ []) (with_node r (column_node c)) (next r)
sum_column d r c h = grammar.Expression.sum_one (grammar.Expression.term_one (grammar.Expression.factor_prim (grammar.Expression.prim_column (grammar.IsColumn.bare c h))))

pub whole_number : (r : Read) (ds : List ℕ) → Whole r (Digits ds ∷ []) (with_node r (number_node ds)) (next r)
whole_number r ds = grammar.Expression.or_one (grammar.Expression.and_one (grammar.Expression.not_none (grammar.Expression.pred_sum (sum_number 32 r ds))))

pub whole_equality : (r : Read) (c ds : List ℕ) → is_reserved c ≡ false
    → Whole r (Word c ∷ equals ∷ Digits ds ∷ []) (with_node (with_node (with_node r (column_node c)) (number_node ds)) (node.Compare cmp.Eq (next r) (next (with_node r (column_node c)))))
    (next (with_node (with_node r (column_node c)) (number_node ds)))
whole_equality r c ds h =
    grammar.Expression.or_one (grammar.Expression.and_one (grammar.Expression.not_none
    (grammar.Expression.pred_cmp (sum_column 32 r c h) grammar.IsCmp.eq (sum_number 32 (with_node r (column_node c)) ds))))
