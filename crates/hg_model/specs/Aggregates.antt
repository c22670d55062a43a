-- The five aggregates. SQL-92, section 6.5: COUNT(*) counts rows, the others pass NULL over; of no
-- value COUNT is 0 and SUM, MIN and MAX are NULL.
use Rattle.std.specs.Prelude.{ℕ, suc, List, pos, ◌+ℤ◌, cond, length}
use Rattle.std.specs.List.{fold}
use Rattle.std.specs.Ordering.{is_lt}
use Rattle.hg_model.specs.Order.{value_cmp}
use Rattle.hg_model.specs.declared.values.Value.{Value}
use Rattle.hg_model.specs.declared.values.Value.TheVariants.{Null, Int, Text}
use Rattle.hg_model.specs.declared.trees.Fold.{Fold}
use Rattle.hg_model.specs.declared.trees.Fold.TheVariants as of

-- a sum so far and one more value. A text is never summed: such a statement is refused.
abbrev pub add_value : Value → Value → Value
add_value sum Null = sum
add_value Null (Int y) = Int y
add_value (Int x) (Int y) = Int (x +ℤ y)
add_value (Text s) (Int y) = Text s
add_value sum (Text t) = sum

-- the least value so far and one more
abbrev pub lesser : Value → Value → Value
lesser least Null = least
lesser Null (Int y) = Int y
lesser (Int x) (Int y) = cond (is_lt (value_cmp (Int y) (Int x))) (Int y) (Int x)
lesser (Text s) (Int y) = Int y
lesser Null (Text t) = Text t
lesser (Int x) (Text t) = Int x
lesser (Text s) (Text t) = cond (is_lt (value_cmp (Text t) (Text s))) (Text t) (Text s)

-- the greatest value so far and one more
abbrev pub greater : Value → Value → Value
greater most Null = most
greater Null (Int y) = Int y
greater (Int x) (Int y) = cond (is_lt (value_cmp (Int x) (Int y))) (Int y) (Int x)
greater (Text s) (Int y) = Text s
greater Null (Text t) = Text t
greater (Int x) (Text t) = Text t
greater (Text s) (Text t) = cond (is_lt (value_cmp (Text s) (Text t))) (Text t) (Text s)

abbrev pub count_value : ℕ → Value → ℕ
count_value n Null = n
count_value n (Int y) = suc n
count_value n (Text t) = suc n

-- an aggregate over what its operand gives of each row
abbrev pub aggregate : Fold → List Value → Value
aggregate of.CountRows vs = Int (pos (length vs))
aggregate of.Count vs = Int (pos (fold count_value 0 vs))
aggregate of.Sum vs = fold add_value Null vs
aggregate of.Min vs = fold lesser Null vs
aggregate of.Max vs = fold greater Null vs
