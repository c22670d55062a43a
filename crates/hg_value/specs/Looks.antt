-- The value that a look is at, and what a row chooses by numbers.
use Rattle.std.specs.Prelude.{ℕ, List, map}
use Rattle.hg_model.specs.Evaluation.{value_at}
use Rattle.hg_model.specs.declared.values.Value.{Value}
use Rattle.hg_model.specs.declared.values.Value.TheVariants as value
use Rattle.hg_value.specs.declared.look.Look.{Look}
use Rattle.hg_value.specs.declared.look.Look.TheVariants as look

abbrev pub value_of : Look → Value
value_of look.Null = value.Null
value_of (look.Int number) = value.Int number
value_of (look.Text text) = value.Text text.now

-- the values of a row at these numbers
abbrev pub chosen : List Value → List ℕ → List Value
chosen row columns = map (value_at row) columns
