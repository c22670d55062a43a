-- How two values stand to each other where a condition compares them. SQL-92, section 8.2: a
-- comparison with NULL is unknown. That numbers and texts are not compared is our own rule.
use Rattle.std.specs.Prelude.{Option, Some, None, ⊤, List, [], ◌∷◌}
use Rattle.std.specs.declared.cmp.Ordering.{Ordering}
use Rattle.hg_model.specs.NullLogic.{known, holds}
use Rattle.hg_model.specs.declared.trees.Cmp.{Cmp}
use Rattle.hg_model.specs.declared.trees.Truth.{Truth}
use Rattle.hg_model.specs.declared.trees.Truth.TheVariants.{Unknown}
use Rattle.hg_model.specs.declared.values.Value.{Value}
use Rattle.hg_model.specs.declared.values.Value.TheVariants.{Null, Int, Text}

-- two values of one type; NULL is of every type
abbrev pub AreOfOneType : Value → Value → Type 0
AreOfOneType Null w = ⊤
AreOfOneType (Int x) Null = ⊤
AreOfOneType (Int x) (Int y) = ⊤
AreOfOneType (Int x) (Text t) = ⊥
AreOfOneType (Text s) Null = ⊤
AreOfOneType (Text s) (Int y) = ⊥
AreOfOneType (Text s) (Text t) = ⊤

-- two rows of as many values, each two of one type
abbrev pub AreOfOneShape : List Value → List Value → Type 0
AreOfOneShape [] [] = ⊤
AreOfOneShape [] (w ∷ ws) = ⊥
AreOfOneShape (v ∷ vs) [] = ⊥
AreOfOneShape (v ∷ vs) (w ∷ ws) = AreOfOneType v w × AreOfOneShape vs ws

-- the truth of a comparison of two values that stand so to each other, or not at all
abbrev pub truth_by : Cmp → Option Ordering → Truth
truth_by c None = Unknown
truth_by c (Some o) = known (holds c o)
