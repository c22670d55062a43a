-- What makes a row storable. Our own rule.
use Rattle.std.specs.Prelude.{◌≡◌, ◌<◌, List, None, ⊤}
use Rattle.std.specs.List.{AllByRecursion}
use Rattle.hg_model.specs.declared.trees.Column.{Column}
use Rattle.hg_model.specs.declared.trees.SqlType.{SqlType}
use Rattle.hg_model.specs.declared.trees.SqlType.TheVariants.{Integer, Varchar}
use Rattle.hg_model.specs.declared.values.Value.{Value}
use Rattle.hg_dml.specs.Rows.{rows_cause}
use Rattle.hg_dml.specs.Steps.{FitRows, IsShort}

-- a length of a type is a byte
abbrev pub IsSmallType : SqlType → Type 0
IsSmallType Integer = ⊤
IsSmallType (Varchar n) = n < 256

abbrev pub AreSmall : List Column → Type 0
AreSmall columns = AllByRecursion (λ (c : Column). IsSmallType c.ty) columns

-- rows against which nothing stands, and which may be put into a table of these columns
pub record AreReady (columns : List Column) (rows : List (List Value)) : Type 0 where
  pub no_cause : rows_cause columns rows ≡ None
  pub fit : FitRows columns rows
  pub short : AllByRecursion IsShort rows
