-- What the slow evaluator knows of a SELECT before it looks at rows.
use Rattle.std.specs.Prelude.{ℕ, List}
use Rattle.hg_model.specs.Query.{query_of}
use Rattle.hg_model.specs.SelectMeaning.{Setting}
use Rattle.hg_slow.specs.declared.tables.Places.{Places}
use Rattle.hg_model.specs.declared.trees.Select.{Select}

abbrev pub setting : Select → List ℕ → Places → Setting
setting select texts places =
    record { query = query_of select; texts = texts; positions = places.positions.items; targets = places.targets.items }
