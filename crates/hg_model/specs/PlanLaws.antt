-- Laws of conditions and plans.
use Rattle.std.specs.Prelude.{◌≡◌, ◌<◌, ℕ, List, IsTrue, length}
use Rattle.std.specs.List.{All, flat_map, range_with_len}
use Rattle.hg_model.specs.Bag.{SameBag}
use Rattle.hg_model.specs.Conditions.{meets, split_conditions, first_table, tested_at}
use Rattle.hg_model.specs.Query.{Query}
use Rattle.hg_model.specs.SelectMeaning.{Setting, keeps_row}
use Rattle.hg_model.specs.Width.{is_tree}
use Rattle.hg_model.specs.declared.tables.FromColumn.{FromColumn}
use Rattle.hg_model.specs.declared.values.Value.{Value}

-- a row passes ON and WHERE exactly where it meets each of the conditions that these are split into
abbrev pub SplittingKeepsRows : Type 0
SplittingKeepsRows = (s : Setting) (row : List Value) → IsTrue (is_tree s.query.nodes) → meets s (split_conditions s.query) row ≡ keeps_row s row

-- where the columns of each condition are there at some table, each condition is tested once
abbrev pub EachIsTestedOnce : Type 0
EachIsTestedOnce = (scope : List FromColumn) (positions : List ℕ) (q : Query)
    → All (λ n. first_table scope positions q n < length q.tables) (split_conditions q)
    → SameBag (flat_map (tested_at scope positions q) (range_with_len 0 (length q.tables))) (split_conditions q)
