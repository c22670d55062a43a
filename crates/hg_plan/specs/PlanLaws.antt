-- A SELECT that was read and bound may be planned. Our own rule.
use Rattle.std.specs.Prelude.{◌≡◌, ℕ, ◌≤◌, List, length, nat_lt, IsTrue}
use Rattle.std.specs.List.{list_all}
use Rattle.hg_bind.specs.Bound.{tables_of}
use Rattle.hg_bind.specs.BoundMeaning.{KeysStandApart}
use Rattle.hg_bind.specs.BoundSelect.{IsBoundSelect}
use Rattle.hg_catalog.specs.Contents.{Contents, IsSound}
use Rattle.hg_expr.specs.Slots.{ArePlaced}
use Rattle.hg_model.specs.Query.{Query}
use Rattle.hg_model.specs.SelectMeaning.{conditions}
use Rattle.hg_model.specs.Width.{is_tree}

-- what planning asks of a SELECT in its bound form
pub record MayBePlanned (bound : Query) (numbers : List ℕ) (places : List (ℕ × ℕ)) : Type 0 where
  pub each : length numbers ≡ length bound.tables
  pub placed : ArePlaced bound.nodes places
  pub tree : IsTrue (is_tree bound.nodes)
  pub inside : IsTrue (list_all (λ n. nat_lt n (length bound.nodes)) (conditions bound))

abbrev pub BoundMayBePlanned : Type 0
BoundMayBePlanned = (c : Contents) (q bound : Query) (numbers : List ℕ) (places : List (ℕ × ℕ)) → IsSound c → IsBoundSelect (tables_of c) q bound numbers places
    → KeysStandApart q → IsTrue (is_tree q.nodes) → length q.tables ≤ 4 → MayBePlanned bound numbers places
