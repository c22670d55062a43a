-- Groups. SQL-92, section 7.7: rows with equal values in the grouping columns form one group, two
-- NULLs being equal. That groups stand in order of first appearance is our own rule; it shows nowhere.
use Rattle.std.specs.Prelude.{Bool, List, [], ◌∷◌, ◌++◌, if◌then◌else◌, map}
use Rattle.std.specs.List.{list_any, filter}
use lib.Pointwise.{pointwise}
use Rattle.hg_model.specs.NullLogic.{same_value}
use Rattle.hg_model.specs.declared.values.Value.{Value}

-- place by place the same value, NULL with NULL too
abbrev pub same_values : List Value → List Value → Bool
same_values = pointwise same_value

-- each list of values once, in order of first appearance
abbrev pub firsts_from : List (List Value) → List (List Value) → List (List Value)
firsts_from kept [] = kept
firsts_from kept (k ∷ ks) = firsts_from (if list_any (same_values k) kept then kept else kept ++ k ∷ []) ks

abbrev pub firsts : List (List Value) → List (List Value)
firsts keys = firsts_from [] keys

-- the groups of a list of rows by a key: for each key the rows that have it
abbrev pub groups_by : (List Value → List Value) → List (List Value) → List (List (List Value))
groups_by key rows = map (λ k. filter (λ row. same_values (key row) k) rows) (firsts (map key rows))
