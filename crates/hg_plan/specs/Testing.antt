-- How planning finds where a condition is tested: for each node the last table of FROM that it needs, and marks
-- on the nodes that are conditions. Our own rule.
use Rattle.std.specs.Prelude.{◌≡◌, ℕ, suc, ◌+◌, max, Bool, true, false, List, [], ◌∷◌, ◌++◌, nat_eq, slice_index_or, slice_set, if◌then◌else◌, ⊤}
use Rattle.std.specs.List.{filter, list_all}
use Rattle.hg_model.specs.declared.trees.Node.{Node}
use Rattle.hg_model.specs.declared.trees.Node.TheVariants as node
use Rattle.hg_plan.specs.declared.plan.TableLoop.{TableLoop}

-- for each node: the last table, by its position in FROM, that has a column at it or below it, outside
-- aggregates; the first table where there is none
abbrev pub latest_at : List ℕ → ℕ → ℕ
latest_at done n = slice_index_or done n 0

abbrev pub latest_of : ℕ → Node → List ℕ → ℕ
latest_of table (node.Lit l) done = 0
latest_of table (node.Col c) done = table
latest_of table (node.Neg a) done = latest_at done a
latest_of table (node.Arith o a b) done = max (latest_at done a) (latest_at done b)
latest_of table (node.Compare c a b) done = max (latest_at done a) (latest_at done b)
latest_of table (node.Both a b) done = max (latest_at done a) (latest_at done b)
latest_of table (node.Either a b) done = max (latest_at done a) (latest_at done b)
latest_of table (node.Not a) done = latest_at done a
latest_of table (node.IsNull a) done = latest_at done a
latest_of table (node.NotNull a) done = latest_at done a
latest_of table (node.Aggregate f a) done = 0

abbrev pub latest_from : List Node → List (ℕ × ℕ) → List ℕ → List ℕ
latest_from [] places done = done
latest_from (n ∷ ns) [] done = done
latest_from (n ∷ ns) (p ∷ ps) done = latest_from ns ps (done ++ latest_of p.0 n done ∷ [])

-- the numbers of the nodes that are marked, where the marks are those from the k-th node on
abbrev pub marked_from : ℕ → List Bool → List ℕ
marked_from k [] = []
marked_from k (m ∷ ms) = if m then k ∷ marked_from (k + 1) ms else marked_from (k + 1) ms

abbrev pub marked : List Bool → List ℕ
marked marks = marked_from 0 marks

-- a marked AND passes its mark to its two children
abbrev pub passed_if : Bool → ℕ → ℕ → ℕ → List Bool → List Bool
passed_if true k a b marks = slice_set (slice_set (slice_set marks k false) a true) b true
passed_if false k a b marks = marks

abbrev pub passed : ℕ → Node → List Bool → List Bool
passed k (node.Both a b) marks = passed_if (slice_index_or marks k false) k a b marks
passed k _ marks = marks

-- two lists have the same members
abbrev pub HaveSame : List ℕ → List ℕ → Type 0
HaveSame xs ys = (p : ℕ → Bool) → list_all p xs ≡ list_all p ys

-- the marked nodes that are tested at the k-th table
abbrev pub marked_at : List Bool → List ℕ → ℕ → List ℕ
marked_at marks latest k = filter (λ n. nat_eq (latest_at latest n) k) (marked marks)

abbrev pub AreMarkedAt : List Bool → List ℕ → ℕ → List TableLoop → Type 0
AreMarkedAt marks latest k [] = ⊤
AreMarkedAt marks latest k (l ∷ ls) = (l.tests.items ≡ marked_at marks latest k) × AreMarkedAt marks latest (suc k) ls
