-- What the tables tell by which slots are found: one entry for each column that four tables may have.
use Rattle.std.specs.Prelude.{◌≡◌, ℕ, Bool, false, List, ◌||◌, ◌<◌, length, slice_index_or, slice_index}
use Rattle.hg_model.specs.declared.trees.Node.{Node}
use Rattle.hg_expr.specs.Slots.{names_key, is_named, number_of}

-- no column is marked
pub record AreUnmarked (marks : List Bool) : Type 0 where
  pub room : length marks ≡ 64
  pub each : (key : ℕ) → slice_index_or marks key false ≡ false

-- the column that a node names is marked beside those that were
abbrev pub MarksOne : Node → ℕ × ℕ → List Bool → List Bool → Type 0
MarksOne n place old new = (key : ℕ) → key < 64 → slice_index_or new key false ≡ names_key key n place || slice_index_or old key false

-- the columns that the nodes name are marked
pub record AreMarks (nodes : List Node) (places : List (ℕ × ℕ)) (marks : List Bool) : Type 0 where
  pub room : length marks ≡ 64
  pub each : (key : ℕ) → key < 64 → slice_index_or marks key false ≡ is_named nodes places key

-- each column has its number
pub record AreNumbers (nodes : List Node) (places : List (ℕ × ℕ)) (numbers : List ℕ) : Type 0 where
  pub room : length numbers ≡ 64
  pub each : (key : ℕ) → key < 64 → slice_index numbers key ≡ number_of nodes places key
