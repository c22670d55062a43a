-- An example that the tests are over.
use Rattle.std.specs.Prelude.{ℕ, List, [], ◌∷◌}

-- for each node of a SELECT over three tables the place of its column
abbrev pub three : List (ℕ × ℕ)
three =
    (0, 0) ∷ (0, 0) ∷ (1, 2) ∷ (255, 255) ∷ (1, 5) ∷ (255, 255) ∷ (255, 255) ∷ (255, 255) ∷ (2, 1)
    ∷ (1, 5) ∷ (255, 255) ∷ (255, 255) ∷ (255, 255) ∷ (255, 255) ∷ (0, 3) ∷ (255, 255) ∷ (255, 255) ∷ (2, 15)
    ∷ (1, 2) ∷ (255, 255) ∷ (255, 255) ∷ (255, 255) ∷ []
