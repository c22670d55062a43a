-- Keys as numbers. Our own rule.
use Rattle.std.specs.Prelude.{ℕ, ◌+◌, ◌*◌, zero, suc, List, [], ◌∷◌}

-- The number that n and then k bytes spell, the first one the highest. Zeros stand for bytes that are not
-- there.
abbrev pub spell : ℕ → ℕ → List ℕ → ℕ
spell zero n bs = n
spell (suc k) n [] = spell k (n * 256) []
spell (suc k) n (b ∷ bs) = spell k (n * 256 + b) bs

-- the number of the first eight bytes
unfoldable pub word_of : List ℕ → ℕ
word_of bs = spell 8 0 bs
