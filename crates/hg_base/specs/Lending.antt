-- What it says that a call lends bytes.
use Rattle.std.specs.Prelude.{ℕ, List, ◌++◌, take, drop, length}
use Rattle.std.specs.Borrow.{Lends, MutBor, Fml, RattleType, Array, u8}

-- The call lends bytes of s: once the last list w stands behind r, s ends as F w.
abbrev pub LendsBytes : (S : RattleType) → MutBor S.Denot → MutBor (List ℕ) → (List ℕ → S.Denot) → Fml
LendsBytes S s r F = Lends S (Array u8 0) s r F

-- xs with ws written over its front; it keeps its length
abbrev pub refit : List ℕ → List ℕ → List ℕ
refit xs ws = take (length xs) (ws ++ drop (length ws) xs)
