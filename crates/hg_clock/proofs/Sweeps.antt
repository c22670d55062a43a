-- Sweeps that have come to their end.
use Rattle.std.proofs.Common.{◌≡◌, ℕ, Bool, List, subst}
use Rattle.std.specs.Prelude.{Option, None, Some, MatchOption, IfSome}
use Rattle.hg_clock.specs.Sweep.{AllOutIn, IsLeastIn, Lowers}

pub least_at_end : (scores : List ℕ) (out : List Bool) (low at high : ℕ) (best : Option ℕ) → at ≡ high
    → MatchOption best (AllOutIn out low at) (λ f. IsLeastIn scores out low at f)
    → IfSome best (λ f. IsLeastIn scores out low high f)
least_at_end scores out low at high None e h = tt
least_at_end scores out low at high (Some f) e h = let P : ℕ → Type 0 = λ n. IsLeastIn scores out low n f in subst P e h

pub lowers_at_end : (old new : List ℕ) (out : List Bool) (low at high amount : ℕ) → at ≡ high
    → Lowers old out low at amount new → Lowers old out low high amount new
lowers_at_end old new out low at high amount e h = let P : ℕ → Type 0 = λ n. Lowers old out low n amount new in subst P e h
