-- What a lent page leaves behind.
use Rattle.std.specs.Prelude.{ℕ, List}
use Rattle.std.specs.Borrow.{Lends, MutBor, Fml, u8}
use denote.Array.{Array}
use Rattle.hg_raw.specs.declared.slots.Slots.{Slots}
use Rattle.hg_raw.specs.contracts.slots.Slots as slots
use Rattle.hg_raw.specs.contracts.chain.Chain as chain
use Rattle.hg_raw.specs.Frames.{ChainSeen, bytes_of, with_bytes, refit, with_page}

-- s with w written to part n
abbrev pub with_part : Slots → ℕ → List ℕ → Slots
with_part s n w = record s { held = with_bytes s.held n (refit (bytes_of s.held n) w) }

-- s ends with part n set to the last value behind r
abbrev pub LendsPart : MutBor Slots → ℕ → MutBor (List ℕ) → Fml
LendsPart s n r = Lends slots.the_row (Array u8 0) s r (with_part s.now n)

-- the chain ends with frame n set to the last value behind r
abbrev pub LendsPage : MutBor ChainSeen → ℕ → MutBor (List ℕ) → Fml
LendsPage c n r = Lends chain.the_row (Array u8 0) c r (with_page c.now n)
