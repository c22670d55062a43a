-- Counts of faults, of calls and of bytes. Our own rule: a count goes up to 2^64 - 1 and then stays there.
use Rattle.std.specs.Prelude.{ℕ, ◌+◌, ◌-◌, ◌^◌, ◌≤◌, min}
use Rattle.std.proofs.Common.{arith}

-- a count after n more
abbrev pub raised : ℕ → ℕ → ℕ
raised count n = min (count + n) (2 ^ 64 - 1)

-- the count rose, or it stands at its end
abbrev pub Rose : ℕ → ℕ → Type 0
Rose before now = raised before 1 ≤ now

-- a count never passes its end
abbrev pub Ends : ℕ → Type 0
Ends count = count ≤ 2 ^ 64 - 1

pub none_ends : Ends 0
none_ends = omega arith
