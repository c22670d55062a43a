use Rattle.std.proofs.Common.{◌≡◌, ◌+◌, ◌-◌, ◌^◌}
use Rattle.std.specs.List.{position_or_len, range_with_len}
use Rattle.std.specs.Prelude.{nat_lt}
use Rattle.hg_bind.proofs.width.digits_within.Given as goal

abbrev pub invariant-loop-place : goal.invariant-loop-place
invariant-loop-place l = l.place + position_or_len (λ b. nat_lt l.number (2 ^ (b + 1))) (range_with_len l.place (l.limit - l.place)) ≡ position_or_len (λ b. nat_lt l.number (2 ^ (b + 1))) (range_with_len 0 l.limit)
