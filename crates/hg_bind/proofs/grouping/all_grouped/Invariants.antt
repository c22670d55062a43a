use Rattle.std.proofs.Common.{◌≡◌, ◌-◌, length, map}
use Rattle.std.specs.Prelude.{nat_eq, slice_index}
use Rattle.std.specs.List.{list_all, list_any, range_with_len}
use Rattle.hg_bind.proofs.grouping.all_grouped.Given as goal

abbrev pub invariant-loop-place : goal.invariant-loop-place
invariant-loop-place l =
    list_all (λ p. list_any (nat_eq p) (map (slice_index l.positions) l.group)) (range_with_len l.place (length l.scope - l.place))
    ≡ list_all (λ p. list_any (nat_eq p) (map (slice_index l.positions) l.group)) (range_with_len 0 (length l.scope))
