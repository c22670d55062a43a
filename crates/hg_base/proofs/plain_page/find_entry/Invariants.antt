use Rattle.std.proofs.Common.{◌≡◌, ◌+◌, take, drop, sum_by, option_map}
use Rattle.hg_base.specs.PlainEntries.{entry_size, found_from}
use Rattle.hg_base.proofs.plain_page.find_entry.Given as goal

abbrev pub invariant-loop-i : goal.invariant-loop-i
invariant-loop-i l =
    (l.at ≡ 64 + sum_by entry_size (take l.i l.entries))
    × (found_from l.base l.a 64 l.entries ≡ option_map (λ n. l.i + n) (found_from l.base l.a l.at (drop l.i l.entries)))
