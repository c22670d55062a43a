use Rattle.std.proofs.Common.{◌≡◌, ◌+◌, take, sum_by}
use Rattle.hg_base.specs.PlainEntries.{entry_size}
use Rattle.hg_base.proofs.plain_page.offset_of.Given as goal

abbrev pub invariant-loop-i : goal.invariant-loop-i
invariant-loop-i l = l.at ≡ 64 + sum_by entry_size (take l.i l.entries)
