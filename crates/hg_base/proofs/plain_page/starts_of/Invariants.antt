use Rattle.std.proofs.Common.{◌≡◌, take, sum_by}
use Rattle.hg_base.specs.PlainEntries.{bytes_used, links_used}
use Rattle.hg_base.proofs.plain_page.starts_of.Given as goal

abbrev pub invariant-loop-i : goal.invariant-loop-i
invariant-loop-i l =
    (l.starts.bytes ≡ sum_by bytes_used (take l.i l.entries)) × (l.starts.links ≡ sum_by links_used (take l.i l.entries))
