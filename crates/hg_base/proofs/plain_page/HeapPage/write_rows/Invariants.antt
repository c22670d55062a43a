use Rattle.std.proofs.Common.{◌≡◌, take}
use Rattle.hg_base.specs.PlainDrains.{rows_bytes}
use Rattle.hg_base.proofs.plain_page.HeapPage.write_rows.Given as goal

abbrev pub invariant-loop-index : goal.invariant-loop-index
invariant-loop-index l = l.rows.items ≡ rows_bytes (take l.index l.self)
