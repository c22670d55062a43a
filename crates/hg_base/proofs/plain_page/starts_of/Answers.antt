use Rattle.std.proofs.Common.{arith, None}
use Rattle.std.proofs.lemmas.List.Sums.{sum_by-take-le, get_or-le-sum_by}
use Rattle.hg_base.specs.PlainEntries.{bytes_used, links_used}
use Rattle.hg_base.specs.PlainEntryLaws.{room-of}
use Rattle.hg_base.specs.declared.plain_page.PlainEntry.TheVariants.{Row}
use Rattle.hg_base.proofs.plain_page.starts_of.Goals as goal

pub overflow_add-starts : goal.overflow_add-starts
overflow_add-starts c =
    let e = c.bytes.ensures in let s = c.requires.small in let t = c.loop-i-test.true in let n = c.requires.inside in
    omega (
      arith,
      sum_by-take-le bytes_used c.args.entries.now c.loop-i.i,
      get_or-le-sum_by bytes_used c.args.entries.now c.loop-i.i (Row 0 None) (omega arith),
      room-of c.args.entries.now,
      c.loop-i.invariant.0,
    )

pub overflow_add-starts-in-loop-i : goal.overflow_add-starts-in-loop-i
overflow_add-starts-in-loop-i c =
    let e = c.links.ensures in let s = c.requires.small in let t = c.loop-i-test.true in let n = c.requires.inside in
    omega (
      arith,
      sum_by-take-le links_used c.args.entries.now c.loop-i.i,
      get_or-le-sum_by links_used c.args.entries.now c.loop-i.i (Row 0 None) (omega arith),
      room-of c.args.entries.now,
      c.loop-i.invariant.1,
    )
