use Rattle.std.proofs.Common.{◌∙◌, sym, arith, drop, length-drop}
use Rattle.hg_base.specs.PlainEntryLaws.{found-here}
use Rattle.hg_base.proofs.plain_page.find_entry.Goals as goal

pub returns-then-base-at : goal.returns-then-base-at
returns-then-base-at c =
    found-here c.args.base c.args.a c.loop-i.at c.loop-i.i (drop c.loop-i.i c.args.entries.now)
    (let t = c.if-base-at.true in omega arith)
    (let t = c.loop-i-test.true in omega (arith, length-drop c.loop-i.i c.args.entries.now))
    ∙ sym c.loop-i.invariant.1
